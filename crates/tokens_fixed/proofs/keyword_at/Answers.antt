use native.Mathlib.Omega.{arith}
use Rattle.base.specs.Text.{bytes}
use Rattle.source.specs.declared.Token.TheVariants.{Mark}
use Rattle.tokens_fixed.proofs.Keywords.{by_hit, by_miss, by_none, whole}
use Rattle.tokens_fixed.proofs.keyword_at.Goals as goal

pub returns-in-Some : goal.returns-in-Some
unfolding bytes
returns-in-Some c =
    whole _ _ _
    (by_hit _ _ "endofprogram" (Mark 129) _ _ (omega arith) (omega arith) (rw c.in-Some.is at c.fixed_at.ensures.read))

pub returns-in-Some-fixed_at : goal.returns-in-Some-fixed_at
unfolding bytes
returns-in-Some-fixed_at c =
    whole _ _ _
    (by_miss _ _ "endofprogram" (Mark 129) _ _ (rw c.in_default.is at c.fixed_at.ensures.read)
    (by_hit _ _ "integer" (Mark 130) _ _ (omega arith) (omega arith) (rw c.in-Some-fixed_at.is at c.fixed_at-2.ensures.read)))

pub returns-in-Some-fixed_at-2 : goal.returns-in-Some-fixed_at-2
unfolding bytes
returns-in-Some-fixed_at-2 c =
    whole _ _ _
    (by_miss _ _ "endofprogram" (Mark 129) _ _ (rw c.in_default.is at c.fixed_at.ensures.read)
    (by_miss _ _ "integer" (Mark 130) _ _ (rw c.in_default-fixed_at.is at c.fixed_at-2.ensures.read)
    (by_hit _ _ "finish" (Mark 136) _ _ (omega arith) (omega arith) (rw c.in-Some-fixed_at-2.is at c.fixed_at-3.ensures.read))))

pub returns-in-Some-fixed_at-3 : goal.returns-in-Some-fixed_at-3
unfolding bytes
returns-in-Some-fixed_at-3 c =
    whole _ _ _
    (by_miss _ _ "endofprogram" (Mark 129) _ _ (rw c.in_default.is at c.fixed_at.ensures.read)
    (by_miss _ _ "integer" (Mark 130) _ _ (rw c.in_default-fixed_at.is at c.fixed_at-2.ensures.read)
    (by_miss _ _ "finish" (Mark 136) _ _ (rw c.in_default-fixed_at-2.is at c.fixed_at-3.ensures.read)
    (by_hit _ _ "begin" (Mark 128) _ _ (omega arith) (omega arith) (rw c.in-Some-fixed_at-3.is at c.fixed_at-4.ensures.read)))))

pub returns-in-Some-fixed_at-4 : goal.returns-in-Some-fixed_at-4
unfolding bytes
returns-in-Some-fixed_at-4 c =
    whole _ _ _
    (by_miss _ _ "endofprogram" (Mark 129) _ _ (rw c.in_default.is at c.fixed_at.ensures.read)
    (by_miss _ _ "integer" (Mark 130) _ _ (rw c.in_default-fixed_at.is at c.fixed_at-2.ensures.read)
    (by_miss _ _ "finish" (Mark 136) _ _ (rw c.in_default-fixed_at-2.is at c.fixed_at-3.ensures.read)
    (by_miss _ _ "begin" (Mark 128) _ _ (rw c.in_default-fixed_at-3.is at c.fixed_at-4.ensures.read)
    (by_hit _ _ "start" (Mark 135) _ _ (omega arith) (omega arith) (rw c.in-Some-fixed_at-4.is at c.fixed_at-5.ensures.read))))))

pub returns-in-Some-fixed_at-5 : goal.returns-in-Some-fixed_at-5
unfolding bytes
returns-in-Some-fixed_at-5 c =
    whole _ _ _
    (by_miss _ _ "endofprogram" (Mark 129) _ _ (rw c.in_default.is at c.fixed_at.ensures.read)
    (by_miss _ _ "integer" (Mark 130) _ _ (rw c.in_default-fixed_at.is at c.fixed_at-2.ensures.read)
    (by_miss _ _ "finish" (Mark 136) _ _ (rw c.in_default-fixed_at-2.is at c.fixed_at-3.ensures.read)
    (by_miss _ _ "begin" (Mark 128) _ _ (rw c.in_default-fixed_at-3.is at c.fixed_at-4.ensures.read)
    (by_miss _ _ "start" (Mark 135) _ _ (rw c.in_default-fixed_at-4.is at c.fixed_at-5.ensures.read)
    (by_hit _ _ "then" (Mark 132) _ _ (omega arith) (omega arith) (rw c.in-Some-fixed_at-5.is at c.fixed_at-6.ensures.read)))))))

pub returns-in-Some-fixed_at-6 : goal.returns-in-Some-fixed_at-6
unfolding bytes
returns-in-Some-fixed_at-6 c =
    whole _ _ _
    (by_miss _ _ "endofprogram" (Mark 129) _ _ (rw c.in_default.is at c.fixed_at.ensures.read)
    (by_miss _ _ "integer" (Mark 130) _ _ (rw c.in_default-fixed_at.is at c.fixed_at-2.ensures.read)
    (by_miss _ _ "finish" (Mark 136) _ _ (rw c.in_default-fixed_at-2.is at c.fixed_at-3.ensures.read)
    (by_miss _ _ "begin" (Mark 128) _ _ (rw c.in_default-fixed_at-3.is at c.fixed_at-4.ensures.read)
    (by_miss _ _ "start" (Mark 135) _ _ (rw c.in_default-fixed_at-4.is at c.fixed_at-5.ensures.read)
    (by_miss _ _ "then" (Mark 132) _ _ (rw c.in_default-fixed_at-5.is at c.fixed_at-6.ensures.read)
    (by_hit _ _ "else" (Mark 133) _ _ (omega arith) (omega arith) (rw c.in-Some-fixed_at-6.is at c.fixed_at-7.ensures.read))))))))

pub returns-in-Some-fixed_at-7 : goal.returns-in-Some-fixed_at-7
unfolding bytes
returns-in-Some-fixed_at-7 c =
    whole _ _ _
    (by_miss _ _ "endofprogram" (Mark 129) _ _ (rw c.in_default.is at c.fixed_at.ensures.read)
    (by_miss _ _ "integer" (Mark 130) _ _ (rw c.in_default-fixed_at.is at c.fixed_at-2.ensures.read)
    (by_miss _ _ "finish" (Mark 136) _ _ (rw c.in_default-fixed_at-2.is at c.fixed_at-3.ensures.read)
    (by_miss _ _ "begin" (Mark 128) _ _ (rw c.in_default-fixed_at-3.is at c.fixed_at-4.ensures.read)
    (by_miss _ _ "start" (Mark 135) _ _ (rw c.in_default-fixed_at-4.is at c.fixed_at-5.ensures.read)
    (by_miss _ _ "then" (Mark 132) _ _ (rw c.in_default-fixed_at-5.is at c.fixed_at-6.ensures.read)
    (by_miss _ _ "else" (Mark 133) _ _ (rw c.in_default-fixed_at-6.is at c.fixed_at-7.ensures.read)
    (by_hit _ _ "and" (Mark 137) _ _ (omega arith) (omega arith) (rw c.in-Some-fixed_at-7.is at c.fixed_at-8.ensures.read)))))))))

pub returns-in-Some-fixed_at-8 : goal.returns-in-Some-fixed_at-8
unfolding bytes
returns-in-Some-fixed_at-8 c =
    whole _ _ _
    (by_miss _ _ "endofprogram" (Mark 129) _ _ (rw c.in_default.is at c.fixed_at.ensures.read)
    (by_miss _ _ "integer" (Mark 130) _ _ (rw c.in_default-fixed_at.is at c.fixed_at-2.ensures.read)
    (by_miss _ _ "finish" (Mark 136) _ _ (rw c.in_default-fixed_at-2.is at c.fixed_at-3.ensures.read)
    (by_miss _ _ "begin" (Mark 128) _ _ (rw c.in_default-fixed_at-3.is at c.fixed_at-4.ensures.read)
    (by_miss _ _ "start" (Mark 135) _ _ (rw c.in_default-fixed_at-4.is at c.fixed_at-5.ensures.read)
    (by_miss _ _ "then" (Mark 132) _ _ (rw c.in_default-fixed_at-5.is at c.fixed_at-6.ensures.read)
    (by_miss _ _ "else" (Mark 133) _ _ (rw c.in_default-fixed_at-6.is at c.fixed_at-7.ensures.read)
    (by_miss _ _ "and" (Mark 137) _ _ (rw c.in_default-fixed_at-7.is at c.fixed_at-8.ensures.read)
    (by_hit _ _ "if" (Mark 131) _ _ (omega arith) (omega arith) (rw c.in-Some-fixed_at-8.is at c.fixed_at-9.ensures.read))))))))))

pub returns-in-Some-fixed_at-9 : goal.returns-in-Some-fixed_at-9
unfolding bytes
returns-in-Some-fixed_at-9 c =
    whole _ _ _
    (by_miss _ _ "endofprogram" (Mark 129) _ _ (rw c.in_default.is at c.fixed_at.ensures.read)
    (by_miss _ _ "integer" (Mark 130) _ _ (rw c.in_default-fixed_at.is at c.fixed_at-2.ensures.read)
    (by_miss _ _ "finish" (Mark 136) _ _ (rw c.in_default-fixed_at-2.is at c.fixed_at-3.ensures.read)
    (by_miss _ _ "begin" (Mark 128) _ _ (rw c.in_default-fixed_at-3.is at c.fixed_at-4.ensures.read)
    (by_miss _ _ "start" (Mark 135) _ _ (rw c.in_default-fixed_at-4.is at c.fixed_at-5.ensures.read)
    (by_miss _ _ "then" (Mark 132) _ _ (rw c.in_default-fixed_at-5.is at c.fixed_at-6.ensures.read)
    (by_miss _ _ "else" (Mark 133) _ _ (rw c.in_default-fixed_at-6.is at c.fixed_at-7.ensures.read)
    (by_miss _ _ "and" (Mark 137) _ _ (rw c.in_default-fixed_at-7.is at c.fixed_at-8.ensures.read)
    (by_miss _ _ "if" (Mark 131) _ _ (rw c.in_default-fixed_at-8.is at c.fixed_at-9.ensures.read)
    (by_hit _ _ "or" (Mark 138) _ _ (omega arith) (omega arith) (rw c.in-Some-fixed_at-9.is at c.fixed_at-10.ensures.read)))))))))))

pub returns : goal.returns
unfolding bytes
returns c =
    whole _ _ _
    (by_miss _ _ "endofprogram" (Mark 129) _ _ (rw c.in_default.is at c.fixed_at.ensures.read)
    (by_miss _ _ "integer" (Mark 130) _ _ (rw c.in_default-fixed_at.is at c.fixed_at-2.ensures.read)
    (by_miss _ _ "finish" (Mark 136) _ _ (rw c.in_default-fixed_at-2.is at c.fixed_at-3.ensures.read)
    (by_miss _ _ "begin" (Mark 128) _ _ (rw c.in_default-fixed_at-3.is at c.fixed_at-4.ensures.read)
    (by_miss _ _ "start" (Mark 135) _ _ (rw c.in_default-fixed_at-4.is at c.fixed_at-5.ensures.read)
    (by_miss _ _ "then" (Mark 132) _ _ (rw c.in_default-fixed_at-5.is at c.fixed_at-6.ensures.read)
    (by_miss _ _ "else" (Mark 133) _ _ (rw c.in_default-fixed_at-6.is at c.fixed_at-7.ensures.read)
    (by_miss _ _ "and" (Mark 137) _ _ (rw c.in_default-fixed_at-7.is at c.fixed_at-8.ensures.read)
    (by_miss _ _ "if" (Mark 131) _ _ (rw c.in_default-fixed_at-8.is at c.fixed_at-9.ensures.read)
    (by_miss _ _ "or" (Mark 138) _ _ (rw c.in_default-fixed_at-9.is at c.fixed_at-10.ensures.read)
    (by_none _ _)))))))))))
