use Rattle.std.proofs.Common.{◌∙◌, arith, to_z-of_z}
use Rattle.word.specs.Word.{negation, wrap}
use Rattle.word.proofs.SignedType.{negation_fits, word_of_negation}
use Rattle.word_arithmetic.proofs.neg.Goals as goal

pub returns-then-a-eq2147483648 : goal.returns-then-a-eq2147483648
unfolding negation wrap
returns-then-a-eq2147483648 c = omega arith

pub overflow_sub-to_signed : goal.overflow_sub-to_signed
overflow_sub-to_signed c = negation_fits c.args.a _ (omega arith) c.if-a-eq2147483648.false c.to_signed.ensures

pub returns : goal.returns
returns c =
    let a = c.args.a in
    let e = c.to_signed.ensures in
    c.to_word.ensures ∙ rw (to_z-of_z (negation_fits a _ (omega arith) c.if-a-eq2147483648.false e)) (word_of_negation a _ (omega arith) e)
