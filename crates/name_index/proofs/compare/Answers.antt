use mathlib.Core.Path.{sym, ◌∙◌}
use native.Mathlib.Omega.{arith}
use borrow.Author.Tests.{eqb-true, eqb-false}
use lib.ListN.{length}
use Rattle.name_index.proofs.Order.{length_decides, same_length, none_behind, both_empty, last_decides}
use Rattle.name_index.proofs.compare.Goals as goal

pub returns-then-is_ne : goal.returns-then-is_ne
returns-then-is_ne c = length_decides c.args.a.now c.args.b.now c.cmp-by_length.ensures (sym c.is_ne.ensures ∙ c.if-is_ne.true)

pub returns-then-is_empty : goal.returns-then-is_empty
returns-then-is_empty c = let a = c.args.a.now in let b = c.args.b.now in
    both_empty a b (eqb-true (length a) 0 (sym c.is_empty.ensures ∙ c.if-is_empty.true))
    (same_length a b c.cmp-by_length.ensures (sym c.is_ne.ensures ∙ c.if-is_ne.false))

pub returns-then-is_ne-2 : goal.returns-then-is_ne-2
returns-then-is_ne-2 c = let a = c.args.a.now in let b = c.args.b.now in
    let e = same_length a b c.cmp-by_length.ensures (sym c.is_ne.ensures ∙ c.if-is_ne.false) in
    let n = eqb-false (length a) 0 (sym c.is_empty.ensures ∙ c.if-is_empty.false) in
    last_decides a b (length a) (omega (arith, n)) (omega arith) (omega (arith, e)) (none_behind a b (length a) (omega arith) (omega (arith, e)))
    c.cmp-by_last.ensures (sym c.is_ne-2.ensures ∙ c.if-is_ne-2.true)
