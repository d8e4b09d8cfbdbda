use native.Mathlib.Omega.{arith}
use Rattle.front_end_forms.proofs.Placing.{over_temporaries, over_comparisons, over_orders, over_levels, fields_fit, comes_placed}
use Rattle.front_end_forms.proofs.place.Goals as goal

pub returns-then-size-gt-MOST_TEMPORARIES : goal.returns-then-size-gt-MOST_TEMPORARIES
returns-then-size-gt-MOST_TEMPORARIES c = λ q ns ls i h few is good. over_temporaries h c.args.k i _ _ is _ c.size_of-size.ensures c.if-size-gt-MOST_TEMPORARIES.true

pub returns-then-size-gt-MOST_COMPARISONS : goal.returns-then-size-gt-MOST_COMPARISONS
returns-then-size-gt-MOST_COMPARISONS c = λ q ns ls i h few is good. over_comparisons h c.args.k i _ _ is _ c.size_of-size.ensures c.if-size-gt-MOST_TEMPORARIES.false (let n = c.if-size-gt-MOST_COMPARISONS.true in omega (arith, n))

pub returns-then-p-size : goal.returns-then-p-size
returns-then-p-size c = λ q ns ls i h few is good. over_orders h c.args.k i _ _ is _ c.size_of-size.ensures c.if-size-gt-MOST_TEMPORARIES.false (let n = c.if-size-gt-MOST_COMPARISONS.false in omega (arith, n)) (let n = c.if-p-size.true in omega (arith, n))

pub returns-then-too_deep : goal.returns-then-too_deep
returns-then-too_deep c = λ q ns ls i h few is good. over_levels h c.args.k i _ _ is _ c.size_of-size.ensures c.if-size-gt-MOST_TEMPORARIES.false (let n = c.if-size-gt-MOST_COMPARISONS.false in omega (arith, n)) _ c.too_deep.ensures c.if-too_deep.true

pub returns-in_err-n : goal.returns-in_err-n
returns-in_err-n c = λ q ns ls i h few is good. fields_fit h c.args.k i _ _ is _ c.size_of-size.ensures good few c.if-size-gt-MOST_TEMPORARIES.false (let n = c.if-size-gt-MOST_COMPARISONS.false in omega (arith, n)) (let n = c.if-p-size.false in omega (arith, n)) _ c.too_deep.ensures c.if-too_deep.false _ _ c.append.ensures.told c.append.ensures.kept c.in_err-n.was

pub returns : goal.returns
returns c = λ q ns ls i h few is good. comes_placed h c.args.k i _ _ is _ c.size_of-size.ensures good few c.if-size-gt-MOST_TEMPORARIES.false (let n = c.if-size-gt-MOST_COMPARISONS.false in omega (arith, n)) (let n = c.if-p-size.false in omega (arith, n)) _ c.too_deep.ensures c.if-too_deep.false _ _ c.append.ensures.told c.append.ensures.kept _ c.in_ok-n.was _ _ c.open_group-count.ensures
