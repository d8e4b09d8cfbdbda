-- The tests that reading back makes of its guess say what they should: which instructions are formed as those of a sheet, and
-- which orders are the same.
use Prim.Native.Nat.{ℕ, ◌+◌}
use mathlib.Core.Path.{◌≡◌, refl, sym, ap, ap₂, ◌∙◌}
use mathlib.Core.Bool.{Bool, true, false, not}
use mathlib.Core.List.{List, [], ◌∷◌}
use native.Mathlib.Omega.{arith}
use borrow.Author.Tests.{lt-ltb, le-ltb, ltb-true, ltb-false, le-leb, leb-true, eq-eqb, eqb-true}
use lib.Dec.{ltb, leb, eqb}
use Rattle.base.specs.Choice.{pick}
use Rattle.base.proofs.Cases.{both_yes, chosen_second}
use Rattle.text.specs.Pieces.{greatest_number}
use Rattle.order.specs.declared.Order.{Order}
use Rattle.order.specs.Order.{operand}
use Rattle.order.specs.Memory.{number, order_of}
use Rattle.order.proofs.Numbers.{order_again}
use Rattle.sheet.specs.Sheet.{Expression, word, constant, negated, inverted, binary, Simple, set, send, goto}
use Rattle.sheet.specs.Sheet.{Condition, compares, joins, Part, end, plain, when, either, count}
use Rattle.sheet.specs.Formed.{IsVariable, Expressed, SimpleFormed}
use Rattle.sheet.specs.Condition.{comparisons, is_run, Merged, AllExpressed, ConditionFormed}
use Rattle.sheet.specs.Within.{PartFormed}
use Rattle.sheet.specs.ReadBack.{is_variable, also, is_expressed, is_simple_formed, all_expressed, is_merged, is_condition_formed}
use Rattle.sheet.specs.ReadBack.{is_part_formed, same_orders}

pub also_yes : (a b : Bool) → a ≡ true → b ≡ true → also a b ≡ true
unfolding pick
also_yes a b x y = rw (x, y)

no_true : {P : Type 0} → false ≡ true → P
no_true e = let z : ◌≡◌ {A = ℕ} 0 1 = cc in absurd (omega arith)

-- ---- words and expressions

pub variable_yes : (v w : ℕ) → IsVariable v w → is_variable v w ≡ true
unfolding pick
variable_yes v w h = rw (le-ltb w 2 h.0) (lt-ltb w (v + 2) h.1)

pub variable_told : (v w : ℕ) → is_variable v w ≡ true → IsVariable v w
variable_told v w e =
    let two = chosen_second (ltb w 2) false (ltb w (v + 2)) true no_true e in
    (ltb-false w 2 two.0, ltb-true w (v + 2) two.1)

expressed_yes : (v : ℕ) (e : Expression) → Expressed v e → is_expressed v e ≡ true
unfolding Expressed is_expressed
expressed_yes v (word w) x = variable_yes v w x
expressed_yes v (constant n) x = le-leb n greatest_number x
expressed_yes v (negated e) x = expressed_yes v e x
expressed_yes v (inverted e) x = expressed_yes v e x
expressed_yes v (binary o l r) x = also_yes _ _ (expressed_yes v l x.0) (expressed_yes v r x.1)

expressed_told : (v : ℕ) (e : Expression) → is_expressed v e ≡ true → Expressed v e
unfolding Expressed is_expressed
expressed_told v (word w) x = variable_told v w x
expressed_told v (constant n) x = leb-true n greatest_number x
expressed_told v (negated e) x = expressed_told v e x
expressed_told v (inverted e) x = expressed_told v e x
expressed_told v (binary o l r) x =
    let two = both_yes (is_expressed v l) _ x in (expressed_told v l two.0, expressed_told v r two.1)

-- ---- instructions

simple_yes : (v n : ℕ) (u : Simple) → SimpleFormed v n u → is_simple_formed v n u ≡ true
simple_yes v n (set w e) x = also_yes _ _ (variable_yes v w x.0) (expressed_yes v e x.1)
simple_yes v n (send e) x = expressed_yes v e x
simple_yes v n (goto s) x = also_yes _ _ (le-leb 1 s x.0) (le-leb s (n + 1) x.1)

simple_told : (v n : ℕ) (u : Simple) → is_simple_formed v n u ≡ true → SimpleFormed v n u
simple_told v n (set w e) x =
    let two = both_yes (is_variable v w) _ x in (variable_told v w two.0, expressed_told v e two.1)
simple_told v n (send e) x = expressed_told v e x
simple_told v n (goto s) x = let two = both_yes (leb 1 s) _ x in (leb-true 1 s two.0, leb-true s (n + 1) two.1)

-- ---- conditions

all_yes : (v : ℕ) (c : Condition) → AllExpressed v c → all_expressed v c ≡ true
unfolding AllExpressed all_expressed
all_yes v (compares r a b) f = also_yes _ _ (expressed_yes v a f.0) (expressed_yes v b f.1)
all_yes v (joins w a b) f = also_yes _ _ (all_yes v a f.0) (all_yes v b f.1)

all_told : (v : ℕ) (c : Condition) → all_expressed v c ≡ true → AllExpressed v c
unfolding AllExpressed all_expressed
all_told v (compares r a b) f =
    let two = both_yes (is_expressed v a) _ f in (expressed_told v a two.0, expressed_told v b two.1)
all_told v (joins w a b) f =
    let two = both_yes (all_expressed v a) _ f in (all_told v a two.0, all_told v b two.1)

merged_yes : (c : Condition) → Merged c → is_merged c ≡ true
unfolding Merged is_merged
merged_yes (compares r a b) m = refl
merged_yes (joins w a b) m =
    also_yes _ _ (ap not m.0) (also_yes _ _ (merged_yes a m.1) (merged_yes b m.2))

not_told : (t : Bool) → not t ≡ true → t ≡ false
not_told true e = sym e
not_told false e = refl

merged_told : (c : Condition) → is_merged c ≡ true → Merged c
unfolding Merged is_merged
merged_told (compares r a b) e = tt
merged_told (joins w a b) e =
    let apart = both_yes (not (is_run w a)) _ e in
    let members = both_yes (is_merged a) _ apart.1 in
    (not_told (is_run w a) apart.0, merged_told a members.0, merged_told b members.1)

condition_yes : (v : ℕ) (c : Condition) → ConditionFormed v c → is_condition_formed v c ≡ true
condition_yes v c f =
    also_yes _ _ (all_yes v c f.0) (also_yes _ _ (merged_yes c f.1) (le-leb (comparisons c) _ (omega (arith, f.2))))

condition_told : (v : ℕ) (c : Condition) → is_condition_formed v c ≡ true → ConditionFormed v c
condition_told v c f =
    let all = both_yes (all_expressed v c) _ f in
    let rest = both_yes (is_merged c) _ all.1 in
    (all_told v c all.0, merged_told c rest.0, omega (arith, leb-true (comparisons c) _ rest.1))

-- ---- parts

pub part_yes : (v n : ℕ) (x : Part) → PartFormed v n x → is_part_formed v n x ≡ true
unfolding PartFormed is_part_formed
part_yes v n end f = refl
part_yes v n (plain u l) f = also_yes _ _ (simple_yes v n u f.0) (part_yes v n l f.1)
part_yes v n (when c x l) f =
    also_yes _ _ (condition_yes v c f.0)
    (also_yes _ _ (le-leb 1 (count x) f.1) (also_yes _ _ (part_yes v n x f.2) (part_yes v n l f.3)))
part_yes v n (either c x y l) f =
    also_yes _ _ (condition_yes v c f.0)
    (also_yes _ _ (le-leb 1 (count x) f.1)
    (also_yes _ _ (le-leb 1 (count y) f.2)
    (also_yes _ _ (part_yes v n x f.3) (also_yes _ _ (part_yes v n y f.4) (part_yes v n l f.5)))))

pub part_told : (v n : ℕ) (x : Part) → is_part_formed v n x ≡ true → PartFormed v n x
unfolding PartFormed is_part_formed
part_told v n end f = tt
part_told v n (plain u l) f =
    let all = both_yes (is_simple_formed v n u) _ f in (simple_told v n u all.0, part_told v n l all.1)
part_told v n (when c x l) f =
    let all = both_yes (is_condition_formed v c) _ f in
    let filled = both_yes (leb 1 (count x)) _ all.1 in
    let parts = both_yes (is_part_formed v n x) _ filled.1 in
    (condition_told v c all.0, leb-true 1 (count x) filled.0, part_told v n x parts.0, part_told v n l parts.1)
part_told v n (either c x y l) f =
    let all = both_yes (is_condition_formed v c) _ f in
    let filled = both_yes (leb 1 (count x)) _ all.1 in
    let filled_too = both_yes (leb 1 (count y)) _ filled.1 in
    let first = both_yes (is_part_formed v n x) _ filled_too.1 in
    let second = both_yes (is_part_formed v n y) _ first.1 in (
      condition_told v c all.0,
      leb-true 1 (count x) filled.0,
      leb-true 1 (count y) filled_too.0,
      part_told v n x first.0,
      part_told v n y second.0,
      part_told v n l second.1,
    )

-- ---- orders

pub same_yes : (l : List Order) → same_orders l l ≡ true
unfolding same_orders
same_yes [] = refl
same_yes (o ∷ l) =
    also_yes _ _ (eq-eqb (number o) (number o) refl) (also_yes _ _ (eq-eqb (operand o) (operand o) refl) (same_yes l))

pub same_told : (l m : List Order) → same_orders l m ≡ true → l ≡ m
unfolding same_orders
same_told [] [] e = refl
same_told [] (q ∷ m) e = no_true e
same_told (o ∷ l) [] e = no_true e
same_told (o ∷ l) (q ∷ m) e =
    let shape = both_yes (eqb (number o) (number q)) _ e in
    let rest = both_yes (eqb (operand o) (operand q)) _ shape.1 in
    ap₂ ◌∷◌
    (sym (order_again o)
    ∙ ap₂ order_of (eqb-true (number o) (number q) shape.0) (eqb-true (operand o) (operand q) rest.0)
    ∙ order_again q)
    (same_told l m rest.1)
