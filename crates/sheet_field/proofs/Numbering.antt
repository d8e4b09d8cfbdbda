-- Fields, operators and relations by their numbers.
use Prim.Native.Nat.{ℕ, ◌+◌, ◌-◌, ◌<◌, ◌≤◌}
use mathlib.Core.Path.{◌≡◌, sym, ap, ◌∙◌}
use mathlib.Core.List.{map}
use native.Mathlib.Omega.{arith}
use lib.ListN.{get_or, take, drop, get_or-eq_default, get_or-append}
use lib.Seq.{get_or-append-add}
use Rattle.base.proofs.Lists.{get_d_map_inside, last_of_law, among}
use Rattle.word.specs.declared.Relation.TheVariants.{AtLeast}
use Rattle.sheet.specs.declared.Operator.TheVariants.{Unlike}
use Rattle.sheet.specs.declared.Joining.TheVariants.{Or}
use Rattle.sheet.specs.declared.Field.TheVariants.{Else, Not, Binary, Compare, Run}
use Rattle.sheet_field.specs.Memory.{operators, relations, bare_fields, numbered_fields, shapes, field_of}

pub last_numbered : (k v : ℕ) → 5 ≤ k → Run Or v ≡ get_or numbered_fields k (Run Or) v
last_numbered k v h = ap (λ f. f v) (last_of_law (take 5 numbered_fields) (Run Or) k h)

pub bare_again : (k v : ℕ) → k < 7 → get_or bare_fields k Not ≡ field_of k v
unfolding shapes field_of
bare_again k v h =
    ap
    (λ f. f v)
    (sym
    (get_or-append (take 7 shapes) (drop 7 shapes) (λ v. Else) k h
    ∙ get_d_map_inside (λ f v. f) bare_fields k (λ v. Else) Not h))

binary_field : (k v : ℕ) → k < 10 → Binary (get_or operators k Unlike) ≡ field_of (7 + k) v
unfolding shapes field_of
binary_field k v h =
    ap
    (λ f. f v)
    (sym
    (among (take 7 shapes) (map (λ o v. Binary o) operators) (drop 17 shapes) k (λ v. Else) h
    ∙ get_d_map_inside (λ o v. Binary o) operators k (λ v. Else) Unlike h))

compare_field : (k v : ℕ) → k < 6 → Compare (get_or relations k AtLeast) ≡ field_of (17 + k) v
unfolding shapes field_of
compare_field k v h =
    ap
    (λ f. f v)
    (sym
    (among (take 17 shapes) (map (λ r v. Compare r) relations) (drop 23 shapes) k (λ v. Else) h
    ∙ get_d_map_inside (λ r v. Compare r) relations k (λ v. Else) AtLeast h))

numbered_field : (k v : ℕ) → k < 6 → get_or numbered_fields k (Run Or) v ≡ field_of (23 + k) v
unfolding shapes field_of
numbered_field k v h =
    ap
    (λ f. f v)
    (sym
    (get_or-append-add (take 23 shapes) numbered_fields k (λ v. Else)
    ∙ get_d_map_inside (λ f. f) numbered_fields k (λ v. Else) (Run Or) h))

-- the same with the field's own number
own : (n k v : ℕ) → n ≤ k → field_of (n + (k - n)) v ≡ field_of k v
own n k v h = let e : n + (k - n) ≡ k = omega (arith, h) in ap (λ j. field_of j v) e

pub binary_again : (k v : ℕ) → 7 ≤ k → k < 17 → Binary (get_or operators (k - 7) Unlike) ≡ field_of k v
binary_again k v g h = binary_field (k - 7) v (omega arith) ∙ own 7 k v g

pub compare_again : (k v : ℕ) → 17 ≤ k → k < 23 → Compare (get_or relations (k - 17) AtLeast) ≡ field_of k v
compare_again k v g h = compare_field (k - 17) v (omega arith) ∙ own 17 k v g

pub numbered_again : (k v : ℕ) → 23 ≤ k → k < 29 → get_or numbered_fields (k - 23) (Run Or) v ≡ field_of k v
numbered_again k v g h = numbered_field (k - 23) v (omega arith) ∙ own 23 k v g

pub no_field : (k v : ℕ) → 29 ≤ k → Else ≡ field_of k v
unfolding shapes field_of
no_field k v h = ap (λ f. f v) (sym (get_or-eq_default shapes (λ v. Else) {n = k} h))
