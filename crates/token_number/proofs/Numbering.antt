-- Tokens by their kinds.
use Prim.Native.Nat.{ℕ, ◌+◌, ◌-◌, ◌<◌, ◌≤◌}
use mathlib.Core.Path.{◌≡◌, refl, sym, ap, ◌∙◌}
use mathlib.Core.List.{map}
use native.Mathlib.Omega.{arith}
use lib.ListN.{get_or, take, drop, get_or-eq_default, get_or-append}
use lib.Seq.{get_or-append-add}
use Rattle.base.proofs.Lists.{get_d_map_inside}
use Rattle.base.proofs.Lists.{last_of_law, among}
use Rattle.word.specs.declared.Relation.TheVariants.{Equal, Unequal, Less, AtMost, Greater, AtLeast}
use Rattle.sheet.specs.declared.Operator.TheVariants.{Plus, Minus, Times, Over, Power, Left, Right, And, Or, Unlike}
use Rattle.sheet_field.specs.Memory.{operators, relations}
use Rattle.source.specs.declared.Token.{Token}
use Rattle.source.specs.declared.Token.TheVariants.{Name, Number, Quoted, Binary, Compare, Mark}
use Rattle.source.specs.Memory.{token_kind, token_carried, numbered_tokens, token_shapes, token_of}

pub last_numbered : (k v : ℕ) → 3 ≤ k → Mark v ≡ get_or numbered_tokens k Mark v
last_numbered k v h = ap (λ f. f v) (last_of_law (take 3 numbered_tokens) Mark k h)

pub numbered_again : (k v : ℕ) → k < 4 → get_or numbered_tokens k Mark v ≡ token_of k v
unfolding token_shapes token_of
numbered_again k v h = ap (λ f. f v) (sym (get_or-append numbered_tokens (drop 4 token_shapes) Mark k h))

binary_token : (k v : ℕ) → k < 10 → Binary (get_or operators k Unlike) ≡ token_of (4 + k) v
unfolding token_shapes token_of
binary_token k v h =
    ap
    (λ f. f v)
    (sym
    (among numbered_tokens (map (λ o v. Binary o) operators) (drop 14 token_shapes) k Mark h
    ∙ get_d_map_inside (λ o v. Binary o) operators k Mark Unlike h))

compare_token : (k v : ℕ) → k < 6 → Compare (get_or relations k AtLeast) ≡ token_of (14 + k) v
unfolding token_shapes token_of
compare_token k v h =
    ap
    (λ f. f v)
    (sym
    (get_or-append-add (take 14 token_shapes) (map (λ r v. Compare r) relations) k Mark
    ∙ get_d_map_inside (λ r v. Compare r) relations k Mark AtLeast h))

pub name_token : (k v : ℕ) → k ≡ 0 → Name v ≡ token_of k v
name_token k v e = rw e (numbered_again 0 v (omega arith))

pub decimal_token : (k v : ℕ) → k ≡ 1 → Number v ≡ token_of k v
decimal_token k v e = rw e (numbered_again 1 v (omega arith))

pub quoted_token : (k v : ℕ) → k ≡ 2 → Quoted v ≡ token_of k v
quoted_token k v e = rw e (numbered_again 2 v (omega arith))

pub last_token : (k v : ℕ) → 3 ≤ k → k < 4 → Mark v ≡ token_of k v
last_token k v g h = last_numbered k v g ∙ numbered_again k v h

-- the same with the token's own kind
own : (n k v : ℕ) → n ≤ k → token_of (n + (k - n)) v ≡ token_of k v
own n k v h = let e : n + (k - n) ≡ k = omega (arith, h) in ap (λ j. token_of j v) e

pub binary_again : (k v : ℕ) → 4 ≤ k → k < 14 → Binary (get_or operators (k - 4) Unlike) ≡ token_of k v
binary_again k v g h = binary_token (k - 4) v (omega arith) ∙ own 4 k v g

pub compare_again : (k v : ℕ) → 14 ≤ k → k < 20 → Compare (get_or relations (k - 14) AtLeast) ≡ token_of k v
compare_again k v g h = compare_token (k - 14) v (omega arith) ∙ own 14 k v g

pub no_token : (k v : ℕ) → 20 ≤ k → Mark v ≡ token_of k v
unfolding token_shapes token_of
no_token k v h = ap (λ f. f v) (sym (get_or-eq_default token_shapes Mark {n = k} h))

-- the token of a kind, where it is read by tests on the kind
pub ruleset again = (name_token, decimal_token, quoted_token, last_token, binary_again, compare_again, no_token)

-- a token stored by its kind and what it carries is read back
pub token_again : (t : Token) → token_of (token_kind t) (token_carried t) ≡ t
unfolding token_shapes token_of
token_again (Name w) = refl
token_again (Number n) = refl
token_again (Quoted n) = refl
token_again (Mark m) = refl
token_again (Compare Equal) = refl
token_again (Compare Unequal) = refl
token_again (Compare Less) = refl
token_again (Compare AtMost) = refl
token_again (Compare Greater) = refl
token_again (Compare AtLeast) = refl
token_again (Binary Plus) = refl
token_again (Binary Minus) = refl
token_again (Binary Times) = refl
token_again (Binary Over) = refl
token_again (Binary Power) = refl
token_again (Binary Left) = refl
token_again (Binary Right) = refl
token_again (Binary And) = refl
token_again (Binary Or) = refl
token_again (Binary Unlike) = refl
