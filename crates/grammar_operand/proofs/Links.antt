-- The links behind an operand, by what is found there.
use Prim.Native.Nat.{ℕ, suc, ◌+◌, ◌≤◌}
use mathlib.Core.Path.{◌≡◌, refl, ap₂}
use mathlib.Core.List.{List, [], ◌∷◌, ◌++◌}
use native.Mathlib.Omega.{arith}
use lib.ListN.{length}
use Rattle.std.specs.Prelude.{Some, None}
use Rattle.base.proofs.Cases.{either_part}
use Rattle.sheet.specs.declared.Operator.{Operator}
use Rattle.sheet.specs.declared.Field.{Field}
use Rattle.sheet.specs.declared.Field.TheVariants.{Binary as BinaryField}
use Rattle.sheet.specs.Sheet.{Expression}
use Rattle.sheet.specs.Fields.{expression_fields}
use Rattle.source.specs.declared.Token.{Token}
use Rattle.source.specs.declared.Token.TheVariants.{Name, Number, Quoted, Binary, Compare, Mark}
use Rattle.source.specs.Grammar.{Read, read, none, next, behind_first}
use Rattle.grammar_look.specs.Internal.{first_link}
use Rattle.grammar_output.specs.declared.Places.{Places}
use Rattle.grammar_output.specs.Internal.{written, insert_at, place_for, places_after}
use Rattle.grammar_operand.specs.Internal.{links_pass, operand_pass, WithinPlaces}

module _ (inner : List Token → Read Expression) (p : Places) (fs : List Field) where
  pub links_stop : (j : ℕ) (ts : List Token) → first_link ts ≡ None → read fs ts ≡ links_pass inner (suc j) p fs ts
  unfolding links_pass
  links_stop j [] e = refl
  links_stop j (Name w ∷ ts) e = refl
  links_stop j (Number n ∷ ts) e = refl
  links_stop j (Quoted n ∷ ts) e = refl
  links_stop j (Binary o ∷ ts) e = let z : ◌≡◌ {A = ℕ} 0 1 = cc in absurd (omega arith)
  links_stop j (Compare r ∷ ts) e = refl
  links_stop j (Mark m ∷ ts) e = refl

  pub links_more : (j : ℕ) (o : Operator) (ts : List Token) → first_link ts ≡ Some o
      → links_pass inner (suc j) p fs ts
      ≡ operand_pass inner j (places_after p o (length fs + 1)) (insert_at (place_for p o) (BinaryField o) fs) (behind_first ts)
  unfolding links_pass behind_first
  links_more j o [] e = let z : ◌≡◌ {A = ℕ} 0 1 = cc in absurd (omega arith)
  links_more j o (Name w ∷ ts) e = let z : ◌≡◌ {A = ℕ} 0 1 = cc in absurd (omega arith)
  links_more j o (Number n ∷ ts) e = let z : ◌≡◌ {A = ℕ} 0 1 = cc in absurd (omega arith)
  links_more j o (Quoted n ∷ ts) e = let z : ◌≡◌ {A = ℕ} 0 1 = cc in absurd (omega arith)
  links_more j o (Binary q ∷ ts) e = let same : q ≡ o = cc in rw same refl
  links_more j o (Compare r ∷ ts) e = let z : ◌≡◌ {A = ℕ} 0 1 = cc in absurd (omega arith)
  links_more j o (Mark m ∷ ts) e = let z : ◌≡◌ {A = ℕ} 0 1 = cc in absurd (omega arith)

-- an operand, found or not, then the links behind it
module _ (inner : List Token → Read Expression) (q : Places) (j : ℕ) (hs : List Field) where
  pub found_then : (gs : List Field) (rest : List Token) (x : Read Expression) → read gs rest ≡ written expression_fields hs x
      → links_pass inner j q gs rest ≡ next x (λ e others. links_pass inner j q (hs ++ expression_fields e) others)
  unfolding written next
  found_then gs rest none e = let z : ◌≡◌ {A = ℕ} 0 1 = cc in absurd (omega arith)
  found_then gs rest (read a others) e =
      let all : gs ≡ hs ++ expression_fields a = cc in
      let behind : rest ≡ others = cc in
      ap₂ (λ g m. links_pass inner j q g m) all behind

  pub missing_then : (x : Read Expression) → none ≡ written expression_fields hs x
      → none ≡ next x (λ e others. links_pass inner j q (hs ++ expression_fields e) others)
  unfolding written next
  missing_then none e = refl
  missing_then (read a others) e = let z : ◌≡◌ {A = ℕ} 0 1 = cc in absurd (omega arith)

-- ---- where operators go

pub place_within : (b : ℕ) (p : Places) (o : Operator) → WithinPlaces b p → place_for p o ≤ b
place_within b p o w =
    either_part (λ q. q ≤ b) _ _ _ (λ e. w.low_within)
    (λ e. either_part (λ q. q ≤ b) _ _ _ (λ f. w.middle_within) (λ f. w.high_within))

pub after_within : (b d : ℕ) (p : Places) (o : Operator) → WithinPlaces b p → b + 1 ≤ d → WithinPlaces d (places_after p o (b + 1))
after_within b d p o w h =
    either_part (WithinPlaces d) _ _ _
    (λ e. record { low_within = omega (arith, h, w.low_within); middle_within = h; high_within = h })
    (λ e. either_part (WithinPlaces d) _ _ _
    (λ f. record { low_within = omega (arith, h, w.low_within); middle_within = omega (arith, h, w.middle_within); high_within = h })
    (λ f. record {
      low_within = omega (arith, h, w.low_within);
      middle_within = omega (arith, h, w.middle_within);
      high_within = omega (arith, h, w.high_within);
    }))
