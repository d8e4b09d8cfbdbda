-- Operands, by what is found at a place.
use Prim.Native.Nat.{ℕ}
use mathlib.Core.Path.{◌≡◌, refl}
use mathlib.Core.Bool.{Bool, true, false}
use mathlib.Core.List.{List, [], ◌∷◌, ◌++◌}
use native.Mathlib.Omega.{arith}
use lib.Dec.{eqb}
use Rattle.std.specs.Prelude.{Some, None}
use Rattle.base.specs.Choice.{pick}
use Rattle.sheet.specs.declared.Field.{Field}
use Rattle.sheet.specs.Sheet.{Expression}
use Rattle.sheet.specs.Fields.{expression_fields}
use Rattle.source.specs.declared.Token.{Token}
use Rattle.source.specs.declared.Token.TheVariants.{Name, Number, Quoted, Binary, Compare, Mark}
use Rattle.source.specs.Tokens.{mark_open}
use Rattle.source.specs.Grammar.{Read, read, none, behind_first, operand_by}
use Rattle.grammar_look.specs.declared.Operand.TheVariants.{Plain, Open}
use Rattle.grammar_look.specs.Internal.{first_operand}
use Rattle.grammar_output.specs.Internal.{written}
use Rattle.grammar_operand.specs.Internal.{bracketed_by}

module _ (inner : List Token → Read Expression) where
  pub plain_operand : (l : List Token) (fs : List Field) (f : Field) → first_operand l ≡ Some (Plain f)
      → read (fs ++ (f ∷ [])) (behind_first l) ≡ written expression_fields fs (operand_by inner l)
  unfolding behind_first written operand_by expression_fields pick
  plain_operand [] fs f e = let z : ◌≡◌ {A = ℕ} 0 1 = cc in absurd (omega arith)
  plain_operand (Name w ∷ ts) fs f e = cc
  plain_operand (Number n ∷ ts) fs f e = cc
  plain_operand (Quoted n ∷ ts) fs f e = cc
  plain_operand (Binary o ∷ ts) fs f e = let z : ◌≡◌ {A = ℕ} 0 1 = cc in absurd (omega arith)
  plain_operand (Compare r ∷ ts) fs f e = let z : ◌≡◌ {A = ℕ} 0 1 = cc in absurd (omega arith)
  plain_operand (Mark m ∷ ts) fs f e = go (eqb m mark_open) e
    where
      go : (b : Bool) → pick b (Some Open) None ≡ Some (Plain f)
          → read (fs ++ (f ∷ [])) ts ≡ written expression_fields fs (pick b (bracketed_by inner ts) none)
      go true d = let z : ◌≡◌ {A = ℕ} 0 1 = cc in absurd (omega arith)
      go false d = let z : ◌≡◌ {A = ℕ} 0 1 = cc in absurd (omega arith)

  pub open_operand : (l : List Token) → first_operand l ≡ Some Open → operand_by inner l ≡ bracketed_by inner (behind_first l)
  unfolding behind_first operand_by pick
  open_operand [] e = let z : ◌≡◌ {A = ℕ} 0 1 = cc in absurd (omega arith)
  open_operand (Name w ∷ ts) e = let z : ◌≡◌ {A = ℕ} 0 1 = cc in absurd (omega arith)
  open_operand (Number n ∷ ts) e = let z : ◌≡◌ {A = ℕ} 0 1 = cc in absurd (omega arith)
  open_operand (Quoted n ∷ ts) e = let z : ◌≡◌ {A = ℕ} 0 1 = cc in absurd (omega arith)
  open_operand (Binary o ∷ ts) e = let z : ◌≡◌ {A = ℕ} 0 1 = cc in absurd (omega arith)
  open_operand (Compare r ∷ ts) e = let z : ◌≡◌ {A = ℕ} 0 1 = cc in absurd (omega arith)
  open_operand (Mark m ∷ ts) e = go (eqb m mark_open) e
    where
      go : (b : Bool) → pick b (Some Open) None ≡ Some Open → pick b (bracketed_by inner ts) none ≡ bracketed_by inner ts
      go true d = refl
      go false d = let z : ◌≡◌ {A = ℕ} 0 1 = cc in absurd (omega arith)

  pub no_operand : (l : List Token) (fs : List Field) → first_operand l ≡ None
      → none ≡ written expression_fields fs (operand_by inner l)
  unfolding written operand_by pick
  no_operand [] fs e = refl
  no_operand (Name w ∷ ts) fs e = let z : ◌≡◌ {A = ℕ} 0 1 = cc in absurd (omega arith)
  no_operand (Number n ∷ ts) fs e = let z : ◌≡◌ {A = ℕ} 0 1 = cc in absurd (omega arith)
  no_operand (Quoted n ∷ ts) fs e = let z : ◌≡◌ {A = ℕ} 0 1 = cc in absurd (omega arith)
  no_operand (Binary o ∷ ts) fs e = refl
  no_operand (Compare r ∷ ts) fs e = refl
  no_operand (Mark m ∷ ts) fs e = go (eqb m mark_open) e
    where
      go : (b : Bool) → pick b (Some Open) None ≡ None
          → none ≡ written expression_fields fs (pick b (bracketed_by inner ts) none)
      go true d = let z : ◌≡◌ {A = ℕ} 0 1 = cc in absurd (omega arith)
      go false d = refl
