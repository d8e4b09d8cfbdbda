-- An expression and a closing bracket behind it, and how far a reading moved.
use Prim.Native.Nat.{ℕ, ◌+◌, ◌≤◌}
use mathlib.Core.Path.{◌≡◌, refl}
use mathlib.Core.Bool.{true, false}
use mathlib.Core.List.{List, ◌++◌}
use native.Mathlib.Omega.{arith}
use Rattle.std.specs.Prelude.{Option, Some, None}
use Rattle.base.specs.Choice.{pick}
use Rattle.sheet.specs.declared.Field.{Field}
use Rattle.sheet.specs.Sheet.{Expression}
use Rattle.sheet.specs.Fields.{expression_fields}
use Rattle.source.specs.declared.Token.{Token}
use Rattle.source.specs.Tokens.{mark_close}
use Rattle.source.specs.Grammar.{Read, read, none, next, past, opens, behind_first}
use Rattle.grammar_output.specs.declared.Step.{Step}
use Rattle.grammar_output.specs.Internal.{written, Moved}

module _ (fs : List Field) where
  pub next_none : {A B : Type 0} (g : A → List Field) (h : B → List Field) (x : Read A) (f : A → List Token → Read B) → none ≡ written g fs x
      → none ≡ written h fs (next x f)
  unfolding written next
  next_none g h none f e = refl
  next_none g h (read a rest) f e = let z : ◌≡◌ {A = ℕ} 0 1 = cc in absurd (omega arith)

  pub closed : (x : Read Expression) (gs : List Field) (rest : List Token) → read gs rest ≡ written expression_fields fs x
      → opens mark_close rest ≡ true
      → read gs (behind_first rest) ≡ written expression_fields fs (next x (λ e l. past mark_close l (λ m. read e m)))
  unfolding written next pick
  closed none gs rest e o = let z : ◌≡◌ {A = ℕ} 0 1 = cc in absurd (omega arith)
  closed (read a l) gs rest e o =
      let same : rest ≡ l = cc in
      let all : gs ≡ fs ++ expression_fields a = cc in
      let test : opens mark_close l ≡ true = rw same at o in
      rw (test, all, same) refl

  pub unclosed : (x : Read Expression) (gs : List Field) (rest : List Token) → read gs rest ≡ written expression_fields fs x
      → opens mark_close rest ≡ false
      → none ≡ written expression_fields fs (next x (λ e l. past mark_close l (λ m. read e m)))
  unfolding written next pick
  unclosed none gs rest e o = refl
  unclosed (read a l) gs rest e o =
      let same : rest ≡ l = cc in
      let test : opens mark_close l ≡ false = rw same at o in
      rw test refl

-- what was read from a later place on
pub moved_later : (d e n at out at₁ out₁ : ℕ) (r : Option Step) → Moved d n at₁ out₁ r → at + e ≤ at₁ + d → out ≤ out₁
    → out₁ + at ≤ at₁ + out → Moved e n at out r
moved_later d e n at out at₁ out₁ (Some s) m h g f = (omega (arith, m, h), m.1, omega (arith, m, g), omega (arith, m, f))
moved_later d e n at out at₁ out₁ None m h g f = tt
