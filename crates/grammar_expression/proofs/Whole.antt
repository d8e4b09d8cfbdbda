-- A whole expression: behind its first operand, and at its end.
use Prim.Native.Nat.{ℕ, ◌+◌, ◌≤◌}
use mathlib.Core.Path.{◌≡◌, ap, ◌∙◌}
use mathlib.Core.List.{List}
use native.Mathlib.Omega.{arith}
use lib.ListN.{length}
use Rattle.std.specs.Prelude.{Some}
use Rattle.sheet.specs.declared.Field.{Field}
use Rattle.source.specs.Limits.{most_cells}
use Rattle.source.specs.Grammar.{Read}
use Rattle.grammar_look.specs.declared.Tokens.{Tokens}
use Rattle.grammar_lead.specs.declared.Opened.{Opened}
use Rattle.grammar_lead.specs.Internal.{OpenedAs}
use Rattle.grammar_operand.specs.declared.Reading.{Reading}
use Rattle.grammar_operand.specs.Internal.{links_pass, begun_at, Onward, Reached}

-- the links and closing brackets behind an operand, from reading s₀ on
pub record Following (toks : Tokens) (fs₀ stack₀ : List ℕ) (s₀ : Reading) (fs stack : List ℕ) (s : Reading) : Type 0 where
  pub on : s₀.at ≤ s.at
  pub inside : s.at ≤ toks.count
  pub wider : s₀.out ≤ s.out
  pub few : s.depth + s.out + s₀.at ≤ s.at + s₀.depth + s₀.out
  pub fewer : s.depth + s.out ≤ s.at
  pub long : length fs ≡ length fs₀
  pub deep : length stack ≡ most_cells
  pub some : Read (List Field)
  pub reached : Reached links_pass toks fs stack s some
  pub to_come : (all : Read (List Field)) → Reached links_pass toks fs₀ stack₀ s₀ all → Reached links_pass toks fs stack s all

pub following_on : (toks : Tokens) (fs₀ stack₀ : List ℕ) (s₀ : Reading) (fs stack fs₁ stack₁ : List ℕ) (s t : Reading)
    → Following toks fs₀ stack₀ s₀ fs stack s → Onward toks.count s (Some t) → length fs₁ ≡ length fs → length stack₁ ≡ length stack
    → ((all : Read (List Field)) → Reached links_pass toks fs stack s all → Reached links_pass toks fs₁ stack₁ t all)
    → Following toks fs₀ stack₀ s₀ fs₁ stack₁ t
following_on toks fs₀ stack₀ s₀ fs stack fs₁ stack₁ s t i o long deep f =
    record {
      on = omega (arith, i.on, o);
      inside = o.1;
      wider = omega (arith, i.wider, o);
      few = omega (arith, i.few, o);
      fewer = omega (arith, i.fewer, o);
      long = long ∙ i.long;
      deep = deep ∙ i.deep;
      some = i.some;
      reached = f i.some i.reached;
      to_come = λ all r. f all (i.to_come all r);
    }

-- behind the first operand
pub first_fewer : (toks : Tokens) (at out : ℕ) (fs fs₁ : List ℕ) (o : Opened) (b s : Reading) → b ≡ begun_at out o 0 → out ≤ at
    → OpenedAs toks at out fs o fs₁ → Onward toks.count b (Some s) → s.depth + s.out ≤ s.at
first_fewer toks at out fs fs₁ o b s e h opened m =
    let p : b.at ≡ o.at = ap (λ r. r.at) e in
    let q : b.out ≡ o.out = ap (λ r. r.out) e in
    let d : b.depth ≡ 0 = ap (λ r. r.depth) e in
    omega (arith, p, q, d, m, h, opened.few)
