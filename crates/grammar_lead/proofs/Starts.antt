-- What an expression begins with, by what is found at a place.
use Prim.Native.Nat.{ℕ, ◌+◌, ◌<◌}
use mathlib.Core.Path.{◌≡◌, refl, ◌∙◌}
use mathlib.Core.Bool.{Bool, true, false}
use mathlib.Core.List.{List, [], ◌∷◌}
use lib.Dec.{eqb}
use Rattle.std.specs.Prelude.{Option, Some, None}
use Rattle.base.specs.Choice.{pick}
use Rattle.sheet.specs.declared.Operator.TheVariants.{Plus, Minus, Times, Over, Power, Left, Right, And, Or, Unlike}
use Rattle.source.specs.declared.Token.{Token}
use Rattle.source.specs.declared.Token.TheVariants.{Name, Number, Quoted, Binary, Compare, Mark}
use Rattle.source.specs.Tokens.{mark_invert}
use Rattle.source.specs.Grammar.{behind_first, Start, start, start_of, bare, minus, invert}
use Rattle.grammar_look.specs.declared.Tokens.{Tokens}
use Rattle.grammar_look.specs.declared.Lead.{Lead}
use Rattle.grammar_look.specs.declared.Lead.TheVariants.{Plus as PlusLead, Minus as MinusLead, Invert as InvertLead}
use Rattle.grammar_look.specs.Internal.{ahead, first_lead}
use Rattle.grammar_look.proofs.Places.{ahead_behind}

lead_start : Option Lead → List Token → Start
lead_start (Some PlusLead) l = start bare (behind_first l)
lead_start (Some MinusLead) l = start minus (behind_first l)
lead_start (Some InvertLead) l = start invert (behind_first l)
lead_start None l = start bare l

lead_start_law : (l : List Token) → start_of l ≡ lead_start (first_lead l) l
unfolding start_of lead_start behind_first pick
lead_start_law [] = refl
lead_start_law (Name w ∷ ts) = refl
lead_start_law (Number n ∷ ts) = refl
lead_start_law (Quoted n ∷ ts) = refl
lead_start_law (Compare r ∷ ts) = refl
lead_start_law (Binary Plus ∷ ts) = refl
lead_start_law (Binary Minus ∷ ts) = refl
lead_start_law (Binary Times ∷ ts) = refl
lead_start_law (Binary Over ∷ ts) = refl
lead_start_law (Binary Power ∷ ts) = refl
lead_start_law (Binary Left ∷ ts) = refl
lead_start_law (Binary Right ∷ ts) = refl
lead_start_law (Binary And ∷ ts) = refl
lead_start_law (Binary Or ∷ ts) = refl
lead_start_law (Binary Unlike ∷ ts) = refl
lead_start_law (Mark m ∷ ts) = go (eqb m mark_invert)
  where
    go : (b : Bool)
        → pick b (start invert ts) (start bare (Mark m ∷ ts)) ≡ lead_start (pick b (Some InvertLead) None) (Mark m ∷ ts)
    go true = refl
    go false = refl

module _ (toks : Tokens) (at : ℕ) where
  pub plus_start : first_lead (ahead toks at) ≡ Some PlusLead → at < toks.count
      → start_of (ahead toks at) ≡ start bare (ahead toks (at + 1))
  unfolding lead_start
  plus_start e h = lead_start_law (ahead toks at) ∙ rw (e, ahead_behind toks at h) refl

  pub minus_start : first_lead (ahead toks at) ≡ Some MinusLead → at < toks.count
      → start_of (ahead toks at) ≡ start minus (ahead toks (at + 1))
  unfolding lead_start
  minus_start e h = lead_start_law (ahead toks at) ∙ rw (e, ahead_behind toks at h) refl

  pub invert_start : first_lead (ahead toks at) ≡ Some InvertLead → at < toks.count
      → start_of (ahead toks at) ≡ start invert (ahead toks (at + 1))
  unfolding lead_start
  invert_start e h = lead_start_law (ahead toks at) ∙ rw (e, ahead_behind toks at h) refl

  pub bare_start : first_lead (ahead toks at) ≡ None → start_of (ahead toks at) ≡ start bare (ahead toks at)
  unfolding lead_start
  bare_start e = lead_start_law (ahead toks at) ∙ rw e refl
