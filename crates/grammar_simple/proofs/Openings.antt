-- Instructions that can be part of an IF, one lemma for each return of the functions that read them.
use Prim.Native.Nat.{ℕ, ◌+◌, ◌<◌}
use mathlib.Core.Path.{◌≡◌, refl, sym, ap, ap₂, ◌∙◌}
use mathlib.Core.Bool.{Bool, true, false}
use mathlib.Core.List.{List, [], ◌∷◌, ◌++◌, append_assoc}
use native.Mathlib.Omega.{arith}
use lib.Dec.{eqb}
use Rattle.std.specs.Prelude.{Option, Some, None}
use Rattle.base.specs.Choice.{pick}
use Rattle.sheet.specs.declared.Field.{Field}
use Rattle.sheet.specs.declared.Field.TheVariants.{Send as SendField, Set as SetField, Goto as GotoField}
use Rattle.sheet.specs.Sheet.{Expression, Simple, set, send, goto}
use Rattle.sheet.specs.Fields.{expression_fields, simple_fields}
use Rattle.source.specs.declared.Token.{Token}
use Rattle.source.specs.declared.Token.TheVariants.{Name, Number, Quoted, Binary, Compare, Mark}
use Rattle.source.specs.Tokens.{mark_arrow, mark_open, mark_close}
use Rattle.source.specs.Grammar.{Read, read, none, next, past, opens, behind_first, is_equal, send_word, expression}
use Rattle.source.specs.Grammar.{named, jump, simple_at}
use Rattle.grammar_look.specs.declared.Tokens.{Tokens}
use Rattle.grammar_look.specs.declared.Opening.{Opening}
use Rattle.grammar_look.specs.declared.Opening.TheVariants.{Set, Send, Goto}
use Rattle.grammar_look.specs.Internal.{ahead, first_opening}
use Rattle.grammar_look.proofs.Places.{ahead_behind}
use Rattle.grammar_operand.specs.Internal.{bracketed_by}
use Rattle.grammar_expression.specs.Internal.{expression_pass}
use Rattle.grammar_output.specs.Internal.{written}
use Rattle.grammar_simple.specs.Internal.{set_pass, send_pass, simple_pass}

set_expression : (fs : List Field) (w : ℕ) (x : Read Expression)
    → written expression_fields (fs ++ (SetField w ∷ [])) x
    ≡ written simple_fields fs (next x (λ e rest. read (set w e) rest))
unfolding written next
set_expression fs w none = refl
set_expression fs w (read e rest) = ap (λ l. read l rest) (append_assoc fs (SetField w ∷ []) (expression_fields e))

send_expression : (fs : List Field) (x : Read Expression)
    → written expression_fields (fs ++ (SendField ∷ [])) (next x (λ e rest. past mark_close rest (λ l. read e l)))
    ≡ written simple_fields fs (next x (λ e rest. past mark_close rest (λ l. read (send e) l)))
unfolding written next pick
send_expression fs none = refl
send_expression fs (read e rest) = go (opens mark_close rest)
  where
    go : (b : Bool)
        → written expression_fields (fs ++ (SendField ∷ [])) (pick b (read e (behind_first rest)) none)
        ≡ written simple_fields fs (pick b (read (send e) (behind_first rest)) none)
    go true = ap (λ l. read l (behind_first rest)) (append_assoc fs (SendField ∷ []) (expression_fields e))
    go false = refl

module _ (toks : Tokens) (at : ℕ) (fs gs : List Field) (r : Read (List Field)) where
  pub set_read : (w : ℕ) → gs ≡ fs ++ (SetField w ∷ [])
      → r ≡ expression_pass gs (ahead toks at) → r ≡ set_pass w fs (ahead toks at)
  set_read w e h =
      h
      ∙ ap (λ l. written expression_fields l (expression (ahead toks at))) e
      ∙ set_expression fs w (expression (ahead toks at))

  pub send_read : gs ≡ fs ++ (SendField ∷ [])
      → r ≡ written expression_fields gs (bracketed_by expression (ahead toks at)) → r ≡ send_pass fs (ahead toks at)
  send_read e h =
      h
      ∙ ap (λ l. written expression_fields l (bracketed_by expression (ahead toks at))) e
      ∙ send_expression fs (expression (ahead toks at))

-- what the first two tokens say
on_opening : Option Opening → List Token → Read Simple
on_opening (Some (Set w)) ts = next (expression ts) (λ e rest. read (set w e) rest)
on_opening (Some Send) ts = next (expression ts) (λ e rest. past mark_close rest (λ l. read (send e) l))
on_opening (Some (Goto l)) ts = read (goto l) ts
on_opening None ts = none

arrow_jump : (m : ℕ) (u : Token) (ts : List Token) (b : Bool) (x : Option Opening) → jump (u ∷ ts) ≡ on_opening x ts
    → pick b (jump (u ∷ ts)) none ≡ on_opening (pick b x None) ts
unfolding pick on_opening
arrow_jump m u ts true x e = e
arrow_jump m u ts false x e = refl

simple_opened : (l : List Token) → simple_at l ≡ on_opening (first_opening l) (behind_first (behind_first l))
unfolding simple_at named jump on_opening behind_first pick
simple_opened [] = refl
simple_opened (Name w ∷ []) = refl
simple_opened (Number m ∷ []) = refl
simple_opened (Quoted m ∷ []) = refl
simple_opened (Binary o ∷ []) = refl
simple_opened (Compare r ∷ []) = refl
simple_opened (Mark m ∷ []) = go (eqb m mark_arrow)
  where
    go : (b : Bool) → pick {A = Read Simple} b none none ≡ none
    go true = refl
    go false = refl
simple_opened (Number m ∷ u ∷ ts) = refl
simple_opened (Quoted m ∷ u ∷ ts) = refl
simple_opened (Binary o ∷ u ∷ ts) = refl
simple_opened (Compare r ∷ u ∷ ts) = refl
simple_opened (Name w ∷ Name v ∷ ts) = refl
simple_opened (Name w ∷ Number m ∷ ts) = refl
simple_opened (Name w ∷ Quoted m ∷ ts) = refl
simple_opened (Name w ∷ Binary o ∷ ts) = refl
simple_opened (Name w ∷ Compare r ∷ ts) = go (is_equal r)
  where
    go : (b : Bool)
        → pick b (next (expression ts) (λ e rest. read (set w e) rest)) none ≡ on_opening (pick b (Some (Set w)) None) ts
    go true = refl
    go false = refl
simple_opened (Name w ∷ Mark m ∷ ts) = go (eqb m mark_open) (eqb w send_word)
  where
    go : (b c : Bool)
        → pick (pick b c false) (next (expression ts) (λ e rest. past mark_close rest (λ l. read (send e) l))) none
        ≡ on_opening (pick b (pick c (Some Send) None) None) ts
    go true true = refl
    go true false = refl
    go false true = refl
    go false false = refl
simple_opened (Mark m ∷ Name w ∷ ts) = arrow_jump m (Name w) ts (eqb m mark_arrow) None refl
simple_opened (Mark m ∷ Number l ∷ ts) = arrow_jump m (Number l) ts (eqb m mark_arrow) (Some (Goto l)) refl
simple_opened (Mark m ∷ Quoted q ∷ ts) = arrow_jump m (Quoted q) ts (eqb m mark_arrow) None refl
simple_opened (Mark m ∷ Binary o ∷ ts) = arrow_jump m (Binary o) ts (eqb m mark_arrow) None refl
simple_opened (Mark m ∷ Compare r ∷ ts) = arrow_jump m (Compare r) ts (eqb m mark_arrow) None refl
simple_opened (Mark m ∷ Mark q ∷ ts) = arrow_jump m (Mark q) ts (eqb m mark_arrow) None refl

module _ (toks : Tokens) (at : ℕ) (fs : List Field) where
  behind_two : at + 1 < toks.count → ahead toks (at + 2) ≡ behind_first (behind_first (ahead toks at))
  behind_two h =
      let two : at + 2 ≡ at + 1 + 1 = omega arith in
      ap (λ i. ahead toks i) two
      ∙ ahead_behind toks (at + 1) h
      ∙ ap behind_first (ahead_behind toks at (omega (arith, h)))

  opened : (x : Option Opening) → first_opening (ahead toks at) ≡ x → at + 1 < toks.count
      → written simple_fields fs (on_opening x (ahead toks (at + 2))) ≡ simple_pass fs (ahead toks at)
  opened x e h =
      ap (written simple_fields fs)
      (ap₂ on_opening (sym e) (behind_two h) ∙ sym (simple_opened (ahead toks at)))

  pub simple_set : (w : ℕ) (r : Read (List Field)) → first_opening (ahead toks at) ≡ Some (Set w) → at + 1 < toks.count
      → r ≡ set_pass w fs (ahead toks (at + 2)) → r ≡ simple_pass fs (ahead toks at)
  unfolding on_opening
  simple_set w r e h s = s ∙ opened (Some (Set w)) e h

  pub simple_send : (r : Read (List Field)) → first_opening (ahead toks at) ≡ Some Send → at + 1 < toks.count
      → r ≡ send_pass fs (ahead toks (at + 2)) → r ≡ simple_pass fs (ahead toks at)
  unfolding on_opening
  simple_send r e h s = s ∙ opened (Some Send) e h

  pub simple_goto : (l : ℕ) (gs : List Field) → first_opening (ahead toks at) ≡ Some (Goto l) → at + 1 < toks.count
      → gs ≡ fs ++ (GotoField l ∷ []) → read gs (ahead toks (at + 2)) ≡ simple_pass fs (ahead toks at)
  unfolding on_opening written
  simple_goto l gs e h g = ap (λ x. read x (ahead toks (at + 2))) g ∙ opened (Some (Goto l)) e h

pub simple_none : (l : List Token) (fs : List Field) → first_opening l ≡ None → none ≡ simple_pass fs l
unfolding on_opening written
simple_none l fs e = sym (ap (written simple_fields fs) (simple_opened l ∙ ap (λ x. on_opening x (behind_first (behind_first l))) e))
