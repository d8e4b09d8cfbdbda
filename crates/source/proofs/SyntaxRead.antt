-- What specs/Syntax says is read: the reader of Grammar finds the form of a statement.
use Prim.Native.Nat.{ℕ}
use mathlib.Core.Path.{◌≡◌, refl, sym, ap, ◌∙◌}
use mathlib.Core.Bool.{true, false}
use mathlib.Core.List.{List, [], ◌∷◌, ◌++◌, append_assoc, append-nil}
use Rattle.base.specs.Choice.{pick}
use Rattle.sheet.specs.Sheet.{Expression, Simple, set, send, Condition}
use Rattle.source.specs.declared.Token.{Token}
use Rattle.source.specs.declared.Token.TheVariants.{Name, Mark}
use Rattle.source.specs.Tokens.{mark_if, mark_then, mark_else, mark_arrow, mark_start, mark_close}
use Rattle.source.specs.Grammar.{Read, read, next, past, opens, behind_first, expression, named, jump, simple_at}
use Rattle.source.specs.Grammar.{Instruction, if_then, if_else, chosen, consequent, conditional, instruction_at}
use Rattle.source.specs.Grammar.{Form, labelled, further, labels_at, entire, labelled_form, is_name_list, finishing, form}
use Rattle.source.specs.Syntax.{Simply, assignment, sending, jump as jumping, Asked, Instructed, simply, conditional as on_condition, alternative, opening}
use Rattle.source.specs.Syntax.{LabelList, none, label, NameList, last, comma, Stated, begin, integers, instructed, alone, finishes, goes_on, end}
use Rattle.source.specs.Printed.{Ends}
use Rattle.source.proofs.ExpressionsRead.{expression_found}
use Rattle.source.proofs.ConditionsRead.{condition_found}

-- ---- instructions

set_found : (w : ℕ) (x : Read Expression) (e : Expression) (rest : List Token) → x ≡ read e rest
    → next x (λ a others. read (set w a) others) ≡ read (set w e) rest
unfolding next
set_found w x e rest h = rw h refl

send_found : (x : Read Expression) (e : Expression) (rest : List Token) → x ≡ read e (Mark mark_close ∷ rest)
    → next x (λ a others. past mark_close others (λ l. read (send a) l)) ≡ read (send e) rest
unfolding next pick opens behind_first
send_found x e rest h = rw h refl

pub simple_found : {ts : List Token} {u : Simple} → Simply ts u → (rest : List Token) → Ends rest → simple_at (ts ++ rest) ≡ read u rest
unfolding simple_at named jump pick
simple_found (assignment w {e = e} d) rest f = set_found w _ e rest (expression_found d rest f)
simple_found (sending {ts = ts} {e = e} d) rest f =
    send_found _ e rest
    (ap expression (append_assoc ts (Mark mark_close ∷ []) rest) ∙ expression_found d (Mark mark_close ∷ rest) tt)
simple_found (jumping l) rest f = refl

simple_alone : {ts : List Token} {u : Simple} → Simply ts u → simple_at ts ≡ read u []
simple_alone {ts} s = ap simple_at (sym (append-nil ts)) ∙ simple_found s [] tt

-- no simple instruction begins with %START
no_start_law : {ts : List Token} {u : Simple} → Simply ts u → (rest : List Token) → opens mark_start (ts ++ rest) ≡ false
unfolding opens
no_start_law (assignment w d) rest = refl
no_start_law (sending d) rest = refl
no_start_law (jumping l) rest = refl

module _ {xs : List Token} {c : Condition} (q : Asked xs c) where
  condition_then : (ts : List Token) → conditional (xs ++ Mark mark_then ∷ ts) ≡ consequent c ts
  unfolding next pick opens behind_first
  condition_then ts = rw (condition_found q (Mark mark_then ∷ ts) tt refl refl) refl

  module _ {us : List Token} {u : Simple} (s : Simply us u) where
    then_found : (rest : List Token) → Ends rest → conditional (xs ++ Mark mark_then ∷ (us ++ rest)) ≡ chosen c u rest
    unfolding next pick
    then_found rest f = condition_then (us ++ rest) ∙ rw (no_start_law s rest, simple_found s rest f) refl

    when_found : conditional (xs ++ Mark mark_then ∷ us) ≡ read (if_then c u) []
    unfolding opens pick
    when_found = ap (λ ts. conditional (xs ++ Mark mark_then ∷ ts)) (sym (append-nil us)) ∙ then_found [] tt

    either_found : {ws : List Token} {w : Simple} → Simply ws w
        → conditional (xs ++ Mark mark_then ∷ (us ++ Mark mark_else ∷ ws)) ≡ read (if_else c u w) []
    unfolding opens pick behind_first next
    either_found {ws} {w} t =
        then_found (Mark mark_else ∷ ws) tt ∙ ap (λ x. next x (λ v rest. read (if_else c u v) rest)) (simple_alone t)

-- what an instruction begins with
data Opening : List Token → Type 0 where
  by_name : (w : ℕ) (ts : List Token) → Opening (Name w ∷ ts)
  by_arrow : (ts : List Token) → Opening (Mark mark_arrow ∷ ts)
  by_if : (ts : List Token) → Opening (Mark mark_if ∷ ts)

opening_of : {ts : List Token} {i : Instruction} → Instructed ts i → Opening ts
opening_of (simply (assignment w d)) = by_name _ _
opening_of (simply (sending d)) = by_name _ _
opening_of (simply (jumping l)) = by_arrow _
opening_of (on_condition q s) = by_if _
opening_of (alternative q s t) = by_if _
opening_of (opening q) = by_if _

no_if : {ts : List Token} {u : Simple} → Simply ts u → opens mark_if ts ≡ false
unfolding opens
no_if (assignment w d) = refl
no_if (sending d) = refl
no_if (jumping l) = refl

pub instruction_found : {ts : List Token} {i : Instruction} → Instructed ts i → instruction_at ts ≡ read i []
unfolding pick opens behind_first next
instruction_found (simply s) = rw (no_if s, simple_alone s) refl
instruction_found (on_condition q s) = when_found q s
instruction_found (alternative {xs = xs} {us = us} {ws = ws} q s t) =
    rw (append_assoc xs (Mark mark_then ∷ us) (Mark mark_else ∷ ws)) (either_found q s t)
instruction_found (opening q) = condition_then q (Mark mark_start ∷ [])

-- ---- statements

labels_found : {ts us : List Token} {ls : List ℕ} → LabelList ts ls → labels_at us ≡ labelled [] us → labels_at (ts ++ us) ≡ labelled ls us
unfolding labels_at pick
labels_found none h = h
labels_found (label l ls) h = ap (further l) (labels_found ls h)

no_label : {ts : List Token} → Opening ts → labels_at ts ≡ labelled [] ts
unfolding labels_at
no_label (by_name w ts) = refl
no_label (by_arrow ts) = refl
no_label (by_if ts) = refl

behind_labels_law : {ts : List Token} (ls : List ℕ) → Opening ts → labelled_form (labelled ls ts) ≡ entire ls (instruction_at ts)
unfolding labelled_form
behind_labels_law ls (by_name w ts) = refl
behind_labels_law ls (by_arrow ts) = refl
behind_labels_law ls (by_if ts) = refl

-- none of %BEGIN, %ENDOFPROGRAM, %INTEGER and %FINISH stands at the front
no_keyword : {ts us : List Token} {ls : List ℕ} → LabelList ts ls → Opening us → form (ts ++ us) ≡ labelled_form (labels_at (ts ++ us))
unfolding form opens pick
no_keyword none (by_name w us) = refl
no_keyword none (by_arrow us) = refl
no_keyword none (by_if us) = refl
no_keyword (label l ls) o = refl

labels_alone : {ts : List Token} {ls : List ℕ} → LabelList ts ls → labels_at ts ≡ labelled ls []
unfolding labels_at
labels_alone {ts} l = ap labels_at (sym (append-nil ts)) ∙ labels_found {us = []} l refl

names_found : {ts : List Token} → NameList ts → is_name_list ts ≡ true
unfolding is_name_list pick
names_found (last w) = refl
names_found (comma w ns) = names_found ns

-- every form that the syntax has is found
pub form_read : {ts : List Token} {f : Form} → Stated ts f → form ts ≡ f
unfolding form pick opens behind_first labelled_form finishing
form_read begin = refl
form_read (integers ns) = rw (names_found ns) refl
form_read (instructed {ls = ls} l i) =
    no_keyword l (opening_of i)
    ∙ ap labelled_form (labels_found l (no_label (opening_of i)))
    ∙ behind_labels_law ls (opening_of i)
    ∙ ap (entire ls) (instruction_found i)
form_read (alone none) = ap labelled_form (labels_alone none)
form_read (alone (label l ls)) = ap labelled_form (labels_alone (label l ls))
form_read finishes = refl
form_read goes_on = refl
form_read end = refl
