-- The reader of specs/Grammar against the syntax of specs/Syntax: `form` finds a form exactly where the syntax has one, that
-- one, and no other; where it finds none, the syntax has none.
use mathlib.Core.Path.{◌≡◌, refl, sym, subst, ◌∙◌}
use mathlib.Core.List.{List}
use Rattle.source.specs.declared.Token.{Token}
use Rattle.source.specs.Grammar.{Form, beginning, declaration, ending, labels, instruction, finish, finish_else, no_form, form}
use Rattle.source.specs.Syntax.{Stated, begin, integers, instructed, alone, finishes, goes_on, end}
use Rattle.source.proofs.SyntaxRead.{form_read}
use Rattle.source.proofs.ReadSyntax.{Finds, finds, no_form_law, form_finds}

abbrev pub IsForm : Form → Type 0
IsForm beginning = Unit {0}
IsForm declaration = Unit {0}
IsForm ending = Unit {0}
IsForm (labels ls) = Unit {0}
IsForm (instruction ls i) = Unit {0}
IsForm finish = Unit {0}
IsForm finish_else = Unit {0}
IsForm no_form = ⊥

is_form : {ts : List Token} {f : Form} → Stated ts f → IsForm f
is_form begin = tt
is_form (integers ns) = tt
is_form (instructed l i) = tt
is_form (alone l) = tt
is_form finishes = tt
is_form goes_on = tt
is_form end = tt

-- ---- the statements

-- complete: each form that is stated is found
pub form_found : (ts : List Token) (f : Form) → Stated ts f → form ts ≡ f
form_found ts f s = form_read s

-- sound: each that is found is stated
pub form_stated : (ts : List Token) (f : Form) → form ts ≡ f → (f ≡ no_form → ⊥) → Stated ts f
form_stated ts f e some = subst (Stated ts) e (go (form_finds ts) (λ z. some (sym e ∙ z)))
  where
    go : {us : List Token} {g : Form} → Finds us g → (g ≡ no_form → ⊥) → Stated us g
    go (finds s) h = s
    go no_form_law h = absurd (h refl)

-- so there is one at most,
pub form_only : (ts : List Token) (f g : Form) → Stated ts f → Stated ts g → f ≡ g
form_only ts f g s t = sym (form_found ts f s) ∙ form_found ts g t

-- and `form` finds none exactly where none is stated
pub none_stated : (ts : List Token) → form ts ≡ no_form → (f : Form) → Stated ts f → ⊥
none_stated ts e f s = subst IsForm (sym (form_found ts f s) ∙ e) (is_form s)

pub none_found : (ts : List Token) → ((f : Form) → Stated ts f → ⊥) → form ts ≡ no_form
none_found ts none = go (form_finds ts) none
  where
    go : {us : List Token} {g : Form} → Finds us g → ((f : Form) → Stated us f → ⊥) → g ≡ no_form
    go (finds s) h = absurd (h _ s)
    go no_form_law h = refl
