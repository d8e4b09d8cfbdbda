-- A step and the outcome that it stands for, and in which stage of a program a statement may stand.
use Prim.Native.Nat.{ℕ}
use mathlib.Core.Path.{◌≡◌, refl, sym, ◌∙◌}
use mathlib.Core.List.{List}
use Rattle.sheet.specs.Sheet.{Sheet}
use Rattle.source.specs.Tokens.{Lexeme}
use Rattle.source.specs.Grammar.{Instruction, Form, ending, labels, instruction, finish, finish_else}
use Rattle.source.specs.Program.{Program, Stage, nothing, declarations, instructions, Outcome, refused, further, in_order}
use Rattle.source.specs.Program.{labelling, instructing, finishing, alternating, concluding}
use Rattle.std.proofs.Common.{Result, Ok, Err}
use Rattle.source.specs.declared.Refusal.{Refusal}
use Rattle.source.specs.declared.Refusal.TheVariants.{Form as NoForm}
use Rattle.source.specs.Refusals.{refusal_number}
use Rattle.front_end_forms.specs.declared.Stage.TheVariants.{Nothing}
use Rattle.front_end_forms.specs.declared.Progress.{Progress}
use Rattle.front_end_forms.specs.declared.Step.TheVariants.{Further}
use Rattle.front_end_forms.specs.declared.Failure.{Failure}
use Rattle.front_end_forms.specs.declared.Failure.TheVariants.{Refused, Unfit}
use Rattle.front_end_forms.specs.Memory.{NameTable, stage_of, Holds}
use Rattle.front_end_forms.specs.Answers.{Comes, refuses, comes, Goes, Steps}

-- ---- the outcome that an answer stands for, where the outcome is known

pub comes_refused : {A : Type 0} {T : A → Outcome → Type 0} {o : Outcome} (e : Refusal) (k : ℕ) → o ≡ refused (refusal_number e) k → Comes T (Err (Refused e k)) o
comes_refused {A} {T} e k same = rw same (refuses e k)

pub comes_further : {P : Program → Progress → Type 0} {o : Outcome} (q : Program) (p : Progress) → o ≡ further q → P q p → Comes (Goes P) (Ok p) o
comes_further q p e h = comes p _ (record { program = q; same = e; kept = h })

pub steps_further : {P : Program → Progress → Type 0} {G : Sheet → Type 0} {o : Outcome} (q : Program) (p : Progress) → o ≡ further q → P q p
    → Comes (Steps P G) (Ok (Further p)) o
steps_further q p e h = comes (Further p) _ (record { program = q; same = e; kept = h })

-- ---- what an answer says of its outcome

abbrev pub Says : {A : Type 0} → (A → Outcome → Type 0) → Result A Failure → Outcome → Type 0
Says T (Ok a) o = T a o
Says T (Err (Refused e k)) o = o ≡ refused (refusal_number e) k
Says T (Err Unfit) o = ⊥

pub says : {A : Type 0} {T : A → Outcome → Type 0} {r : Result A Failure} {o : Outcome} → Comes T r o → Says T r o
says (refuses e k) = refl
says (comes a o t) = t

-- ---- forms that stand behind %BEGIN

pub record Behind (q : Program) (k : ℕ) (xs : List Lexeme) (f : Form) (o : Outcome) : Type 0 where
  before_all : in_order q nothing k xs f ≡ refused 7 k
  among_declarations : in_order q declarations k xs f ≡ o
  among_instructions : in_order q instructions k xs f ≡ o

module _ (q : Program) (k : ℕ) (xs : List Lexeme) where
  pub end_behind : Behind q k xs ending (concluding q)
  end_behind = record { before_all = refl; among_declarations = refl; among_instructions = refl }

  pub labels_behind : (ls : List ℕ) → Behind q k xs (labels ls) (labelling q k ls)
  labels_behind ls = record { before_all = refl; among_declarations = refl; among_instructions = refl }

  pub instruction_behind : (ls : List ℕ) (i : Instruction) → Behind q k xs (instruction ls i) (instructing q k ls i)
  instruction_behind ls i = record { before_all = refl; among_declarations = refl; among_instructions = refl }

  pub finish_behind : Behind q k xs finish (finishing q k q.groups)
  finish_behind = record { before_all = refl; among_declarations = refl; among_instructions = refl }

  pub else_behind : Behind q k xs finish_else (alternating q k q.groups)
  else_behind = record { before_all = refl; among_declarations = refl; among_instructions = refl }

module _ {q : Program} {k : ℕ} {xs : List Lexeme} {f : Form} {o : Outcome} (b : Behind q k xs f o) where
  in_first : (t : Stage) → stage_of t ≡ Nothing → in_order q t k xs f ≡ refused 7 k
  in_first nothing e = b.before_all
  in_first declarations e = cc
  in_first instructions e = cc

  in_later : (t : Stage) → (stage_of t ≡ Nothing → ⊥) → in_order q t k xs f ≡ o
  in_later nothing n = absurd (n refl)
  in_later declarations n = b.among_declarations
  in_later instructions n = b.among_instructions

  module _ {p : Progress} {ns : NameTable} {ls gs fs : List ℕ} (h : Holds q p ns ls gs fs) {A : Type 0} {T : A → Outcome → Type 0} where
    pub early : p.stage ≡ Nothing → Comes T (Err (Refused NoForm k)) (in_order q q.stage k xs f)
    early e = comes_refused NoForm k (in_first q.stage (sym h.staged ∙ e))

    module _ (n : p.stage ≡ Nothing → ⊥) {r : Result A Failure} where
      pub late : Comes T r o → Comes T r (in_order q q.stage k xs f)
      late one = rw (in_later q.stage (λ z. n (h.staged ∙ z))) one

      pub late_told : Comes T r (in_order q q.stage k xs f) → Comes T r o
      late_told one = rw (← in_later q.stage (λ z. n (h.staged ∙ z))) one
