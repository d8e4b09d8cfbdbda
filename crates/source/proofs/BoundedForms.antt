-- The instruction that tokens are: its words and constants are those of the tokens, and its runs are merged.
use Prim.Native.Nat.{ℕ, ◌+◌, ◌<◌, ◌≤◌}
use mathlib.Core.List.{List, [], ◌∷◌, ◌++◌}
use Rattle.sheet.specs.Sheet.{Expression, word, constant, negated, inverted, binary, Simple, set, send, goto}
use Rattle.sheet.specs.declared.Joining.{Joining}
use Rattle.sheet.specs.declared.Joining.TheVariants.{And, Or}
use Rattle.sheet.specs.Sheet.{Condition, compares, joins}
use Rattle.sheet.specs.Condition.{Merged}
use Rattle.sheet.specs.Merge.{join_of}
use Rattle.sheet.proofs.Merging.{join_merged}
use Rattle.source.specs.declared.Token.{Token}
use Rattle.source.specs.declared.Token.TheVariants.{Binary, Compare, Mark}
use Rattle.source.specs.Limits.{greatest_constant}
use Rattle.base.specs.Choice.{pick}
use Rattle.source.specs.Tokens.{mark_then, mark_else, mark_start, mark_close}
use Rattle.source.specs.Grammar.{mark_of, Instruction, simple, if_then, if_else, if_start}
use Rattle.source.specs.Grammar.{Form, beginning, declaration, ending, labels, instruction, finish, finish_else, no_form, form}
use Rattle.source.specs.Syntax.{named, decimal, quoted, bracketed, operand, inverse, higher, operation, minus}
use Rattle.source.specs.Syntax.{Expressed, expression, plus, Simply, assignment, sending, jump}
use Rattle.source.specs.Syntax.{Asked, comparison, enclosed, two, more, single, run, Instructed, simply, conditional, alternative, opening}
use Rattle.source.specs.Syntax.{begin, integers, instructed, alone, finishes, goes_on, end}
use Rattle.source.proofs.Each.{Each}
use Rattle.source.proofs.FineTokens.{Fine}
use Rattle.source.proofs.ReadSyntax.{Finds, finds, no_form_law, form_finds}

module _ (v : ℕ) where
  abbrev pub Bounded : Expression → Type 0
  Bounded (word w) = w < v + 2
  Bounded (constant n) = n ≤ greatest_constant
  Bounded (negated e) = Bounded e
  Bounded (inverted e) = Bounded e
  Bounded (binary o l r) = Bounded l × Bounded r

  abbrev pub SimpleBounded : Simple → Type 0
  SimpleBounded (set w e) = (w < v + 2) × Bounded e
  SimpleBounded (send e) = Bounded e
  SimpleBounded (goto l) = Unit {0}

  abbrev pub ConditionBounded : Condition → Type 0
  ConditionBounded (compares r a b) = Bounded a × Bounded b
  ConditionBounded (joins w a b) = ConditionBounded a × ConditionBounded b

  abbrev pub ConditionFound : Condition → Type 0
  ConditionFound c = ConditionBounded c × Merged c

  abbrev pub InstructionBounded : Instruction → Type 0
  InstructionBounded (simple u) = SimpleBounded u
  InstructionBounded (if_then c u) = ConditionFound c × SimpleBounded u
  InstructionBounded (if_else c u w) = ConditionFound c × SimpleBounded u × SimpleBounded w
  InstructionBounded (if_start c) = ConditionFound c

  abbrev pub FormBounded : Form → Type 0
  FormBounded beginning = Unit {0}
  FormBounded declaration = Unit {0}
  FormBounded ending = Unit {0}
  FormBounded (labels ls) = Unit {0}
  FormBounded (instruction ls i) = InstructionBounded i
  FormBounded finish = Unit {0}
  FormBounded finish_else = Unit {0}
  FormBounded no_form = Unit {0}

  abbrev Tokens : List Token → Type 0
  Tokens ts = Each (Fine v) ts

  fine_front : (ts us : List Token) → Tokens (ts ++ us) → Tokens ts
  fine_front [] us h = tt
  fine_front (t ∷ ts) us h = (h.0, fine_front ts us h.1)

  fine_rest : (ts us : List Token) → Tokens (ts ++ us) → Tokens us
  fine_rest [] us h = h
  fine_rest (t ∷ ts) us h = fine_rest ts us h.1

  expression_bounded : {ts : List Token} {e : Expression} → Expressed ts e → Tokens ts → Bounded e
  expression_bounded d =
      elim d as (λ ts e x. Tokens ts → Bounded e) (λ p n ts e x. Tokens ts → Bounded e) (λ ts e x. Tokens ts → Bounded e) [
        | named w ↦ λ h. h.0
        | decimal n ↦ λ h. h.0
        | quoted n ↦ λ h. h.0
        | bracketed {ts = ts} (c → k) ↦ λ h. k (fine_front ts (Mark mark_close ∷ []) h.1)
        | operand (x → k) ↦ λ h. k h
        | inverse (x → k) ↦ λ h. k h.1
        | higher (c → k) ↦ λ h. k h
        | operation {ts = ts} {us = us} o (c → k) (b → m) ↦
            λ h. (k (fine_front ts (Binary o ∷ us) h), m (fine_rest ts (Binary o ∷ us) h).1)
        | minus (c → k) ↦ λ h. k h.1
        | expression (c → k) ↦ λ h. k h
        | plus (c → k) ↦ λ h. k h.1
      ]

  simple_bounded : {ts : List Token} {u : Simple} → Simply ts u → Tokens ts → SimpleBounded u
  simple_bounded (assignment w d) h = (h.0, expression_bounded d h.1.1)
  simple_bounded (sending {ts = ts} d) h = expression_bounded d (fine_front ts (Mark mark_close ∷ []) h.1.1)
  simple_bounded (jump l) h = tt

  join_bounded : (w : Joining) (a b : Condition) → ConditionBounded a → ConditionBounded b → ConditionBounded (join_of w a b)
  unfolding join_of pick
  join_bounded w (compares r x y) b h k = (h, k)
  join_bounded And (joins And a c) b h k = (h.0, join_bounded And c b h.1 k)
  join_bounded And (joins Or a c) b h k = (h, k)
  join_bounded Or (joins And a c) b h k = (h, k)
  join_bounded Or (joins Or a c) b h k = (h.0, join_bounded Or c b h.1 k)

  condition_bounded : {ts : List Token} {c : Condition} → Asked ts c → Tokens ts → ConditionBounded c
  condition_bounded q =
      elim q as (λ ts c x. Tokens ts → ConditionBounded c) (λ w ts c x. Tokens ts → ConditionBounded c) (λ ts c x. Tokens ts → ConditionBounded c) [
        | comparison {xs = xs} {ys = ys} r c d ↦ λ h.
            (expression_bounded c (fine_front xs (Compare r ∷ ys) h), expression_bounded d (fine_rest xs (Compare r ∷ ys) h).1)
        | enclosed {ts = ts} (c → k) ↦ λ h. k (fine_front ts (Mark mark_close ∷ []) h.1)
        | two w {ts = ts} {us = us} {a = a} {b = b} (c → k) (d → m) ↦ λ h.
            join_bounded w a b (k (fine_front ts (Mark (mark_of w) ∷ us) h)) (m (fine_rest ts (Mark (mark_of w) ∷ us) h).1)
        | more w {ts = ts} {us = us} {a = a} {b = b} (c → k) (d → m) ↦ λ h.
            join_bounded w a b (k (fine_front ts (Mark (mark_of w) ∷ us) h)) (m (fine_rest ts (Mark (mark_of w) ∷ us) h).1)
        | single (c → k) ↦ λ h. k h
        | run (c → k) ↦ λ h. k h
      ]

  condition_merged : {ts : List Token} {c : Condition} → Asked ts c → Merged c
  unfolding Merged
  condition_merged q =
      elim q as (λ ts c x. Merged c) (λ w ts c x. Merged c) (λ ts c x. Merged c) [
        | comparison r c d ↦ tt
        | enclosed (c → k) ↦ k
        | two w {a = a} {b = b} (c → k) (d → m) ↦ join_merged w a b k m
        | more w {a = a} {b = b} (c → k) (d → m) ↦ join_merged w a b k m
        | single (c → k) ↦ k
        | run (c → k) ↦ k
      ]

  condition_found : {ts : List Token} {c : Condition} → Asked ts c → Tokens ts → ConditionFound c
  condition_found q h = (condition_bounded q h, condition_merged q)

  instruction_bounded : {ts : List Token} {i : Instruction} → Instructed ts i → Tokens ts → InstructionBounded i
  instruction_bounded (simply s) h = simple_bounded s h
  instruction_bounded (conditional {xs = xs} {us = us} q s) h = (
    condition_found q (fine_front xs (Mark mark_then ∷ us) h.1),
    simple_bounded s (fine_rest xs (Mark mark_then ∷ us) h.1).1,
  )
  instruction_bounded (alternative {xs = xs} {us = us} {ws = ws} q s t) h =
      let before_else = fine_front (xs ++ Mark mark_then ∷ us) (Mark mark_else ∷ ws) h.1 in
      let behind_else = fine_rest (xs ++ Mark mark_then ∷ us) (Mark mark_else ∷ ws) h.1 in (
        condition_found q (fine_front xs (Mark mark_then ∷ us) before_else),
        simple_bounded s (fine_rest xs (Mark mark_then ∷ us) before_else).1,
        simple_bounded t behind_else.1,
      )
  instruction_bounded (opening {xs = xs} q) h = condition_found q (fine_front xs (Mark mark_then ∷ Mark mark_start ∷ []) h.1)

  found_bounded : {ts : List Token} {f : Form} → Finds ts f → Tokens ts → FormBounded f
  found_bounded (finds begin) h = tt
  found_bounded (finds (integers ns)) h = tt
  found_bounded (finds (instructed {ts = ts} {us = us} l i)) h = instruction_bounded i (fine_rest ts us h)
  found_bounded (finds (alone l)) h = tt
  found_bounded (finds finishes) h = tt
  found_bounded (finds goes_on) h = tt
  found_bounded (finds end) h = tt
  found_bounded no_form_law h = tt

  pub form_bounded : (ts : List Token) → Each (Fine v) ts → FormBounded (form ts)
  form_bounded ts h = found_bounded (form_finds ts) h
