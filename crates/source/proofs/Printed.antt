-- Every statement with labels and an instruction is read back from its tokens, its expressions with all brackets.
use Prim.Native.Nat.{ℕ}
use mathlib.Core.Path.{◌≡◌, refl, sym, ap, subst, ◌∙◌}
use mathlib.Core.List.{List, [], ◌∷◌, ◌++◌, append_assoc}
use mathlib.Core.Bool.{false}
use Rattle.base.specs.Choice.{pick}
use Rattle.sheet.specs.declared.Joining.{Joining}
use Rattle.sheet.specs.Sheet.{Simple, set, send, goto, Condition, compares, joins}
use Rattle.sheet.specs.Condition.{is_run, Merged}
use Rattle.sheet.specs.Merge.{join_of}
use Rattle.source.specs.Grammar.{mark_of, Instruction, simple, if_then, if_else, if_start, labels, instruction, form}
use Rattle.source.specs.declared.Token.TheVariants.{Mark}
use Rattle.source.specs.Syntax.{Joined, Simply, assignment, sending, jump, Member, comparison, enclosed, two, Asked, single, run, Instructed, simply, conditional, alternative, opening}
use Rattle.source.specs.Syntax.{LabelList, none, label, instructed, alone}
use Rattle.source.specs.Printed.{printed_simple, printed_member, printed_condition, printed_instruction, printed_labels}
use Rattle.source.proofs.Syntax.{form_found}
use Rattle.source.proofs.Bracketed.{printed_expressed}

printed_simple_law : (u : Simple) → Simply (printed_simple u) u
printed_simple_law (set w e) = assignment w (printed_expressed e)
printed_simple_law (send e) = sending (printed_expressed e)
printed_simple_law (goto l) = jump l

-- a member that is no run of the word that joins it stays one
apart : (w : Joining) (a b : Condition) → is_run w a ≡ false → join_of w a b ≡ joins w a b
unfolding join_of pick
apart w (compares r x y) b e = refl
apart w (joins u x y) b e = rw e refl

printed_member_law : (c : Condition) → Merged c → Member (printed_member c) c
unfolding printed_member Merged
printed_member_law (compares r a b) m = comparison r (printed_expressed a) (printed_expressed b)
printed_member_law (joins w a b) m =
    enclosed
    (run
    (subst (λ c. Joined w (printed_member a ++ Mark (mark_of w) ∷ printed_member b) c) (apart w a b m.0)
    (two w (printed_member_law a m.1) (printed_member_law b m.2))))

printed_condition_law : (c : Condition) → Merged c → Asked (printed_condition c) c
unfolding Merged
printed_condition_law (compares r a b) m = single (printed_member_law (compares r a b) m)
printed_condition_law (joins w a b) m =
    run
    (subst (λ c. Joined w (printed_member a ++ Mark (mark_of w) ∷ printed_member b) c) (apart w a b m.0)
    (two w (printed_member_law a m.1) (printed_member_law b m.2)))

-- the runs of an instruction are merged
abbrev pub InstructionMerged : Instruction → Type 0
InstructionMerged (simple u) = Unit {0}
InstructionMerged (if_then c u) = Merged c
InstructionMerged (if_else c u w) = Merged c
InstructionMerged (if_start c) = Merged c

printed_instruction_law : (i : Instruction) → InstructionMerged i → Instructed (printed_instruction i) i
printed_instruction_law (simple u) m = simply (printed_simple_law u)
printed_instruction_law (if_then c u) m = conditional (printed_condition_law c m) (printed_simple_law u)
printed_instruction_law (if_else c u w) m =
    simp append_assoc at (alternative (printed_condition_law c m) (printed_simple_law u) (printed_simple_law w))
printed_instruction_law (if_start c) m = opening (printed_condition_law c m)

printed_labels_law : (ls : List ℕ) → LabelList (printed_labels ls) ls
unfolding printed_labels
printed_labels_law [] = none
printed_labels_law (l ∷ ls) = label l (printed_labels_law ls)

-- ---- the statements

pub form_again : (ls : List ℕ) (i : Instruction) → InstructionMerged i → form (printed_labels ls ++ printed_instruction i) ≡ instruction ls i
form_again ls i m = form_found _ _ (instructed (printed_labels_law ls) (printed_instruction_law i m))

pub labels_form_law : (ls : List ℕ) → form (printed_labels ls) ≡ labels ls
labels_form_law ls = form_found _ _ (alone (printed_labels_law ls))

-- no two of them have the same tokens
pub statement_once : (ls ms : List ℕ) (i j : Instruction) → InstructionMerged i → InstructionMerged j
    → printed_labels ls ++ printed_instruction i ≡ printed_labels ms ++ printed_instruction j → (ls ≡ ms) × (i ≡ j)
statement_once ls ms i j m n same = parts (sym (form_again ls i m) ∙ ap form same ∙ form_again ms j n)
  where
    parts : instruction ls i ≡ instruction ms j → (ls ≡ ms) × (i ≡ j)
    parts h = let first : ls ≡ ms = cc in let second : i ≡ j = cc in (first, second)
