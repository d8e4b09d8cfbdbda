-- The fields of joined conditions: where the word goes that joins another member.
use Prim.Native.Nat.{ℕ, zero, suc, ◌+◌, ◌≤◌}
use mathlib.Core.Path.{◌≡◌, refl, sym, ap, ◌∙◌}
use mathlib.Core.Bool.{true}
use mathlib.Core.List.{List, [], ◌∷◌, ◌++◌, append_assoc}
use native.Mathlib.Omega.{arith}
use native.Mathlib.Nat.{zero-add, suc-add}
use lib.ListN.{length, length-append}
use Rattle.std.specs.Prelude.{Option, Some, None}
use Rattle.base.specs.Choice.{pick}
use Rattle.base.proofs.Cases.{either_part}
use Rattle.sheet.specs.declared.Joining.{Joining}
use Rattle.sheet.specs.declared.Joining.TheVariants.{And, Or}
use Rattle.sheet.specs.declared.Field.{Field}
use Rattle.sheet.specs.declared.Field.TheVariants.{Run}
use Rattle.sheet.specs.Sheet.{Condition, compares, joins}
use Rattle.sheet.specs.Condition.{is_run}
use Rattle.sheet.specs.Merge.{join_of}
use Rattle.sheet.specs.Memory.{condition_fields}
use Rattle.grammar_output.specs.Internal.{insert_at}
use Rattle.grammar_member.specs.Internal.{top_of, last_of, last_place, Before, first, behind, joint_of, add, fields_before}

-- ---- a field inserted among others

-- behind the first of two lists
pub insert_behind : (fs gs : List Field) (p : ℕ) (f : Field) → insert_at (length fs + p) f (fs ++ gs) ≡ fs ++ insert_at p f gs
unfolding insert_at
insert_behind [] gs p f = ap (λ q. insert_at q f gs) (zero-add p)
insert_behind (x ∷ fs) gs p f =
    ap (λ q. insert_at q f (x ∷ (fs ++ gs))) (suc-add (length fs) p) ∙ ap (λ l. x ∷ l) (insert_behind fs gs p f)

pub insert_length : (p : ℕ) (f : Field) (fs : List Field) → length (insert_at p f fs) ≡ length fs + 1
unfolding insert_at
insert_length zero f fs = omega arith
insert_length (suc p) f [] = refl
insert_length (suc p) f (x ∷ fs) = omega (arith, insert_length p f fs)

-- ---- one member more

run_fields_by : (w : Joining) (a b m : Condition)
    → condition_fields (join_of w b m) ≡ insert_at (last_place (Some w) b) (Run w 0) (condition_fields b) ++ condition_fields m
    → Run w 0 ∷ (condition_fields a ++ condition_fields (join_of w b m))
    ≡ insert_at (length (Run w 0 ∷ condition_fields a) + pick (is_run w b) (last_of b) 0) (Run w 0) (Run w 0 ∷ (condition_fields a ++ condition_fields b))
    ++ condition_fields m
run_fields_by w a b m e =
    ap (λ l. Run w 0 ∷ (condition_fields a ++ l)) e
    ∙ sym (append_assoc (Run w 0 ∷ condition_fields a) (insert_at (last_place (Some w) b) (Run w 0) (condition_fields b)) (condition_fields m))
    ∙ ap (λ l. l ++ condition_fields m)
    (sym (insert_behind (Run w 0 ∷ condition_fields a) (condition_fields b) (last_place (Some w) b) (Run w 0)))

-- the word goes before the last member of a run of the same word, and else before all
run_fields : (w : Joining) (c m : Condition)
    → condition_fields (join_of w c m) ≡ insert_at (last_place (Some w) c) (Run w 0) (condition_fields c) ++ condition_fields m
unfolding join_of condition_fields pick last_of insert_at
run_fields w (compares r a b) m = refl
run_fields And (joins And a b) m = run_fields_by And a b m (run_fields And b m)
run_fields And (joins Or a b) m = refl
run_fields Or (joins And a b) m = refl
run_fields Or (joins Or a b) m = run_fields_by Or a b m (run_fields Or b m)

run_top : (w : Joining) (c m : Condition) → top_of (join_of w c m) ≡ Some w
unfolding join_of pick
run_top w (compares r a b) m = refl
run_top And (joins And a b) m = refl
run_top And (joins Or a b) m = refl
run_top Or (joins And a b) m = refl
run_top Or (joins Or a b) m = refl

is_run_law : (w : Joining) (c m : Condition) → is_run w (join_of w c m) ≡ true
unfolding join_of pick
is_run_law And (compares r a b) m = refl
is_run_law Or (compares r a b) m = refl
is_run_law And (joins And a b) m = refl
is_run_law And (joins Or a b) m = refl
is_run_law Or (joins And a b) m = refl
is_run_law Or (joins Or a b) m = refl

run_last : (w : Joining) (c m : Condition) → last_of (join_of w c m) ≡ length (condition_fields c) + 1 + last_place (Some w) m
unfolding join_of condition_fields pick last_of
run_last w (compares r a b) m = omega arith
run_last And (joins And a b) m =
    rw (is_run_law And b m, run_last And b m, length-append (condition_fields a) (condition_fields b)) (omega arith)
run_last And (joins Or a b) m = omega arith
run_last Or (joins And a b) m = omega arith
run_last Or (joins Or a b) m =
    rw (is_run_law Or b m, run_last Or b m, length-append (condition_fields a) (condition_fields b)) (omega arith)

-- the last member begins among the fields
pub last_within : (c : Condition) → last_of c ≤ length (condition_fields c)
unfolding last_of condition_fields
last_within (compares r a b) = omega arith
last_within (joins w a b) =
    let within : pick (is_run w b) (last_of b) 0 ≤ length (condition_fields b) =
    either_part (λ k. k ≤ length (condition_fields b)) _ _ _ (λ e. last_within b) (λ e. omega arith) in
    omega (arith, within, length-append (condition_fields a) (condition_fields b))

-- ---- what stands before a member, and the member

pub add_fields : (b : Before) (m : Condition) → condition_fields (add b m) ≡ fields_before b ++ condition_fields m
add_fields first m = refl
add_fields (behind w c) m = run_fields w c m

pub add_last : (b : Before) (m : Condition) → last_of (add b m) ≡ length (fields_before b) + last_place (joint_of b) m
add_last first m = omega arith
add_last (behind w c) m =
    run_last w c m ∙ ap (λ k. k + last_place (Some w) m) (sym (insert_length (last_place (Some w) c) (Run w 0) (condition_fields c)))

abbrev pub join_top : Option Joining → Condition → Option Joining
join_top None m = top_of m
join_top (Some w) m = Some w

pub add_top : (b : Before) (m : Condition) → top_of (add b m) ≡ join_top (joint_of b) m
add_top first m = refl
add_top (behind w c) m = run_top w c m
