-- The run from the start ends exactly where the meaning does: a run that ends has a meaning that ends, and the meaning that
-- never ends uses up every budget.
use Prim.Native.Nat.{ℕ, suc, ◌/◌, ◌≤◌, ◌<◌}
use mathlib.Core.Path.{◌≡◌, refl, sym, ap, ◌∙◌}
use mathlib.Core.List.{List}
use lib.ListN.{length}
use Rattle.machine.specs.Machine.{Run, ran}
use Rattle.machine.proofs.Resume.{used_up}
use Rattle.sheet.specs.Sheet.{Sheet}
use Rattle.sheet.specs.Translation.{translation}
use Rattle.sheet.specs.Within.{Within}
use Rattle.sheet.specs.Meaning.{after}
use Rattle.sheet.specs.Following.{start_run, steps_of, ending_of, Ends, OutOfBudget, MeaningEnds, MeaningGoesOn}
use Rattle.sheet.proofs.Counts.{count_at_least}
use Rattle.sheet.proofs.Following.{following}

module _ (s : Sheet) (within : Within s) (out : List ℕ) where
  abbrev count : ℕ → ℕ
  count k = (after k (length out / 4) s).count

  -- a budget below the count of the first k instructions is used up
  pub before_count : (k b : ℕ) → b < count k → OutOfBudget s out b
  before_count k b less = seen (start_run s out b) refl
    where
      seen : (x : Run) → start_run s out b ≡ x → (steps_of x ≡ b) × (ending_of x ≡ 0)
      seen (ran j m) e = used_up (translation s) b (count k) _ _ less (following s within out k).steps j m e

  pub never_ends : MeaningGoesOn s out → (b : ℕ) → OutOfBudget s out b
  never_ends goes_on_law b = before_count (suc b) b (count_at_least s (length out / 4) (suc b) (goes_on_law (suc b)))

  pub ends : (b : ℕ) → Ends s out b → MeaningEnds s out
  ends b over =
      record {
        done = suc b;
        ended = λ yet. over (before_count (suc b) b (count_at_least s (length out / 4) (suc b) yet)).1;
      }

  -- where the meaning has ended, so has the run with its count, or more, as budget
  pub ends_too : (m : MeaningEnds s out) (b : ℕ) → count m.done ≤ b → Ends s out b
  ends_too m b enough yet =
      let it = following s within out m.done in
      m.ended (sym it.ends_alike ∙ ap ending_of (sym (it.ended m.ended b enough ∙ it.steps)) ∙ yet)
