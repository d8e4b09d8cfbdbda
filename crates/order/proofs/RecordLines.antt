-- The lines of records at the front of a text: the records of orders are read as those orders, and what is read is what
-- stands there.
use Prim.Native.Nat.{ℕ, zero, suc, ◌<◌, ◌≤◌}
use mathlib.Core.Path.{◌≡◌, refl, sym, ap, ◌∙◌}
use mathlib.Core.List.{List, [], ◌∷◌, ◌++◌, append_assoc}
use native.Mathlib.Omega.{arith}
use lib.ListN.{length, get_or}
use Rattle.base.specs.Front.{on_front}
use Rattle.base.proofs.Lists.{each_cons}
use Rattle.base.proofs.Fronts.{by_front}
use Rattle.text.specs.Pieces.{greatest_number}
use Rattle.order.specs.declared.Order.{Order}
use Rattle.order.specs.declared.Order.TheVariants.{Stop}
use Rattle.order.specs.Order.{operand}
use Rattle.order.specs.Object.{Lines, record_text, records_text, record_at, lines_at}
use Rattle.order.proofs.Records.{record_again, again_record}

pub lines_again : (os : List Order) → ((k : ℕ) → k < length os → operand (get_or os k Stop) ≤ greatest_number)
    → lines_at (length os) (records_text os) ≡ record { orders = os; rest = [] }
unfolding lines_at records_text on_front
lines_again [] numbers = refl
lines_again (o ∷ os) numbers =
    rw (record_again o (records_text os) (numbers 0 (omega arith)), lines_again os (λ k l. numbers (suc k) (omega arith)))

-- what the lines at the front of l are, where at most n are read: they and the rest are all of l
pub record Read (n : ℕ) (l : List ℕ) (ls : Lines) : Type 0 where
  pub most : length ls.orders ≤ n
  pub whole : l ≡ records_text ls.orders ++ ls.rest
  pub numbers : (k : ℕ) → k < length ls.orders → operand (get_or ls.orders k Stop) ≤ greatest_number

none_read : (n : ℕ) (l : List ℕ) → Read n l (record { orders = []; rest = l })
unfolding records_text
none_read n l = record { most = omega arith; whole = refl; numbers = λ k h. absurd (omega arith) }

one_read : (n : ℕ) (o : Order) (l rest : List ℕ) (ls : Lines) → (l ≡ record_text o ++ rest) × (operand o ≤ greatest_number) → Read n rest ls
    → Read (suc n) l (record { orders = o ∷ ls.orders; rest = ls.rest })
unfolding records_text
one_read n o l rest ls line behind =
    record {
      most = omega arith;
      whole = line.0 ∙ ap (λ r. record_text o ++ r) behind.whole ∙ sym (append_assoc (record_text o) (records_text ls.orders) ls.rest);
      numbers = each_cons (λ p. operand p ≤ greatest_number) o Stop ls.orders (length ls.orders) line.1 behind.numbers;
    }

pub again_lines : (n : ℕ) (l : List ℕ) → Read n l (lines_at n l)
unfolding lines_at on_front
again_lines zero l = none_read 0 l
again_lines (suc n) l =
    by_front (record_at l)
    (λ o l₁ e. rw e (one_read n o l l₁ (lines_at n l₁) (again_record o l l₁ e) (again_lines n l₁)))
    (λ e. rw e (none_read (suc n) l))
