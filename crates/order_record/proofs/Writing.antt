-- The names and kinds of the orders, as the table has them, and the records that are written with them.
use Prim.Native.Nat.{ℕ, ◌+◌, ◌*◌, ◌<◌, ◌≤◌}
use mathlib.Core.Path.{◌≡◌, refl, sym, ap, ◌∙◌}
use mathlib.Core.Bool.{Bool, true}
use mathlib.Core.List.{List, map}
use native.Mathlib.Omega.{arith}
use borrow.Author.Tests.{ltb-true}
use lib.Dec.{ltb}
use lib.ListN.{length, get_or, take, drop, length-append}
use Rattle.base.specs.Text.{bytes}
use Rattle.base.specs.Places.{each}
use Rattle.base.proofs.Lists.{map_at}
use Rattle.base.proofs.Places.{each_at}
use Rattle.text.specs.Pieces.{decimal}
use Rattle.text.specs.Internal.{Placed, put_byte, put_all}
use Rattle.text.proofs.Writing.{put_all_append}
use Rattle.order.specs.declared.Order.{Order}
use Rattle.order.specs.declared.Order.TheVariants.{Stop}
use Rattle.order.specs.Order.{operand}
use Rattle.order.specs.Memory.{number, shapes, order_of}
use Rattle.order.specs.Object.{heading, record_text}
use Rattle.order.proofs.Numbers.{order_again}
use Rattle.order.proofs.Records.{heading_at_law}
use Rattle.order_record.specs.Internal.{heading_rows, heading_lengths}

-- ---- headings

-- the length of each; and that it is 2 to 7
all_lengths : each (λ k. get_or heading_lengths k 0) 0 38 ≡ each (λ k. length (heading (order_of k 0))) 0 38
unfolding each bytes order_of shapes
all_lengths = refl

module _ (k : ℕ) where
  -- a test of its length, as computed over all of them
  each_passes : (test : ℕ → Bool) → map (λ s. test (length (heading (s 0)))) shapes ≡ map (λ s. true) shapes → test 7 ≡ true
      → test (length (heading (order_of k 0))) ≡ true
  unfolding order_of bytes
  each_passes test all stop = map_at (λ s. test (length (heading (s 0)))) (λ s. true) shapes (λ v. Stop) all stop k

  pub heading_short : length (heading (order_of k 0)) ≤ 7
  unfolding shapes bytes
  heading_short = omega (arith, ltb-true (length (heading (order_of k 0))) 8 (each_passes (λ n. ltb n 8) refl refl))

  pub heading_long : 2 ≤ length (heading (order_of k 0))
  unfolding shapes bytes
  heading_long = omega (arith, ltb-true 1 (length (heading (order_of k 0))) (each_passes (λ n. ltb 1 n) refl refl))

-- each stands in its row of seven bytes
all_rows : each (λ k. take (length (heading (order_of k 0))) (drop (7 * k) heading_rows)) 0 38 ≡ each (λ k. heading (order_of k 0)) 0 38
unfolding each bytes order_of shapes
all_rows = refl

-- so the part of the rows that begins there and has that length is the heading
pub row_here :
    (row : List ℕ) (k : ℕ)
    → row ≡ take (get_or heading_lengths k 0) (drop (7 * k) heading_rows)
    → k < 38
    → row ≡ heading (order_of k 0)
row_here row k here h =
    let long = each_at (λ j. get_or heading_lengths j 0) (λ j. length (heading (order_of j 0))) 38 all_lengths k h in
    rw (here, long)
    (each_at (λ j. take (length (heading (order_of j 0))) (drop (7 * j) heading_rows)) (λ j. heading (order_of j 0)) 38 all_rows k h)

-- ---- a record

module _ (o : Order) where
  -- its name and kind, by its number
  numbered : heading (order_of (number o) 0) ≡ heading o
  numbered = sym (heading_at_law (number o) (operand o)) ∙ ap heading (order_again o)

  pub put_parts : (p : Placed) → put_byte 10 (put_all (decimal (operand o)) (put_all (heading (order_of (number o) 0)) p)) ≡ put_all (record_text o) p
  unfolding put_all
  put_parts p = rw numbered (sym (simp put_all_append))

  pub record_length : length (record_text o) ≡ length (heading (order_of (number o) 0)) + length (decimal (operand o)) + 1
  record_length = rw numbered (simp length-append)
