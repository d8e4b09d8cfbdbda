-- What was read is written as it was: the orders at the front of the array that `read` fills give the text back.
use Prim.Native.Nat.{ℕ, ◌≤◌}
use mathlib.Core.Path.{◌≡◌}
use mathlib.Core.List.{List, map}
use lib.ListN.{length, take}
use lib.Seq.{sets}
use Rattle.order.specs.declared.Order.{Order}
use Rattle.order.specs.Memory.{order_word, orders_in}
use Rattle.order.specs.Object.{object, text, reading, lines_of}
use Rattle.order.specs.Good.{Good}
use Rattle.order.proofs.RoundTrip.{read_text, text_read, read_good, lines_read}
use Rattle.order.proofs.Arrays.{good_narrow, array_holds}

pub write_again :
    (os : List Order) (ws : List ℕ)
    → length os ≤ length ws
    → (l : List ℕ) (v t : ℕ)
    → reading l ≡ object v t os
    → text v t (orders_in (take (length os) (sets ws 0 (map order_word (lines_of l))))) ≡ l
write_again os ws room l v t e =
    rw (lines_read l v t os e, array_holds os ws (good_narrow v t os (read_good l v t os e)) room) (text_read l v t os e)

-- and what was written is read as it was: the array that `read` fills from the text of good orders holds them
pub read_again :
    (v t : ℕ) (os : List Order) (ws : List ℕ)
    → Good v t os
    → length os ≤ length ws
    → orders_in (take (length os) (sets ws 0 (map order_word (lines_of (text v t os))))) ≡ os
read_again v t os ws good room =
    rw (lines_read (text v t os) v t os (read_text v t os good)) (array_holds os ws (good_narrow v t os good) room)
