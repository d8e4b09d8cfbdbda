-- Object text and its reading: the text of a good object is read as that object; whatever is read is good, and is the
-- text of what was read; so an object has one text.
use Prim.Native.Nat.{ℕ}
use mathlib.Core.Path.{◌≡◌, sym, ◌∙◌}
use mathlib.Core.List.{List}
use lib.ListN.{length}
use Rattle.base.specs.Front.{on_front}
use Rattle.order.specs.declared.Order.{Order}
use Rattle.order.specs.Object.{object, records_text, text, reading, lines_of}
use Rattle.order.specs.Good.{Good}
use Rattle.order.proofs.HeaderText.{Within, header_again}
use Rattle.order.proofs.RecordLines.{lines_again}
use Rattle.order.proofs.OrderTests.{numbers_small}
use Rattle.order.proofs.ObjectChecks.{all_pass}
use Rattle.order.proofs.Accepted.{accepted}

pub read_text : (v t : ℕ) (os : List Order) → Good v t os → reading (text v t os) ≡ object v t os
unfolding reading text on_front
read_text v t os g = rw (header_again v t (length os) (records_text os) within, lines_again os (numbers_small v t os g)) (all_pass v t os g)
  where
    within : Within v t (length os)
    within = record { variables = g.variables; temporaries = g.temporaries; some_orders = g.some_orders; few_orders = g.few_orders }

pub text_read : (l : List ℕ) (v t : ℕ) (os : List Order) → reading l ≡ object v t os → text v t os ≡ l
text_read l v t os e = sym (accepted l v t os e).written

pub read_good : (l : List ℕ) (v t : ℕ) (os : List Order) → reading l ≡ object v t os → Good v t os
read_good l v t os e = (accepted l v t os e).good

pub one_text : (l m : List ℕ) (v t : ℕ) (os : List Order) → reading l ≡ object v t os → reading m ≡ object v t os → l ≡ m
one_text l m v t os e f = sym (text_read l v t os e) ∙ text_read m v t os f

-- the lines read before a refusal are all of them where there is none
pub lines_read : (l : List ℕ) (v t : ℕ) (os : List Order) → reading l ≡ object v t os → lines_of l ≡ os
lines_read l v t os e = (accepted l v t os e).lines
