-- Document 01's worked object ("One program whole"): its text is read as its orders, which send 5, then 3, in 20 steps.
use Prim.Native.Nat.{ℕ}
use mathlib.Core.Path.{◌≡◌, refl}
use mathlib.Core.List.{List, [], ◌∷◌}
use lib.ListN.{replicate}
use Rattle.base.specs.Choice.{pick}
use Rattle.base.specs.Text.{bytes}
use Rattle.base.specs.Front.{on_front}
use Rattle.word.specs.declared.Relation.TheVariants.{AtMost}
use Rattle.word.specs.Word.{wrap, signed, word, sum, difference, product, negation, quotient, comparison}
use Rattle.text.specs.Pieces.{digits_of, fixed, digits, numeral}
use Rattle.order.specs.declared.Operation.TheVariants.{Load, Sub, Div, Cmp}
use Rattle.order.specs.declared.Order.{Order}
use Rattle.order.specs.declared.Order.TheVariants.{Word, Number, Store, Jump, Skip, Branch, Send, Stop}
use Rattle.order.specs.Order.{table}
use Rattle.order.specs.Object.{object, reading, text, records_text}
use Rattle.order.specs.Object.{within_limits, header_at, record_among, record_at, lines_at}
use Rattle.order.specs.Object.{first_stop, first_operand, stop_last, exactly}
use Rattle.machine.specs.Machine.{machine, ran, send, run}

abbrev pub worked : List ℕ
worked = bytes
    "BOX\t2\t2\t21\nLOAD\tK\t3\nSTR\tD\t2\nLOAD\tD\t2\nSTR\tD\t4\nLOAD\tK\t2\nSUB\tK\t5\nDIV\tK\t2\nSTR\tD\t5\nLOAD\tD\t4\nSUB\tD\t5\nSTR\tD\t3\nLOAD\tD\t3\nCMP\tK\t4\nBLE\tA\t17\nLOAD\tD\t3\nSEND\t-\t0\nSKIP\tA\t18\nJMP\tA\t18\nLOAD\tD\t2\nSEND\t-\t0\nSTOP\t-\t0\n"

abbrev orders : List Order
orders =
    Number Load 3
    ∷ Store 2
    ∷ Word Load 2
    ∷ Store 4
    ∷ Number Load 2
    ∷ Number Sub 5
    ∷ Number Div 2
    ∷ Store 5
    ∷ Word Load 4
    ∷ Word Sub 5
    ∷ Store 3
    ∷ Word Load 3
    ∷ Number Cmp 4
    ∷ Branch AtMost 17
    ∷ Word Load 3
    ∷ Send
    ∷ Skip 18
    ∷ Jump 18
    ∷ Word Load 2
    ∷ Send
    ∷ Stop
    ∷ []

pub worked_reading : reading worked ≡ object 2 2 orders
unfolding bytes pick table on_front fixed digits numeral within_limits header_at record_among record_at lines_at first_stop first_operand stop_last exactly reading
worked_reading = refl

pub worked_text : text 2 2 orders ≡ worked
unfolding bytes pick digits_of records_text text
worked_text = refl

pub worked_run :
    run orders 100 (machine (record { acc = 0; next = 0; sent = 0; ending = 0 }) (replicate 6 0) (replicate 8 0))
    ≡ ran 20 (machine (record { acc = 3; next = 20; sent = 2; ending = 20 }) (0 ∷ 0 ∷ 3 ∷ 5 ∷ 3 ∷ 4294967294 ∷ []) (0 ∷ 0 ∷ 0 ∷ 5 ∷ 0 ∷ 0 ∷ 0 ∷ 3 ∷ []))
unfolding pick wrap signed word sum difference product negation quotient comparison send run
worked_run = refl
