-- What an order does, with the place of the order behind it given. A reader of the promises needs none of it.
use Rattle.std.specs.Prelude.{ℕ, ◌+◌, ◌*◌, ◌/◌, ◌≡◌, List, ltb, length}
use Rattle.std.proofs.lemmas.List.Edits.{sets}
use Rattle.base.specs.Choice.{pick}
use Rattle.word.specs.Word.{Outcome, value, fault}
use Rattle.machine.specs.declared.Registers.{Registers}
use Rattle.machine.specs.Machine.{Machine, machine, end_with, word_bytes}

abbrev pub moved : ℕ → ℕ → Registers → Registers
moved a behind r = record { acc = a; next = behind; sent = r.sent; ending = r.ending }

abbrev pub settled : Outcome → ℕ → Registers → Registers
settled (value a) behind r = moved a behind r
settled (fault n) behind r = end_with n r

unfoldable pub sent_to : ℕ → Machine → Machine
sent_to behind (machine r ws out) =
    pick
    (ltb r.sent (length out / 4))
    (machine
    (record { acc = r.acc; next = behind; sent = r.sent + 1; ending = r.ending })
    ws
    (sets out (4 * r.sent) (word_bytes r.acc)))
    (machine (end_with 4 r) ws out)

-- what SEND leaves, whatever the words are
abbrev pub Sends : ℕ → Registers → List ℕ → Registers → List ℕ → Type 0
Sends behind r out s left = (ws : List ℕ) → machine s ws left ≡ sent_to behind (machine r ws out)
