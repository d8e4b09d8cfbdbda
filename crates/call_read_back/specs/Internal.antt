-- What the private function does. A reader of the promises needs none of it.
use Rattle.std.specs.Prelude.{ℕ, ◌≡◌, List, map}
use Rattle.order.specs.declared.Order.{Order}
use Rattle.order.specs.Good.{Good}
use Rattle.order.specs.Memory.{order_word}
use Rattle.sheet.specs.ReadBack.{untranslate}
use Rattle.call.specs.Reply.{wrote}
use Rattle.call.specs.ReadingBack.{sheet_call}

-- of a good object whose orders an array holds, the sheet's text is written, or that there is none
abbrev pub SheetWritten : List ℕ → ℕ → ℕ → List ℕ → ℕ → List ℕ → Type 0
SheetWritten ws v t before r after =
    (os : List Order) → Good v t os → ws ≡ map order_word os → wrote r after ≡ sheet_call (untranslate v t os) before
