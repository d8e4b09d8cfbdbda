-- What reading a sheet back from orders in memory gives.
use Rattle.std.specs.Prelude.{ℕ, ◌≡◌, List, map, length, take, Option, Some, None}
use Rattle.order.specs.declared.Order.{Order}
use Rattle.order.specs.Good.{Good}
use Rattle.order.specs.Memory.{order_word}
use Rattle.sheet.specs.Sheet.{count, instructions}
use Rattle.sheet.specs.Memory.{sheet_fields}
use Rattle.sheet.specs.ReadBack.{Given, given, none, untranslate}
use Rattle.sheet_field.specs.Memory.{fields_at, most_fields}
use Rattle.untranslate.specs.declared.Untranslated.{Untranslated}

-- the array holds the fields of the sheet that is given, if one is
abbrev pub Answers : Given → Option Untranslated → List ℕ → Type 0
Answers (given s) r fields =
    (r ≡ Some (record { instructions = count (instructions s); fields = length (sheet_fields s) }))
    × (fields_at 0 (take (length (sheet_fields s)) fields) ≡ sheet_fields s)
Answers none r fields = r ≡ None

-- whatever good object the orders are of
pub record Untranslates (ws : List ℕ) (v t : ℕ) (fs : List ℕ) (r : Option Untranslated) (after : List ℕ) : Type 0 where
  pub kept : length after ≡ length fs
  pub of : (os : List Order) → Good v t os → ws ≡ map order_word os → length fs ≡ most_fields → Answers (untranslate v t os) r after
