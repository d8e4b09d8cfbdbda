-- What the private functions do. A reader of the promises needs none of it.
use Rattle.std.specs.Prelude.{ℕ, ◌≤◌, ◌≡◌, List, length}
use Rattle.order.specs.Limits.{most_orders}
use Rattle.order.specs.Memory.{orders_in}
use Rattle.order.specs.Object.{text}
use Rattle.sheet.specs.Sheet.{Sheet, variables}
use Rattle.sheet.specs.Within.{Within}
use Rattle.sheet.specs.Memory.{sheet_fields}
use Rattle.sheet.specs.Translation.{object_text}
use Rattle.sheet_field.specs.Memory.{fields_at, most_fields}
use Rattle.call.specs.Reply.{wrote, text_writing}

-- of orders within the limit, the object's text is written
abbrev pub OrdersWritten : List ℕ → ℕ → ℕ → List ℕ → ℕ → List ℕ → Type 0
OrdersWritten ws v t before r after = length ws ≤ most_orders → wrote r after ≡ text_writing 12 (text v t (orders_in ws)) before

-- of a sheet within the limits whose fields stand in an array, the object's text is written
abbrev pub ObjectWritten : List ℕ → ℕ → List ℕ → ℕ → List ℕ → Type 0
ObjectWritten fs v before r after =
    (s : Sheet)
    → Within s
    → variables s ≡ v
    → fields_at 0 fs ≡ sheet_fields s
    → length fs ≤ most_fields
    → wrote r after ≡ text_writing 12 (object_text s) before
