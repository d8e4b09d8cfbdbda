-- What a guess is worth: it is right on translations, and may be anything elsewhere.
use Rattle.std.specs.Prelude.{ℕ, ◌≤◌, ◌≡◌, List, map, length, Option, Some}
use Rattle.std.proofs.lemmas.List.Edits.{sets}
use Rattle.order.specs.Limits.{most_variables, most_orders}
use Rattle.order.specs.Memory.{orders_in}
use Rattle.sheet.specs.Sheet.{Part, count, sheet}
use Rattle.sheet.specs.Translation.{translation}
use Rattle.sheet.specs.Within.{PartFormed, depth, most_levels}
use Rattle.sheet.specs.Memory.{part_fields}
use Rattle.sheet_field.specs.Memory.{field_word}

-- the fields of x, from the front of the array on, and how many they are
pub record Guessed (x : Part) (fs : List ℕ) (r : ℕ) (after : List ℕ) : Type 0 where
  pub many : r ≡ length (part_fields x)
  pub fields : after ≡ sets fs 0 (map field_word (part_fields x))

pub record Guessing (os : List ℕ) (v : ℕ) (fs : List ℕ) (r : ℕ) (after : List ℕ) : Type 0 where
  pub kept : length after ≡ length fs
  pub inside : r ≤ length fs
  pub whole :
      (x : Part)
      → PartFormed v (count x) x
      → depth x ≤ most_levels
      → orders_in os ≡ translation (sheet v x)
      → v ≤ most_variables
      → length os ≤ most_orders
      → length (part_fields x) ≤ length fs
      → Guessed x fs r after

-- the same where it may be that no sheet is guessed
pub record TryGuessed (x : Part) (fs : List ℕ) (r : Option ℕ) (after : List ℕ) : Type 0 where
  pub many : r ≡ Some (length (part_fields x))
  pub fields : after ≡ sets fs 0 (map field_word (part_fields x))

pub record TryGuessing (os : List ℕ) (v : ℕ) (fs : List ℕ) (r : Option ℕ) (after : List ℕ) : Type 0 where
  pub kept : length after ≡ length fs
  pub inside : (n : ℕ) → r ≡ Some n → n ≤ length fs
  pub whole :
      (x : Part)
      → PartFormed v (count x) x
      → depth x ≤ most_levels
      → orders_in os ≡ translation (sheet v x)
      → v ≤ most_variables
      → length os ≤ most_orders
      → length (part_fields x) ≤ length fs
      → TryGuessed x fs r after
