-- What size_of answers, of an array that holds the fields of a statement's instruction and no other.
use Rattle.std.specs.Prelude.{ℕ, ◌+◌, ◌≤◌, min, max, ◌≡◌, List, [], ◌∷◌, ◌++◌}
use Rattle.sheet.specs.declared.Field.TheVariants.{Else, Start, Finish, If}
use Rattle.sheet.specs.Sheet.{Simple, Condition}
use Rattle.sheet.specs.Fields.{simple_fields}
use Rattle.sheet.specs.Memory.{condition_fields}
use Rattle.sheet.specs.Orders.{simple_size, simple_temporaries}
use Rattle.sheet.specs.Condition.{comparisons, asking, condition_temporaries}
use Rattle.sheet_field.specs.Memory.{fields_at}
use Rattle.translate_size.specs.declared.Size.{Size}

-- a number, or the largest u32 where that is smaller
abbrev pub capped : ℕ → ℕ
capped n = min n 4294967295

-- the answer for so many orders, temporaries, instructions and comparisons
pub record Sizes (orders temporaries instructions compared : ℕ) (r : Size) : Type 0 where
  pub its_orders : r.orders ≡ capped orders
  pub its_temporaries : r.temporaries ≡ capped temporaries
  pub its_instructions : r.instructions ≡ instructions
  pub its_comparisons : r.comparisons ≡ capped compared

-- whatever instruction's fields they are, with V variables: one that is no IF, an IF with one instruction or with two, or one up to
-- its START
pub record SizeOf (ws : List ℕ) (r : Size) : Type 0 where
  pub few : r.instructions ≤ 3
  pub of_simple : (v : ℕ) (u : Simple) → fields_at 0 ws ≡ simple_fields u → Sizes (simple_size v u) (simple_temporaries u) 1 0 r
  pub of_then :
      (v : ℕ) (c : Condition) (u : Simple)
      → fields_at 0 ws ≡ If ∷ (condition_fields c ++ (Start ∷ (simple_fields u ++ (Finish ∷ []))))
      → Sizes (asking v c + simple_size v u) (max (condition_temporaries c) (simple_temporaries u)) 2 (comparisons c) r
  pub of_else :
      (v : ℕ) (c : Condition) (u w : Simple)
      → fields_at 0 ws ≡ If ∷ (condition_fields c ++ (Start ∷ (simple_fields u ++ (Else ∷ (simple_fields w ++ (Finish ∷ []))))))
      → Sizes
      (asking v c + simple_size v u + 1 + simple_size v w)
      (max (condition_temporaries c) (max (simple_temporaries u) (simple_temporaries w)))
      3
      (comparisons c)
      r
  pub of_start :
      (v : ℕ) (c : Condition)
      → fields_at 0 ws ≡ If ∷ (condition_fields c ++ (Start ∷ []))
      → Sizes (asking v c) (condition_temporaries c) 1 (comparisons c) r
