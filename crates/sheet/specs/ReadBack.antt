-- Reading a sheet back from orders: a guess, which is then checked. What it gives is settled by the theorems of
-- proofs/ReadBack.antt: a good object's orders give the one sheet within the limits that translates to them, if there is one.
use Rattle.std.specs.Prelude.{ℕ, ◌+◌, Bool, true, false, not, List, [], ◌∷◌, ltb, leb, eqb}
use Rattle.base.specs.Choice.{pick}
use Rattle.text.specs.Pieces.{greatest_number}
use Rattle.order.specs.declared.Order.{Order}
use Rattle.order.specs.Order.{operand as order_operand}
use Rattle.order.specs.Memory.{number}
use Rattle.order.specs.Object.{Reading, object, refused}
use Rattle.sheet.specs.Sheet.{Expression, word, constant, negated, inverted, binary, Simple, set, send, goto}
use Rattle.sheet.specs.Sheet.{Condition, compares, joins, Part, end, plain, when, either, count, Sheet, sheet}
use Rattle.sheet.specs.Condition.{comparisons, is_run, most_comparisons}
use Rattle.sheet.specs.Translation.{temporaries_of, translation}
use Rattle.sheet.specs.Within.{most_levels, depth}
use Rattle.sheet.specs.Guess.{guessed}

-- ---- whether instructions are formed as those of a sheet, a test for each case of specs/Formed, Condition and Within

abbrev pub is_variable : ℕ → ℕ → Bool
is_variable v w = pick (ltb w 2) false (ltb w (v + 2))

abbrev pub also : Bool → Bool → Bool
also a b = pick a b false

unfoldable pub is_expressed : ℕ → Expression → Bool
is_expressed v (word w) = is_variable v w
is_expressed v (constant n) = leb n greatest_number
is_expressed v (negated e) = is_expressed v e
is_expressed v (inverted e) = is_expressed v e
is_expressed v (binary o l r) = also (is_expressed v l) (is_expressed v r)

abbrev pub is_simple_formed : ℕ → ℕ → Simple → Bool
is_simple_formed v n (set w e) = also (is_variable v w) (is_expressed v e)
is_simple_formed v n (send e) = is_expressed v e
is_simple_formed v n (goto s) = also (leb 1 s) (leb s (n + 1))

unfoldable pub all_expressed : ℕ → Condition → Bool
all_expressed v (compares r a b) = also (is_expressed v a) (is_expressed v b)
all_expressed v (joins w a b) = also (all_expressed v a) (all_expressed v b)

unfoldable pub is_merged : Condition → Bool
is_merged (compares r a b) = true
is_merged (joins w a b) = also (not (is_run w a)) (also (is_merged a) (is_merged b))

abbrev pub is_condition_formed : ℕ → Condition → Bool
is_condition_formed v c = also (all_expressed v c) (also (is_merged c) (leb (comparisons c) most_comparisons))

unfoldable pub is_part_formed : ℕ → ℕ → Part → Bool
is_part_formed v n end = true
is_part_formed v n (plain u l) = also (is_simple_formed v n u) (is_part_formed v n l)
is_part_formed v n (when c x l) =
    also (is_condition_formed v c) (also (leb 1 (count x)) (also (is_part_formed v n x) (is_part_formed v n l)))
is_part_formed v n (either c x y l) =
    also
    (is_condition_formed v c)
    (also (leb 1 (count x)) (also (leb 1 (count y)) (also (is_part_formed v n x) (also (is_part_formed v n y) (is_part_formed v n l)))))

unfoldable pub same_orders : List Order → List Order → Bool
same_orders [] [] = true
same_orders [] (q ∷ m) = false
same_orders (o ∷ l) [] = false
same_orders (o ∷ l) (q ∷ m) = also (eqb (number o) (number q)) (also (eqb (order_operand o) (order_operand q)) (same_orders l m))

-- ---- the sheet

pub data Given : Type 0 where
  given : Sheet → Given
  none : Given

abbrev pub accepts : ℕ → ℕ → List Order → Part → Bool
accepts v t os x =
    also
    (is_part_formed v (count x) x)
    (also (leb (depth x) most_levels) (also (eqb (temporaries_of x) t) (same_orders (translation (sheet v x)) os)))

-- the sheet that an object's orders are the translation of, from its V and T
abbrev pub untranslate : ℕ → ℕ → List Order → Given
untranslate v t os = pick (accepts v t os (guessed v os)) (given (sheet v (guessed v os))) none

-- that of an object text that was read; none where it is refused
abbrev pub read_back : Reading → Given
read_back (object v t os) = untranslate v t os
read_back (refused n place) = none
