-- How long a translation is: an order more than the instructions have, and no order of it stands for more than two fields.
use Prim.Native.Nat.{ℕ, suc, ◌+◌, ◌*◌, ◌≤◌}
use native.Mathlib.Omega.{arith}
use mathlib.Core.Path.{◌≡◌}
use mathlib.Core.List.{List, [], ◌∷◌}
use lib.ListN.{length, length-append}
use Rattle.order.specs.Limits.{most_orders}
use Rattle.order.specs.declared.Operation.{Operation}
use Rattle.order.specs.declared.Operation.TheVariants.{Cmp}
use Rattle.order.specs.declared.Order.{Order}
use Rattle.order.specs.declared.Order.TheVariants.{Stop}
use Rattle.sheet.specs.Sheet.{Expression, word, constant, negated, inverted, binary, operand, Simple, set, send, goto}
use Rattle.sheet.specs.Sheet.{Condition, compares, joins, Part, end, plain, when, either, Sheet, sheet}
use Rattle.sheet.specs.Fields.{expression_fields, simple_fields}
use Rattle.sheet.specs.Memory.{condition_fields, part_fields, sheet_fields}
use Rattle.sheet.specs.Orders.{operation, joined, code, simple_size}
use Rattle.sheet.specs.Condition.{trying, asking}
use Rattle.sheet.specs.Translation.{size, part_code, first_order, translation}
use Rattle.sheet.specs.Within.{Within}
use Rattle.sheet.proofs.Sizes.{code_length}

pub translation_length : (v : ℕ) (x : Part) → length (translation (sheet v x)) ≡ size v x + 1
translation_length v x =
    let os = part_code v (first_order v x) 0 x in
    omega (arith, length-append os (Stop ∷ []), code_length v (first_order v x) 0 x)

-- an order more than the left operand has, and twice those of the right one where that is worked out
joined_few :
    (f : Operation) (v d : ℕ) (r : Expression) (left right : List Order)
    → length (expression_fields r) + 1 ≤ 2 * length right
    → 2 * length left + length (expression_fields r) + 1 ≤ 2 * length (joined f v d (operand r) left right)
unfolding expression_fields
joined_few f v d (word w) left right h = simp length-append (omega arith)
joined_few f v d (constant n) left right h = simp length-append (omega arith)
joined_few f v d (negated e) left right h = simp length-append (omega arith)
joined_few f v d (inverted e) left right h = simp length-append (omega arith)
joined_few f v d (binary o a b) left right h = simp length-append (omega (arith, h, length-append (expression_fields a) (expression_fields b)))

expression_few : (v d : ℕ) (e : Expression) → length (expression_fields e) + 1 ≤ 2 * length (code v d e)
unfolding expression_fields code
expression_few v d (word w) = omega arith
expression_few v d (constant n) = omega arith
expression_few v d (negated e) = simp length-append (omega (arith, expression_few v d e))
expression_few v d (inverted e) = simp length-append (omega (arith, expression_few v d e))
expression_few v d (binary o a b) =
    omega (
      arith,
      length-append (expression_fields a) (expression_fields b),
      expression_few v d a,
      joined_few (operation o) v d b (code v d a) (code v (suc d) b) (expression_few v (suc d) b),
    )

simple_few : (v : ℕ) (u : Simple) → length (simple_fields u) ≤ 2 * simple_size v u
simple_few v (set w e) = simp length-append (omega (arith, expression_few v 0 e))
simple_few v (send e) = simp length-append (omega (arith, expression_few v 0 e))
simple_few v (goto s) = omega arith

trying_few : (v : ℕ) (c : Condition) → length (condition_fields c) + 3 ≤ 2 * trying v c
unfolding trying condition_fields
trying_few v (compares r a b) =
    omega (
      arith,
      length-append (expression_fields a) (expression_fields b),
      expression_few v 0 a,
      joined_few Cmp v 0 b (code v 0 a) (code v 1 b) (expression_few v 1 b),
    )
trying_few v (joins w a b) =
    omega (arith, length-append (condition_fields a) (condition_fields b), trying_few v a, trying_few v b)

-- with IF, START and FINISH
pub condition_few : (v : ℕ) (c : Condition) → length (condition_fields c) + 3 ≤ 2 * asking v c
unfolding asking
condition_few v (compares r a b) = trying_few v (compares r a b)
condition_few v (joins w a b) = omega (arith, trying_few v (joins w a b))

pub part_few : (v : ℕ) (x : Part) → length (part_fields x) ≤ 2 * size v x
unfolding part_fields size
part_few v end = omega arith
part_few v (plain u l) = simp length-append (omega (arith, simple_few v u, part_few v l))
part_few v (when c x l) = simp length-append (omega (arith, condition_few v c, part_few v x, part_few v l))
part_few v (either c x y l) =
    simp length-append (omega (arith, condition_few v c, part_few v x, part_few v y, part_few v l))

-- the fields of a sheet within the limits
pub sheet_few : (s : Sheet) → Within s → length (sheet_fields s) ≤ 2 * most_orders
sheet_few (sheet v x) w = omega (arith, part_few v x, translation_length v x, w.few_orders)
