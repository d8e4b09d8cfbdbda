-- The numbers in the lines of a sheet within the limits are at most 2147483647: each is a variable's word, a constant, the number
-- of the members of a run, or that of an instruction, and no sheet has more instructions than its translation has orders.
use Prim.Native.Nat.{ℕ, ◌≤◌}
use mathlib.Core.List.{[], ◌∷◌, ◌++◌}
use native.Mathlib.Omega.{arith}
use lib.ListN.{length-append}
use Rattle.text.specs.Pieces.{greatest_number}
use Rattle.order.specs.declared.Order.TheVariants.{Stop}
use Rattle.order.specs.Limits.{most_variables, most_orders}
use Rattle.sheet.specs.declared.Field.{Field}
use Rattle.sheet.specs.declared.Field.TheVariants.{Else, Start, Finish, Run}
use Rattle.sheet.specs.declared.Joining.{Joining}
use Rattle.sheet.specs.Sheet.{Expression, word, constant, negated, inverted, binary, Simple, set, send, goto}
use Rattle.sheet.specs.Sheet.{Condition, compares, joins, Part, end, plain, when, either, count, Sheet, sheet, instructions}
use Rattle.sheet.specs.Fields.{expression_fields, simple_fields, member_count, Place, member, rest_of, heading, condition_line}
use Rattle.sheet.specs.Formed.{Expressed, SimpleFormed}
use Rattle.sheet.specs.Condition.{same_word, comparisons, AllExpressed, most_comparisons}
use Rattle.sheet.specs.Translation.{part_code, first_order}
use Rattle.sheet.specs.Within.{PartFormed, Within}
use Rattle.sheet.proofs.Each.{Each, each_append}
use Rattle.sheet.proofs.Sizes.{code_length, count_size}
use Rattle.base.proofs.Cases.{either_part}
use Rattle.sheet_field.specs.Memory.{carried}
use Rattle.sheet_line.proofs.Runs.{line_fields, some_comparisons, few_members}

abbrev pub Small : Field → Type 0
Small f = carried f ≤ greatest_number

module _ (v n : ℕ) (few_variables : v ≤ most_variables) (few_instructions : n ≤ most_orders) where
  expression_small : (e : Expression) → Expressed v e → Each Small (expression_fields e)
  unfolding expression_fields Expressed
  expression_small (word w) x = (omega arith, tt)
  expression_small (constant k) x = (x, tt)
  expression_small (negated e) x = (omega arith, expression_small e x)
  expression_small (inverted e) x = (omega arith, expression_small e x)
  expression_small (binary o l r) x = (
    omega arith,
    each_append Small (expression_fields l) (expression_fields r) (expression_small l x.0) (expression_small r x.1),
  )

  simple_small : (u : Simple) → SimpleFormed v n u → Each Small (simple_fields u)
  simple_small (set w e) x = (omega arith, expression_small e x.1)
  simple_small (send e) x = (omega arith, expression_small e x)
  simple_small (goto s) x = (omega arith, tt)

  heading_small : (p : Place) (w : Joining) (k : ℕ) → k ≤ most_comparisons → Each Small (heading p w k)
  heading_small member w k few = (omega arith, tt)
  heading_small (rest_of u) w k few = either_part (Each Small) (same_word u w) [] (Run w k ∷ []) (λ e. tt) (λ e. (omega arith, tt))

  condition_small : (p : Place) (c : Condition) → AllExpressed v c → comparisons c ≤ most_comparisons → Each Small (condition_line p c)
  unfolding condition_line AllExpressed comparisons
  condition_small p (compares r a b) x few = (
    omega arith,
    each_append Small (expression_fields a) (expression_fields b) (expression_small a x.0) (expression_small b x.1),
  )
  condition_small p (joins w a b) x few =
      let k = member_count w (joins w a b) in
      each_append Small (heading p w k) (condition_line member a ++ condition_line (rest_of w) b)
      (heading_small p w k (omega (arith, few, few_members w (joins w a b))))
      (each_append Small (condition_line member a) (condition_line (rest_of w) b)
      (condition_small member a x.0 (omega (arith, few, some_comparisons b)))
      (condition_small (rest_of w) b x.1 (omega (arith, few, some_comparisons a))))

  part_small : (x : Part) → PartFormed v n x → Each Small (line_fields x)
  unfolding line_fields PartFormed
  part_small end f = tt
  part_small (plain u l) f = each_append Small (simple_fields u) (line_fields l) (simple_small u f.0) (part_small l f.1)
  part_small (when c x l) f = (
    omega arith,
    each_append Small (condition_line member c) (Start ∷ (line_fields x ++ (Finish ∷ line_fields l)))
        (condition_small member c f.0.0 f.0.2)
        (omega arith, each_append Small (line_fields x) (Finish ∷ line_fields l) (part_small x f.2) (omega arith, part_small l f.3)),
  )
  part_small (either c x y l) f =
      let behind = each_append Small (line_fields y) (Finish ∷ line_fields l) (part_small y f.4) (omega arith, part_small l f.5) in
      let first = each_append Small (line_fields x) (Else ∷ (line_fields y ++ (Finish ∷ line_fields l))) (part_small x f.3) (omega arith, behind) in (
        omega arith,
        each_append Small (condition_line member c) (Start ∷ (line_fields x ++ (Else ∷ (line_fields y ++ (Finish ∷ line_fields l)))))
            (condition_small member c f.0.0 f.0.2)
            (omega arith, first),
      )

pub sheet_small : (s : Sheet) → Within s → Each Small (line_fields (instructions s))
sheet_small (sheet v x) w =
    let orders = length-append (part_code v (first_order v x) 0 x) (Stop ∷ []) in
    let few : count x ≤ most_orders = omega (arith, orders, w.few_orders, code_length v (first_order v x) 0 x, count_size v x) in
    part_small v (count x) w.few_variables few x w.formed
