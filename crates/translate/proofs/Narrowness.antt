-- The operands of a translation are words, whatever the limits.
use Prim.Native.Nat.{ℕ, ◌+◌, ◌≤◌, ◌<◌}
use mathlib.Core.List.{List, [], ◌∷◌, ◌++◌}
use native.Mathlib.Omega.{arith}
use lib.ListN.{length, length-append}
use Rattle.order.specs.declared.Order.{Order}
use Rattle.order.specs.declared.Order.TheVariants.{Word, Number, Store, Neg, Not, Jump, Skip, Branch, Cond, Send, Stop}
use Rattle.order.specs.Order.{operand}
use Rattle.order.proofs.Arrays.{Narrow, none, more}
use Rattle.sheet.specs.declared.Field.TheVariants.{Else, Start, Finish}
use Rattle.sheet.specs.Sheet.{Expression, word, constant, negated, inverted, binary, Operand, in_word, itself, worked_out, operand as operand_of}
use Rattle.sheet.specs.Sheet.{Simple, set, send, goto, Condition, compares, joins, Part, end, plain, when, either, count}
use Rattle.sheet.specs.Formed.{Leads}
use Rattle.sheet.specs.Orders.{joined_temporaries, temporaries, simple_temporaries}
use Rattle.sheet.specs.Condition.{condition_temporaries}
use Rattle.sheet.specs.Fields.{expression_fields, simple_fields}
use Rattle.sheet.specs.Memory.{condition_fields, part_fields}
use Rattle.sheet.specs.Translation.{size, part_code, temporaries_of}
use Rattle.sheet.specs.Within.{PartFormed}
use Rattle.sheet.proofs.Each.{Each}
use Rattle.sheet.proofs.GoodObject.{Held, part_held}

-- ---- no more temporaries than fields

some_fields : (e : Expression) → 1 ≤ length (expression_fields e)
unfolding expression_fields
some_fields (word w) = omega arith
some_fields (constant n) = omega arith
some_fields (negated e) = omega arith
some_fields (inverted e) = omega arith
some_fields (binary o l r) = omega arith

joined_few : (q : Operand) (l r m n : ℕ) → l ≤ m → r ≤ n → 1 ≤ m → 1 ≤ n → joined_temporaries q l r ≤ 1 + (m + n)
joined_few (in_word w) l r m n a b c d = omega arith
joined_few (itself k) l r m n a b c d = omega arith
joined_few worked_out l r m n a b c d = omega arith

expression_few : (e : Expression) → temporaries e ≤ length (expression_fields e)
unfolding temporaries expression_fields
expression_few (word w) = omega arith
expression_few (constant n) = omega arith
expression_few (negated e) = omega (arith, expression_few e)
expression_few (inverted e) = omega (arith, expression_few e)
expression_few (binary o l r) =
    let both = length-append (expression_fields l) (expression_fields r) in
    let few = joined_few (operand_of r) (temporaries l) (temporaries r) _ _ (expression_few l) (expression_few r) (some_fields l) (some_fields r) in
    omega (arith, both, few)

simple_few : (u : Simple) → simple_temporaries u ≤ length (simple_fields u)
simple_few (set w e) = omega (arith, expression_few e)
simple_few (send e) = omega (arith, expression_few e)
simple_few (goto s) = omega arith

condition_few : (c : Condition) → condition_temporaries c ≤ length (condition_fields c)
unfolding condition_temporaries condition_fields
condition_few (compares r a b) =
    let both = length-append (expression_fields a) (expression_fields b) in
    let few = joined_few (operand_of b) (temporaries a) (temporaries b) _ _ (expression_few a) (expression_few b) (some_fields a) (some_fields b) in
    omega (arith, both, few)
condition_few (joins w a b) =
    omega (arith, condition_few a, condition_few b, length-append (condition_fields a) (condition_fields b))

pub part_few : (x : Part) → temporaries_of x ≤ length (part_fields x)
unfolding temporaries_of part_fields
part_few end = omega arith
part_few (plain u l) = omega (arith, simple_few u, part_few l, length-append (simple_fields u) (part_fields l))
part_few (when c x l) =
    omega (
      arith,
      condition_few c,
      part_few x,
      part_few l,
      length-append (condition_fields c) (Start ∷ (part_fields x ++ (Finish ∷ part_fields l))),
      length-append (part_fields x) (Finish ∷ part_fields l),
    )
part_few (either c x y l) =
    omega (
      arith,
      condition_few c,
      part_few x,
      part_few y,
      part_few l,
      length-append (condition_fields c) (Start ∷ (part_fields x ++ (Else ∷ (part_fields y ++ (Finish ∷ part_fields l))))),
      length-append (part_fields x) (Else ∷ (part_fields y ++ (Finish ∷ part_fields l))),
      length-append (part_fields y) (Finish ∷ part_fields l),
    )

-- ---- what an object can hold is narrow

held_narrow : (v t n : ℕ) → v + t + 2 ≤ 4294967296 → n ≤ 4294967296 → (o : Order) → Held v t n o → operand o < 4294967296
held_narrow v t n a b (Word f w) h = let f = h.fits in omega (arith, f.1)
held_narrow v t n a b (Number f k) h = let f = h.fits in omega (arith, f)
held_narrow v t n a b (Store w) h = let f = h.fits in omega (arith, f.1)
held_narrow v t n a b Neg h = omega arith
held_narrow v t n a b Not h = omega arith
held_narrow v t n a b (Jump k) h = let f = h.fits in omega (arith, f)
held_narrow v t n a b (Skip k) h = let f = h.fits in omega (arith, f)
held_narrow v t n a b (Branch r k) h = let f = h.fits in omega (arith, f)
held_narrow v t n a b (Cond k) h = let f = h.fits in omega (arith, f)
held_narrow v t n a b Send h = omega arith
held_narrow v t n a b Stop h = omega arith

ended_narrow : (v t n : ℕ) → v + t + 2 ≤ 4294967296 → n ≤ 4294967296 → (os : List Order) → Each (Held v t n) os → Narrow (os ++ Stop ∷ [])
ended_narrow v t n a b [] h = more {o = Stop} (omega arith) none
ended_narrow v t n a b (o ∷ os) h = more (held_narrow v t n a b o h.0) (ended_narrow v t n a b os h.1)

pub code_narrow :
    (v : ℕ) (to : ℕ → ℕ) (x : Part)
    → PartFormed v (count x) x
    → ((s : ℕ) → Leads (count x) s → to s < size v x + 2)
    → v + length (part_fields x) + 2 ≤ 4294967296
    → size v x + 2 ≤ 4294967296
    → Narrow (part_code v to 0 x ++ Stop ∷ [])
code_narrow v to x f below small few =
    ended_narrow v (temporaries_of x) (size v x + 2) (omega (arith, part_few x)) few (part_code v to 0 x)
    (part_held v (temporaries_of x) (size v x + 2) (count x) to below 0 x f (omega arith) (omega arith))
