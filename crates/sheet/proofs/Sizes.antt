-- How many orders there are, and how many of them are the first of an instruction.
use Prim.Native.Nat.{ℕ, suc, ◌+◌, ◌≤◌}
use mathlib.Core.Path.{◌≡◌, refl, ap, ◌∙◌}
use mathlib.Core.Bool.{Bool, true, false}
use native.Mathlib.Omega.{arith}
use lib.ListN.{length, length-append}
use Rattle.sheet.specs.Sheet.{Simple, set, send, goto, Condition, compares, joins, Part, end, plain, when, either, count}
use Rattle.sheet.specs.declared.Joining.TheVariants.{And, Or}
use Rattle.sheet.specs.Orders.{simple_code, simple_size, comparison_code}
use Rattle.sheet.specs.Condition.{comparisons, trying, try_code, asking, asking_code}
use Rattle.sheet.specs.Translation.{size, starts, part_code}

-- ---- the same wherever the orders stand and jumps lead

pub simple_length : (v : ℕ) (to : ℕ → ℕ) (u : Simple) → length (simple_code v to u) ≡ simple_size v u
simple_length v to (set w e) = refl
simple_length v to (send e) = refl
simple_length v to (goto s) = refl

pub try_length : (v p : ℕ) (g : Bool) (y n : ℕ) (c : Condition) → length (try_code v p g y n c) ≡ trying v c
unfolding trying try_code
try_length v p g y n (compares r a b) = length-append (comparison_code v a b) _
try_length v p g y n (joins And a b) =
    let q = p + trying v a in
    length-append (try_code v p true q n a) _ ∙ omega (arith, try_length v p true q n a, try_length v q g y n b)
try_length v p g y n (joins Or a b) =
    let q = p + trying v a in
    length-append (try_code v p false y q a) _ ∙ omega (arith, try_length v p false y q a, try_length v q g y n b)

pub asking_length : (v p : ℕ) (c : Condition) (d : ℕ) → length (asking_code v p c d) ≡ asking v c
unfolding asking asking_code
asking_length v p (compares r a b) d = try_length v p true _ d (compares r a b)
asking_length v p (joins w a b) d = omega (arith, try_length v (p + 1) true (p + (1 + trying v (joins w a b))) d (joins w a b))

module _ (v : ℕ) (to : ℕ → ℕ) where
  pub code_length : (p : ℕ) (x : Part) → length (part_code v to p x) ≡ size v x
  unfolding part_code size
  code_length p end = refl
  code_length p (plain u l) = simp (length-append, simple_length) (omega (arith, code_length (p + simple_size v u) l))
  code_length p (when c x l) =
      let b = p + asking v c in
      simp (length-append, asking_length) (omega (arith, code_length b x, code_length (b + size v x) l))
  code_length p (either c x y l) =
      let b = p + asking v c in
      let d = b + size v x + 1 in
      simp (length-append, asking_length) (omega (arith, code_length b x, code_length d y, code_length (d + size v y) l))

-- ---- one at least for each instruction

pub simple_some : (v : ℕ) (u : Simple) → 1 ≤ simple_size v u
simple_some v (set w e) = simp length-append (omega arith)
simple_some v (send e) = simp length-append (omega arith)
simple_some v (goto s) = omega arith

pub trying_some : (v : ℕ) (c : Condition) → 1 ≤ trying v c
unfolding trying
trying_some v (compares r a b) = omega arith
trying_some v (joins w a b) = omega (arith, trying_some v a)

pub comparisons_some : (c : Condition) → 1 ≤ comparisons c
unfolding comparisons
comparisons_some (compares r a b) = omega arith
comparisons_some (joins w a b) = omega (arith, comparisons_some a)

pub asking_some : (v : ℕ) (c : Condition) → 1 ≤ asking v c
unfolding asking
asking_some v (compares r a b) = trying_some v (compares r a b)
asking_some v (joins w a b) = omega arith

pub count_size : (v : ℕ) (x : Part) → count x ≤ size v x
unfolding count size
count_size v end = omega arith
count_size v (plain u l) = omega (arith, simple_some v u, count_size v l)
count_size v (when c x l) = omega (arith, asking_some v c, count_size v x, count_size v l)
count_size v (either c x y l) = omega (arith, asking_some v c, count_size v x, count_size v y, count_size v l)

-- ---- a first order for each instruction

pub count_starts : (v p : ℕ) (x : Part) → count x ≡ length (starts v p x)
unfolding starts count
count_starts v p end = refl
count_starts v p (plain u l) = ap suc (count_starts v (p + simple_size v u) l)
count_starts v p (when c x l) =
    let b = p + asking v c in
    simp length-append (omega (arith, count_starts v b x, count_starts v (b + size v x) l))
count_starts v p (either c x y l) =
    let b = p + asking v c in
    let d = b + size v x + 1 in
    simp length-append
    (omega (arith, count_starts v b x, count_starts v d y, count_starts v (d + size v y) l))
