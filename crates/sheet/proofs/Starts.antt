-- First orders rise strictly, so an instruction's number and its first order tell each other.
use Prim.Native.Nat.{ℕ, zero, suc, ◌+◌, ◌-◌, ◌≤◌}
use mathlib.Core.Path.{◌≡◌, refl, ap, ◌∙◌}
use mathlib.Core.List.{List, [], ◌∷◌, ◌++◌}
use native.Mathlib.Omega.{arith}
use borrow.Author.Tests.{eq-eqb, ne_eqb}
use lib.ListN.{length, get_or}
use Rattle.base.specs.Choice.{pick}
use Rattle.sheet.specs.Sheet.{Part, end, plain, when, either, count}
use Rattle.sheet.specs.Orders.{simple_size}
use Rattle.sheet.specs.Formed.{Leads}
use Rattle.sheet.specs.Condition.{asking}
use Rattle.sheet.specs.Translation.{size, starts, first_order}
use Rattle.sheet.specs.Guess.{place, number_of}
use Rattle.sheet.proofs.Sizes.{simple_some, asking_some, count_starts}

-- numbers from p on, each above the one before it, and e is behind the last
data Rising : ℕ → List ℕ → ℕ → Type 0 where
  none : {p e : ℕ} → p ≤ e → Rising p [] e
  more : {p a e : ℕ} {l : List ℕ} → p ≤ a → Rising (suc a) l e → Rising p (a ∷ l) e

rising_from : {p e : ℕ} {l : List ℕ} (q : ℕ) → q ≤ p → Rising p l e → Rising q l e
rising_from q h (none {p = p} {e = e} k) = none {p = q} {e = e} (omega arith)
rising_from q h (more {p = p} {a = a} k r) = more {p = q} {a = a} (omega arith) r

rising_append : {p q e : ℕ} {l m : List ℕ} → Rising p l q → Rising q m e → Rising p (l ++ m) e
rising_append (none h) s = rising_from _ h s
rising_append (more h r) s = more h (rising_append r s)

starts_rise : (v p : ℕ) (x : Part) (e : ℕ) → p + size v x ≤ e → Rising p (starts v p x) e
unfolding starts size
starts_rise v p end e h = none {p = p} {e = e} (omega arith)
starts_rise v p (plain u l) e h =
    let some = simple_some v u in
    more {p = p} {a = p} (omega arith)
    (rising_from (suc p) (omega arith) (starts_rise v (p + simple_size v u) l e (omega arith)))
starts_rise v p (when c x l) e h =
    let b = p + asking v c in
    let some = asking_some v c in
    more {p = p} {a = p} (omega arith)
    (rising_from (suc p) (omega arith)
    (rising_append (starts_rise v b x (b + size v x) (omega arith)) (starts_rise v (b + size v x) l e (omega arith))))
starts_rise v p (either c x y l) e h =
    let b = p + asking v c in
    let d = b + size v x + 1 in
    let some = asking_some v c in
    more {p = p} {a = p} (omega arith)
    (rising_from (suc p) (omega arith)
    (rising_append (starts_rise v b x d (omega arith))
    (rising_append (starts_rise v d y (d + size v y) (omega arith)) (starts_rise v (d + size v y) l e (omega arith)))))

-- ---- numbers that rise

at_least : {p e : ℕ} {l : List ℕ} (k : ℕ) → Rising p l e → k ≤ length l → p ≤ get_or l k e
at_least zero (none g) h = g
at_least (suc k) (none g) h = absurd (omega arith)
at_least zero (more g r) h = g
at_least (suc k) (more g r) h = omega (arith, at_least k r (omega arith))

at_most : {p e : ℕ} {l : List ℕ} (k : ℕ) → Rising p l e → k ≤ length l → (get_or l k e ≤ e) × (p ≤ e)
at_most zero (none g) h = (omega arith, g)
at_most (suc k) (none g) h = absurd (omega arith)
at_most zero (more {a = a} {e = e} g r) h = let above = at_most zero r (omega arith) in (omega arith, omega arith)
at_most (suc k) (more {a = a} {e = e} g r) h = let above = at_most k r (omega arith) in (above.0, omega arith)

place_told : {p e : ℕ} {l : List ℕ} (k : ℕ) → Rising p l e → k ≤ length l → place (get_or l k e) l ≡ k
unfolding place pick
place_told zero (none g) h = refl
place_told (suc k) (none g) h = absurd (omega arith)
place_told zero (more {a = a} g r) h = rw (eq-eqb a a refl)
place_told {e = e} (suc k) (more {a = a} {l = l} g r) h =
    let above = at_least k r (omega arith) in
    rw (ne_eqb (get_or l k e) a (omega arith)) (ap suc (place_told k r (omega arith)))

-- ---- first orders

-- a jump leads to an order of an instruction, or to STOP
pub first_below : (v : ℕ) (x : Part) (s : ℕ) → Leads (count x) s → first_order v x s ≤ size v x
first_below v x s h =
    (at_most (s - 1) (starts_rise v 0 x (size v x) (omega arith)) (omega (arith, count_starts v 0 x))).0

-- the number of the instruction that a jump leads to
pub number_first : (v : ℕ) (x : Part) (s : ℕ) → Leads (count x) s → number_of v x (first_order v x s) ≡ s
number_first v x s h =
    ap suc (place_told (s - 1) (starts_rise v 0 x (size v x) (omega arith)) (omega (arith, count_starts v 0 x))) ∙ omega arith
