-- The one order whose name and kind may stand at the front of a text, and the record that is read with them.
use Prim.Native.Nat.{ℕ, ◌+◌, ◌*◌, ◌-◌, ◌%◌, ◌<◌, ◌≤◌}
use mathlib.Core.Path.{◌≡◌, refl, sym, ap, subst}
use mathlib.Core.List.{List, ◌∷◌, ◌++◌}
use borrow.Author.Tests.{lt-ltb, le-leb, lt-leb, eq-eqb, ne_eqb}
use lib.Dec.{ltb, leb, eqb}
use lib.ListN.{length, get_or, take}
use Rattle.base.specs.Choice.{pick}
use Rattle.base.specs.Text.{bytes}
use Rattle.base.specs.Front.{found, missing}
use Rattle.base.specs.Places.{each}
use Rattle.base.proofs.Fronts.{never, let_through, by_front}
use Rattle.base.proofs.Places.{each_at}
use Rattle.text.specs.Pieces.{decimal, fixed}
use Rattle.text.proofs.Fronts.{fixed_front, front_fixed}
use Rattle.order.specs.Order.{operand}
use Rattle.order.specs.Memory.{number, shapes, order_of}
use Rattle.order.specs.Object.{heading, record_at}
use Rattle.order.proofs.Numbers.{number_below}
use Rattle.order.proofs.Records.{heading_read, read_heading}
use Rattle.order_record.specs.Internal.{numbers_by_letters, heading_at, number_after, Likely}

-- ---- the number that `likely` gives: by the sum of three letters, and by the kind where it is below 24

abbrev named : ℕ → ℕ → ℕ → ℕ
named a b c = get_or numbers_by_letters ((10 * a + 8 * b + c) % 64) 0

abbrev kinded : List ℕ → ℕ → ℕ
kinded l k = pick (leb 24 k) k (pick (eqb (get_or l (length (heading (order_of k 0)) - 2) 0) 75) (k + 12) k)

abbrev guessed : List ℕ → ℕ
guessed l = kinded l (named (get_or l 0 0) (get_or l 1 0) (get_or l 2 0))

-- that of each order where its name and kind stand, whatever text is behind them
all_guessed : (l : List ℕ) → each (λ k. guessed (take 7 (heading (order_of k 0) ++ l))) 0 38 ≡ each (λ k. k) 0 38
unfolding each bytes order_of shapes pick
all_guessed l = refl

guessed_likely : (front : List ℕ) → Likely front (guessed front)
guessed_likely front j l h e =
    rw e (each_at (λ k. guessed (take 7 (heading (order_of k 0) ++ l))) (λ k. k) 38 (all_guessed l) j h)

module _ (front : List ℕ) (a b c x : ℕ) (p : a ≡ get_or front 0 0) (q : b ≡ get_or front 1 0) (r : c ≡ get_or front 2 0)
    (told : x ≡ get_or numbers_by_letters ((10 * a + 8 * b + c) % 64) 0) where
  pub likely_past : 24 ≤ x → Likely front x
  unfolding pick
  likely_past e = subst (Likely front) (rw (← p, ← q, ← r, ← told, le-leb 24 x e) refl) (guessed_likely front)

  module _ (row : List ℕ) (d : ℕ) (below : x < 24) (m : row ≡ heading (order_of x 0)) (k : d ≡ get_or front (length row - 2) 0) where
    pub likely_number : d ≡ 75 → Likely front (x + 12)
    unfolding pick
    likely_number e =
        subst (Likely front) (rw (← p, ← q, ← r, ← told, lt-leb 24 x below, ← m, ← k, eq-eqb d 75 e) refl) (guessed_likely front)

    pub likely_other : (d ≡ 75 → ⊥) → Likely front x
    unfolding pick
    likely_other e =
        subst (Likely front) (rw (← p, ← q, ← r, ← told, lt-leb 24 x below, ← m, ← k, ne_eqb d 75 e) refl) (guessed_likely front)

-- ---- the record

pub heading_here : (k : ℕ) (l l₁ x : List ℕ) → heading_at k l ≡ found x l₁ → record_at l ≡ number_after k l₁
heading_here k l l₁ x e =
    let f = let_through (ltb k 38) (fixed (heading (order_of k 0)) l) e in
    rw (front_fixed (heading (order_of k 0)) l l₁ x f.1) (heading_read k l₁)

pub no_heading : (k : ℕ) (l : List ℕ) → Likely (take 7 l) k → heading_at k l ≡ missing → record_at l ≡ missing
unfolding pick
no_heading k l likely e =
    by_front (record_at l)
    (λ o rest r. let front = read_heading o l rest r in
    let told : k ≡ number o = likely (number o) (decimal (operand o) ++ 10 ∷ rest) (number_below o) (ap (take 7) front) in
    let stands = fixed_front (heading (order_of (number o) 0)) (decimal (operand o) ++ 10 ∷ rest) in
    never (sym (rw (told, lt-ltb (number o) 38 (number_below o), front, stands) at e)))
    (λ r. r)
