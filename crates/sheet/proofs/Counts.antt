-- The count of a program is a sum over the instructions done, each of which adds one order at least; the end adds STOP.
use Prim.Native.Nat.{ℕ, zero, suc, ◌≤◌}
use mathlib.Core.Path.{◌≡◌, refl, sym, ap, ◌∙◌}
use mathlib.Core.List.{List, [], ◌∷◌}
use native.Mathlib.Omega.{arith}
use borrow.Author.Tests.{eq-eqb, ne_eqb}
use Rattle.base.specs.Choice.{pick}
use Rattle.base.proofs.Cases.{by_equal}
use Rattle.sheet.specs.Sheet.{Sheet, sheet}
use Rattle.sheet.specs.Worth.{Counted, gives, faults, Next, onward, at}
use Rattle.sheet.specs.Meaning.{Move, view, do_move, Progress, moved, stopped, move_at, further, after, Adds}
use Rattle.sheet.proofs.Values.{Some, some_move}

moved_adds : (p : Progress) (x : Counted Next) → Some x → Adds p (moved p x)
moved_adds p (gives (onward m) k) h = record { orders = k; some = h; sum = refl }
moved_adds p (gives (at s m) k) h = record { orders = k; some = h; sum = refl }
moved_adds p (faults n k) h = record { orders = k; some = h; sum = refl }

either_adds :
    (p : Progress) (f : Move → Progress) (stop : Progress) (s : ℕ) (l : List Move)
    → ((m : Move) → Adds p (f m))
    → Adds p stop
    → Adds p (move_at s l f stop)
unfolding move_at
either_adds p f stop zero l on last = last
either_adds p f stop (suc s) [] on last = last
either_adds p f stop (suc zero) (m ∷ l) on last = on m
either_adds p f stop (suc (suc s)) (m ∷ l) on last = either_adds p f stop (suc s) l on last

further_adds : (room : ℕ) (l : List Move) (p : Progress) → p.ending ≡ 0 → Adds p (further room l p)
unfolding further pick
further_adds room l p yet =
    rw (eq-eqb p.ending 0 yet)
    (either_adds
    p
    (λ m. moved p (do_move room p.store m))
    (stopped p)
    p.next
    l
    (λ m. moved_adds p (do_move room p.store m) (some_move room p.store m))
    (record { orders = 1; some = omega arith; sum = refl }))

-- "It counts, for each instruction done, the orders of the path it takes, STOP too"
pub each_counts : (s : Sheet) (room k : ℕ) → (after k room s).ending ≡ 0 → Adds (after k room s) (after (suc k) room s)
unfolding after
each_counts (sheet v x) room k yet = further_adds room (view x) (after k room (sheet v x)) yet

-- what has ended counts no more
pub ended_counts : (s : Sheet) (room k : ℕ) → ((after k room s).ending ≡ 0 → ⊥) → after (suc k) room s ≡ after k room s
unfolding after further pick
ended_counts (sheet v x) room k ended = rw (ne_eqb (after k room (sheet v x)).ending 0 ended) refl

-- the count of k instructions done is k at least
pub count_at_least : (s : Sheet) (room k : ℕ) → (after k room s).ending ≡ 0 → k ≤ (after k room s).count
count_at_least s room zero yet = omega arith
count_at_least s room (suc k) yet =
    by_equal (after k room s).ending 0
    (λ going. let one = each_counts s room k going in
    let before = count_at_least s room k going in
    omega (arith, one.some, one.sum, before))
    (λ ended. absurd (ended (ap (λ p. p.ending) (sym (ended_counts s room k ended)) ∙ yet)))
