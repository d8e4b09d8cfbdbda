-- What a sheet means, document 01: "laid down on its instructions and the word arithmetic, never by running orders. It
-- counts, for each instruction done, the orders of the path it takes, STOP too, and in a faulting one the orders before the
-- fault." It goes by the numbers of the instructions. Comments in quotes are the words of document 01 and of 02, L1.
use Rattle.std.specs.Prelude.{ℕ, zero, suc, ◌+◌, ◌≤◌, ◌≡◌, List, [], ◌∷◌, ◌++◌, eqb, replicate}
use Rattle.base.specs.Choice.{pick}
use Rattle.sheet.specs.Sheet.{Simple, Condition, Part, end, plain, when, either, count, Sheet, sheet}
use Rattle.sheet.specs.Worth.{Counted, gives, faults, and_then, Store, Next, onward, at, do_simple}
use Rattle.sheet.specs.Condition.{answer}

-- ---- the instructions by their numbers

-- where it goes on: the number of an instruction, or one past the last, and how many SKIPs lie on the way there
pub record Way : Type 0 where
  pub number : ℕ
  pub skips : ℕ

-- what stands under a number: an instruction that is no IF, and where it goes on; or what an IF asks, where it goes on after a yes,
-- and where after a no
pub data Move : Type 0 where
  deed : Simple → Way → Move
  question : Condition → Way → Way → Move

abbrev pub straight : ℕ → Way
straight n = record { number = n; skips = 0 }

-- one SKIP more on the way
abbrev pub over_skip : Way → Way
over_skip w = record { number = w.number; skips = suc w.skips }

-- the way to the instructions l, the first of which has the number n; where there is none, the way w behind them: "the
-- instruction after the whole IF, and so on outwards, or the end"
abbrev pub way_to : ℕ → Way → Part → Way
way_to n w end = w
way_to n w (plain u l) = straight n
way_to n w (when c x l) = straight n
way_to n w (either c x y l) = straight n

-- all that stands under numbers from n on; behind the last instruction the way goes on as w says. A first part ends with "the jump
-- over an ELSE"
unfoldable pub moves : ℕ → Way → Part → List Move
moves n w end = []
moves n w (plain u l) = deed u (way_to (suc n) w l) ∷ moves (suc n) w l
moves n w (when c x l) =
    question c (straight (suc n)) (way_to (suc n + count x) w l)
    ∷ (moves (suc n) (way_to (suc n + count x) w l) x ++ moves (suc n + count x) w l)
moves n w (either c x y l) =
    question c (straight (suc n)) (straight (suc n + count x))
    ∷ (moves (suc n) (over_skip (way_to (suc n + count x + count y) w l)) x
    ++ (moves (suc n + count x) (way_to (suc n + count x + count y) w l) y ++ moves (suc n + count x + count y) w l))

abbrev pub view : Part → List Move
view x = moves 1 (straight (suc (count x))) x

-- ---- what an instruction does

-- "a SKIP counts with the instruction done just before it"
abbrev pub go_on : Way → Next → Counted Next
go_on w (onward m) = gives (at w.number m) w.skips
go_on w (at s m) = gives (at s m) 0

-- "an IF is done once its condition is answered"
abbrev pub do_move : ℕ → Store → Move → Counted Next
do_move room m (deed u w) = and_then (do_simple room m u) (go_on w)
do_move room m (question c yes_way no_way) =
    and_then (answer m.words c) (λ holds. pick holds (go_on yes_way (onward m)) (go_on no_way (onward m)))

-- ---- programs

-- how far a program has come: the number of the instruction that is next, its store, the count of orders, and the ending:
-- 0 none, 1 to 4 a fault, 20 stopped
pub record Progress : Type 0 where
  pub next : ℕ
  pub store : Store
  pub count : ℕ
  pub ending : ℕ

abbrev pub moved : Progress → Counted Next → Progress
moved p (gives (onward m) k) = record { next = p.next + 1; store = m; count = p.count + k; ending = 0 }
moved p (gives (at s m) k) = record { next = s; store = m; count = p.count + k; ending = 0 }
moved p (faults n k) = record { next = p.next; store = p.store; count = p.count + k; ending = n }

-- the end of the program: "STOP too"
abbrev pub stopped : Progress → Progress
stopped p = record { next = p.next; store = p.store; count = p.count + 1; ending = 20 }

-- what stands under the number s, from 1, if it is an instruction's, or the end of the program
unfoldable pub move_at : {A : Type 0} → ℕ → List Move → (Move → A) → A → A
move_at zero l f stop = stop
move_at (suc s) [] f stop = stop
move_at (suc zero) (m ∷ l) f stop = f m
move_at (suc (suc s)) (m ∷ l) f stop = move_at (suc s) l f stop

-- one instruction more, or the end; what has ended stays
unfoldable pub further : ℕ → List Move → Progress → Progress
further room l p =
    pick
    (eqb p.ending 0)
    (move_at p.next l (λ m. moved p (do_move room p.store m)) (stopped p))
    p

-- "Words start at 0."
abbrev pub beginning : ℕ → Progress
beginning v = record { next = 1; store = record { words = replicate (v + 2) 0; sent = [] }; count = 0; ending = 0 }

-- the program after k instructions, the end counted as one
unfoldable pub after : ℕ → ℕ → Sheet → Progress
after zero room (sheet v x) = beginning v
after (suc k) room (sheet v x) = further room (view x) (after k room (sheet v x))

-- q counts some orders more than p
pub record Adds (p q : Progress) : Type 0 where
  pub orders : ℕ
  pub some : 1 ≤ orders
  pub sum : q.count ≡ p.count + orders
