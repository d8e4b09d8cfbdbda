-- The run of a sheet's translation follows the sheet's meaning, instruction by instruction.
use Prim.Native.Nat.{ℕ, zero, suc, ◌+◌, ◌-◌, ◌/◌}
use mathlib.Core.Path.{◌≡◌, refl, sym, ap, ◌∙◌}
use mathlib.Core.List.{List, [], ◌∷◌, ◌++◌}
use native.Mathlib.Omega.{arith}
use native.Mathlib.Nat.{zero-add, add-zero}
use borrow.Author.Tests.{eq-eqb, ne_eqb}
use lib.ListN.{length, get_or, replicate, length-replicate, replicate-append-replicate, get_or-eq_default}
use lib.Seq.{sets, take-append_seam}
use Rattle.base.specs.Choice.{pick}
use Rattle.base.proofs.Lists.{get_d_repeated}
use Rattle.order.specs.declared.Order.{Order}
use Rattle.order.specs.declared.Order.TheVariants.{Stop}
use Rattle.machine.specs.declared.Registers.{Registers}
use Rattle.machine.specs.Machine.{Machine, machine, done, failed, ran, end_with, next_effect, run}
use Rattle.machine.proofs.Steps.{ended_stays, fault_is_met, no_budget, next_fate, fault_numbers}
use Rattle.sheet.specs.Sheet.{Part, end, plain, when, either, count, Sheet, sheet}
use Rattle.sheet.specs.Formed.{Leads}
use Rattle.sheet.specs.Worth.{Counted, Store, Next}
use Rattle.sheet.specs.Translation.{size, starts, first_order, part_code, translation, temporaries_of}
use Rattle.sheet.specs.Within.{Within}
use Rattle.sheet.specs.Meaning.{Move, straight, view, do_move, Progress, moved, stopped, further, beginning, after}
use Rattle.sheet.specs.Following.{sent_bytes, Follows}
use Rattle.sheet.proofs.Sizes.{count_starts, code_length}
use Rattle.sheet.proofs.Reach.{more, here, Reaches, at_once, and_on, one_step, Stands, stands_first, stands_left, stands_right, waits}
use Rattle.sheet.proofs.Values.{Some, some_move}
use Rattle.sheet.proofs.Simulation.{lands, fails, lost}
use Rattle.sheet.proofs.Doing.{Sound, holding}
use Rattle.sheet.proofs.Places.{Along, places, numbers_told, Place, begins, ends, placed}
use Rattle.sheet.proofs.Moving.{Arrives, arrives, does_move}

-- the first instruction begins with order 0
first_is : (v : ℕ) (x : Part) → first_order v x 1 ≡ 0
unfolding starts size
first_is v end = refl
first_is v (plain u l) = refl
first_is v (when c x l) = refl
first_is v (either c x y l) = refl

-- a sheet, and the output at the start
module _ (v : ℕ) (x : Part) (within : Within (sheet v x)) (out : List ℕ) where
  abbrev os : List Order
  os = translation (sheet v x)

  abbrev t : ℕ
  t = temporaries_of x

  abbrev n : ℕ
  n = count x

  abbrev to : ℕ → ℕ
  to = first_order v x

  abbrev start : Machine
  start = here 0 0 0 (replicate (v + t + 2) 0) out

  abbrev sent_to : Store → List ℕ
  sent_to m = sets out 0 (sent_bytes m.sent)

  abbrev keeping : Store → ℕ → ℕ → List ℕ → Machine
  keeping = holding os v t n out to

  abbrev Fine : Store → Type 0
  Fine = Sound os v t n out to

  -- the run has come to the first order of the next instruction, or it has ended as the program has
  data Reached (p : Progress) : Type 0 where
    going :
        (a : ℕ) (us : List ℕ)
        → Leads n p.next
        → p.ending ≡ 0
        → length us ≡ t
        → Fine p.store
        → Reaches os p.count start (keeping p.store a (to p.next) us)
        → Reached p
    over :
        (r : Registers) (us : List ℕ)
        → (p.ending ≡ 0 → ⊥)
        → r.ending ≡ p.ending
        → r.sent ≡ length p.store.sent
        → Fine p.store
        → ((b : ℕ) → run os (p.count + b) start ≡ ran p.count (machine r (p.store.words ++ us) (sent_to p.store)))
        → Reached p

  -- ---- where the instructions stand

  stands_whole : Stands os 0 os
  stands_whole = record { each = λ i h. ap (λ k. get_or os k Stop) (zero-add i) }

  last_is : to (suc n) ≡ size v x
  last_is = get_or-eq_default (starts v 0 x) (size v x) {n = suc n - 1} (omega (arith, count_starts v 0 x))

  along : Along os v t n to (view x) (starts v 0 x)
  along =
      places os v t n to x 0 (size v x) 1 (straight (suc n)) (zero-add (size v x)) within.formed (omega arith)
      (numbers_told os v t n to 1 (starts v 0 x) (size v x)
      (λ k h. let same : 1 + k - 1 ≡ k = omega arith in ap (λ i. get_or (starts v 0 x) i (size v x)) same))
      (omega arith)
      (omega arith)
      (stands_left os 0 (part_code v to 0 x) (Stop ∷ []) stands_whole)
      (record { lawful = (omega arith, omega arith); runs = λ a c ws left. rw last_is (at_once os _) })

  stop_there : get_or os (size v x) Stop ≡ Stop
  stop_there =
      rw (← code_length v to 0 x, ← zero-add (length (part_code v to 0 x)))
      (stands_first os _ Stop [] (stands_right os 0 (part_code v to 0 x) (Stop ∷ []) stands_whole))

  abbrev place_of : ℕ → Type 0
  place_of s = Place os v t n to (view x) (starts v 0 x) (size v x) (s - 1)

  place_at : (s : ℕ) → Leads n s → place_of s
  place_at s h = placed os v t n to (size v x) (s - 1) along (omega (arith, count_starts v 0 x))

  -- ---- one instruction more

  -- the run behind a machine that has ended
  ends_there :
      (k : ℕ) (r : Registers) (ws left : List ℕ) (y : Machine)
      → (r.ending ≡ 0 → ⊥)
      → Reaches os k y (machine r ws left)
      → (b : ℕ)
      → run os (k + b) y ≡ ran k (machine r ws left)
  ends_there k r ws left y ended reach b =
      reach b ∙ ap (more k) (ended_stays os (machine r ws left) b ended) ∙ ap (λ c. ran c (machine r ws left)) (add-zero k)

  -- the run that meets a fault
  fails_there :
      (k q : ℕ) (r : Registers) (ws left : List ℕ) (y : Machine)
      → r.ending ≡ 0
      → next_effect os (machine r ws left) ≡ failed q
      → Reaches os k y (machine r ws left)
      → (b : ℕ)
      → run os (k + b) y ≡ ran k (machine (end_with q r) ws left)
  fails_there k q r ws left y yet e reach b =
      reach b
      ∙ ap (more k) (fault_is_met os (machine r ws left) b q yet e)
      ∙ ap (λ c. ran c (machine (end_with q r) ws left)) (add-zero k)

  -- a fault has a number above 0
  some_fault : (r : Registers) (ws left : List ℕ) (q : ℕ) → next_effect os (machine r ws left) ≡ failed q → q ≡ 0 → ⊥
  some_fault r ws left q e z = let few = fault_numbers q (next_fate os r ws left) e in omega (arith, few.0, z)

  -- a program that goes on
  module _
      (p : Progress) (a : ℕ) (us : List ℕ) (leads : Leads n p.next) (yet : p.ending ≡ 0) (long : length us ≡ t)
      (fine : Fine p.store) (reach : Reaches os p.count start (keeping p.store a (to p.next) us)) where
    abbrev now : Machine
    now = keeping p.store a (to p.next) us

    arrived : (y : Counted Next) → Arrives os v t n out to p.store fine now y → Reached (moved p y)
    arrived y (lands z k q go (arrives s m b xs there still sound)) =
        going b xs there refl still sound (and_on os p.count k start _ _ reach go)
    arrived y (fails q k w go wrong (lost b c xs still)) =
        over
        _
        xs
        (some_fault _ _ _ q wrong)
        refl
        refl
        fine
        (fails_there (p.count + k) q _ _ _ start refl wrong (and_on os p.count k start _ _ reach go))

    -- a machine that goes on does not fault before its first step
    still_there : (y : Counted Next) → Arrives os v t n out to p.store fine now y → Some y → run os 0 now ≡ ran 0 now
    still_there y (lands z k q go land) some = waits os k _ q some refl go
    still_there y (fails q k w go wrong lost_so) some = waits os k _ w some refl go

    abbrev at_end : Machine
    at_end =
        machine
        (record { acc = a; next = to p.next; sent = length p.store.sent; ending = 20 })
        (p.store.words ++ us)
        (sent_to p.store)

    stops : to p.next ≡ size v x → next_effect os now ≡ done at_end
    stops e = let at_stop : get_or os (to p.next) Stop ≡ Stop = ap (λ k. get_or os k Stop) e ∙ stop_there in rw at_stop refl

    abbrev one_more_law : Move → Progress
    one_more_law m = moved p (do_move (length out / 4) p.store m)

    numbered_so : suc (p.next - 1) ≡ p.next
    numbered_so = omega arith

    onwards : place_of p.next → Reached (further (length out / 4) (view x) p)
    unfolding further pick
    onwards (begins m which there) =
        rw (eq-eqb p.ending 0 yet, rw numbered_so at (which one_more_law (stopped p)))
        (arrived (do_move (length out / 4) p.store m) (does_move os v t n out to p.store fine m a _ us long there))
    onwards (ends which e) =
        rw (eq-eqb p.ending 0 yet, rw numbered_so at (which one_more_law (stopped p)))
        (over
        _
        us
        (λ z. omega (arith, z))
        refl
        refl
        fine
        (ends_there (p.count + 1) _ _ _ start (λ z. omega (arith, z))
        (and_on os p.count 1 start _ _ reach (one_step os _ _ refl (stops e)))))

    rests : place_of p.next → run os 0 now ≡ ran 0 now
    rests (begins m which there) =
        still_there (do_move (length out / 4) p.store m)
        (does_move os v t n out to p.store fine m a _ us long there)
        (some_move (length out / 4) p.store m)
    rests (ends which e) = no_budget os _ _ refl (stops e)

  further_so : (p : Progress) → Reached p → Reached (further (length out / 4) (view x) p)
  unfolding further pick
  further_so p (going a us leads yet long fine reach) = onwards p a us leads yet long fine reach (place_at p.next leads)
  further_so p (over r us ended e s fine runs) = rw (ne_eqb p.ending 0 ended) (over r us ended e s fine runs)

  begins_so : Reached (beginning v)
  unfolding sent_bytes
  begins_so =
      going
      0
      (replicate t 0)
      (omega arith, omega arith)
      refl
      (length-replicate t 0)
      (record { as_many = length-replicate (v + 2) 0; words_all = λ i. rw (get_d_repeated {A = ℕ} (v + 2) i 0) (omega arith) })
      (rw (first_is v x, replicate-append-replicate {A = ℕ} (v + 2) t 0, all) (at_once os start))
    where
      all : v + 2 + t ≡ v + t + 2
      all = omega arith

  reached : (k : ℕ) → Reached (after k (length out / 4) (sheet v x))
  unfolding after
  reached zero = begins_so
  reached (suc k) = further_so (after k (length out / 4) (sheet v x)) (reached k)

  -- ---- the promise

  in_steps : (k : ℕ) (y : Machine) → Reaches os k start y → run os 0 y ≡ ran 0 y → run os k start ≡ ran k y
  in_steps k y reach rest =
      ap (λ b. run os b start) (sym (add-zero k)) ∙ reach 0 ∙ ap (more k) rest ∙ ap (λ b. ran b y) (add-zero k)

  seen : (p : Progress) → Reached p → Follows (sheet v x) out p
  seen p (going a us leads yet long fine reach) = record {
    registers = record { acc = a; next = to p.next; sent = length p.store.sent; ending = 0 };
    frame = p.store.words ++ us;
    steps = in_steps p.count _ reach (rests p a us leads yet long fine reach (place_at p.next leads));
    variables_too = rw (← fine.as_many) (take-append_seam p.store.words us);
    sent_too = refl;
    ends_alike = sym yet;
    next_too = λ _. refl;
    ended = λ over_so. absurd (over_so yet);
  }
  seen p (over r us over_so e s fine runs) = record {
    registers = r;
    frame = p.store.words ++ us;
    steps = ap (λ b. run os b start) (sym (add-zero p.count)) ∙ runs 0;
    variables_too = rw (← fine.as_many) (take-append_seam p.store.words us);
    sent_too = s;
    ends_alike = e;
    next_too = λ yet. absurd (over_so yet);
    ended =
        λ _ b h. let all : p.count + (b - p.count) ≡ b = omega (arith, h) in
        ap (λ k. run os k start) (sym all)
        ∙ runs (b - p.count)
        ∙ sym (runs 0)
        ∙ ap (λ k. run os k start) (add-zero p.count);
  }

-- "For every k that it reaches, the run with the count of the first k instructions as budget .. reports that count as its
-- steps and has its variables and numbers sent."
pub following : (s : Sheet) → Within s → (out : List ℕ) (k : ℕ) → Follows s out (after k (length out / 4) s)
following (sheet v x) within out k = seen v x within out (after k (length out / 4) (sheet v x)) (reached v x within out k)
