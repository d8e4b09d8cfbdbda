-- "Running a then b more steps over one output equals running a+b, steps summed, where a+b fits the budget's type": of calls,
-- with nothing kept between them but the bytes of state and output.
use Prim.Native.Nat.{ℕ, zero, suc, ◌+◌, ◌*◌, ◌/◌, ◌<◌, ◌≤◌}
use mathlib.Core.Path.{◌≡◌, refl, sym, ap, ◌∙◌}
use mathlib.Core.Bool.{true, false}
use mathlib.Core.List.{List}
use mathlib.Core.Logic.{inl, inr, ⊎_elim}
use native.Mathlib.Omega.{arith}
use borrow.Author.Tests.{lt-ltb, le-ltb, eq-eqb, le-leb, ltb-true, leb-true, eqb-true}
use lib.Dec.{ltb, leb, eqb}
use lib.ListN.{length}
use Rattle.base.specs.Choice.{pick}
use Rattle.base.proofs.Cases.{by_test, both_yes}
use Rattle.order.specs.declared.Order.{Order}
use Rattle.order.specs.Object.{Reading, object, refused, reading}
use Rattle.order.specs.Good.{Good}
use Rattle.order.proofs.RoundTrip.{read_good}
use Rattle.order.proofs.Refusals.{refused_bounded}
use Rattle.machine.specs.declared.Registers.{Registers}
use Rattle.machine.specs.Machine.{machine, Run, ran, run}
use Rattle.machine.specs.Frame.{Ending, Bytes, Words}
use Rattle.machine.proofs.Invariants.{operands_small}
use Rattle.machine.proofs.Resume.{resume, within_budget}
use Rattle.machine.proofs.Frame.{lengths_stay, sent_within_room, ending_known, words_stay, next_inside}
use Rattle.skimp_state.specs.State.{number_at, registers_of, words_at, state_bytes}
use Rattle.skimp_state.proofs.Bytes.{number_four, length_words, length_state}
use Rattle.skimp_state.proofs.Stored.{Held, registers_again, words_again}
use Rattle.call.specs.Reply.{reply}
use Rattle.call.specs.Run.{Call, call, refused_call, is_ending, ran_call, registers_fit, state_fits, object_call, read_call, run_call, reply_of_both}

-- ---- the parts of a call

abbrev pub reply_in : Call → ℕ
reply_in (call r s o) = r

abbrev pub state_in : Call → List ℕ
state_in (call r s o) = s

abbrev pub output_in : Call → List ℕ
output_in (call r s o) = o

abbrev with_reply : ℕ → Call → Call
with_reply n (call r s o) = call n s o

-- ---- replies

both_refused : (n p : ℕ) → 21 ≤ n → p < 4294967296 → reply_of_both (reply n p) (reply n p) ≡ reply n p
unfolding reply_of_both pick
both_refused n p h g = rw (le-ltb (reply n p / 4294967296) 21 (omega arith)) refl

steps_summed : (e k f j : ℕ) → e < 21 → k < 4294967296 → reply_of_both (reply e k) (reply f j) ≡ reply f (k + j)
unfolding reply_of_both pick
steps_summed e k f j h g = rw (lt-ltb (reply e k / 4294967296) 21 (omega arith)) (omega arith)

-- ---- the state that fits, part by part

ending_of : (e : ℕ) → is_ending e ≡ true → Ending e
unfolding is_ending pick
ending_of e h =
    by_test
    (ltb e 5)
    (λ t. inl (let low = ltb-true e 5 t in omega arith))
    (λ t. inr (eqb-true e 20 (rw t at h)))

is_ending_law : (e : ℕ) → Ending e → is_ending e ≡ true
unfolding is_ending pick
is_ending_law e (inl h) = rw (lt-ltb e 5 (omega arith)) refl
is_ending_law e (inr h) = rw h refl

fit_of : (n room : ℕ) (r : Registers) → registers_fit n room r ≡ true → (r.next < n) × (r.sent ≤ room) × Ending r.ending
unfolding registers_fit
fit_of n room r e =
    let a = both_yes (ltb r.next n) _ e in
    let b = both_yes (leb r.sent room) _ a.1 in
    (ltb-true r.next n a.0, leb-true r.sent room b.0, ending_of r.ending b.1)

pub fit_again : (n room : ℕ) (r : Registers) → (r.next < n) × (r.sent ≤ room) × Ending r.ending → registers_fit n room r ≡ true
unfolding registers_fit pick
fit_again n room r f = rw (lt-ltb r.next n f.0, le-leb r.sent room f.1) (is_ending_law r.ending f.2)

-- a state that fits has its length, and a known ending
module _ (words n : ℕ) (state output : List ℕ) (fits : state_fits words n state output ≡ true) where
  pub fits_length : length state ≡ 20 + 4 * words
  unfolding state_fits
  fits_length = eqb-true (length state) (20 + 4 * words) (both_yes (eqb (length state) (20 + 4 * words)) _ fits).0

  pub fits_registers : ((registers_of state).next < n) × ((registers_of state).sent ≤ length output / 4) × Ending (registers_of state).ending
  unfolding state_fits
  fits_registers = fit_of n (length output / 4) (registers_of state) (both_yes (eqb (length state) (20 + 4 * words)) _ fits).1

-- ---- the first state is read from bytes

number_small : (s : List ℕ) (i : ℕ) → Bytes s → number_at 4 i s < 4294967296
number_small s i small =
    rw (number_four s i) (omega (arith, small i, small (i + 1), small (i + 2), small (i + 3)))

words_small : (n i : ℕ) (s : List ℕ) → Bytes s → Words (words_at n i s)
unfolding words_at
words_small zero i s small j = omega arith
words_small (suc n) i s small zero = number_small s i small
words_small (suc n) i s small (suc j) = words_small n (i + 4) s small j

-- ---- two calls on a good object

module _
    (v t : ℕ) (os : List Order) (good : Good v t os) (state output : List ℕ) (a b : ℕ)
    (bytes : Bytes state) (room : length output < 18446744073709551616) (budgets : a + b < 4294967296)
    (fits : state_fits (v + t + 2) (length os) state output ≡ true)
  where
    fit : ((registers_of state).next < length os) × ((registers_of state).sent ≤ length output / 4) × Ending (registers_of state).ending
    fit = fits_registers (v + t + 2) (length os) state output fits

    -- the first run's end
    module _ (k : ℕ) (q : Registers) (vs left : List ℕ) (e : run os a (machine (registers_of state) (words_at (v + t + 2) 20 state) output) ≡ ran k (machine q vs left)) where
      pub lengths : (length vs ≡ v + t + 2) × (length left ≡ length output)
      lengths =
          let kept = lengths_stay os a (registers_of state) (words_at (v + t + 2) 20 state) output k q vs left e in
          (kept.0 ∙ length_words (v + t + 2) 20 state, kept.1)

      pub fit_left : (q.next < length os) × (q.sent ≤ length left / 4) × Ending q.ending
      fit_left = (
        next_inside os a (registers_of state) (words_at (v + t + 2) 20 state) output k q vs left e v t good fit.0,
        sent_within_room os a (registers_of state) (words_at (v + t + 2) 20 state) output k q vs left e fit.1,
        ending_known os a (registers_of state) (words_at (v + t + 2) 20 state) output k q vs left e fit.2,
      )

      pub words_left : (q.acc < 4294967296) × Words vs
      words_left =
          words_stay
          os
          a
          (registers_of state)
          (words_at (v + t + 2) 20 state)
          output
          k
          q
          vs
          left
          e
          (operands_small v t os good)
          (number_small state 0 bytes)
          (words_small (v + t + 2) 20 state bytes)

      pub low_ending : q.ending < 21
      low_ending = ⊎_elim (λ (h : q.ending ≤ 4). omega arith) (λ (h : q.ending ≡ 20). omega arith) fit_left.2

      pub held : Held q
      held = record {
        acc = words_left.0;
        next = omega (arith, fit_left.0, good.few_orders);
        sent = omega (arith, fit_left.1, lengths.1);
        ending = omega (arith, low_ending);
      }

      -- the second call begins where the first has ended
      fits_left : state_fits (v + t + 2) (length os) (state_bytes q vs) left ≡ true
      unfolding state_fits pick
      fits_left =
          rw (eq-eqb (length (state_bytes q vs)) (20 + 4 * (v + t + 2)) (omega (arith, length_state q vs, lengths.0)), registers_again q vs held)
          (fit_again (length os) (length left / 4) q fit_left)

      pub words_kept : words_at (v + t + 2) 20 (state_bytes q vs) ≡ vs
      words_kept = ap (λ n. words_at n 20 (state_bytes q vs)) (sym lengths.0) ∙ words_again q vs words_left.1

      second_call : object_call (v + t + 2) (length os) os (state_bytes q vs) left b ≡ ran_call (run os b (machine q vs left))
      unfolding object_call pick
      second_call = rw (fits_left, registers_again q vs held, words_kept) refl

      -- the call with both budgets ends where the second has ended
      whole_call :
          (j : ℕ) (p : Registers) (us end : List ℕ)
          → run os b (machine q vs left) ≡ ran j (machine p us end)
          → object_call (v + t + 2) (length os) os state output (a + b)
          ≡ call (reply_of_both (reply q.ending k) (reply p.ending j)) (state_bytes p us) end
      unfolding object_call pick
      whole_call j p us end f =
          let few = within_budget os a (machine (registers_of state) (words_at (v + t + 2) 20 state) output) k (machine q vs left) e in
          rw (
            fits,
            resume os a b (machine (registers_of state) (words_at (v + t + 2) 20 state) output) k (machine q vs left) j (machine p us end) e f,
            steps_summed q.ending k p.ending j low_ending (omega (arith, few, budgets)),
          )
          refl

      -- what the two calls leave, read off their equations
      both_calls :
          (y : Run)
          → run os b (machine q vs left) ≡ y
          → (r₂ : ℕ) (s₂ o₂ : List ℕ)
          → object_call (v + t + 2) (length os) os (state_bytes q vs) left b ≡ call r₂ s₂ o₂
          → object_call (v + t + 2) (length os) os state output (a + b) ≡ call (reply_of_both (reply q.ending k) r₂) s₂ o₂
      both_calls (ran j (machine p us end)) f r₂ s₂ o₂ g =
          let same = sym g ∙ second_call ∙ ap ran_call f in
          whole_call j p us end f ∙ ap (λ c. with_reply (reply_of_both (reply q.ending k) (reply_in c)) c) (sym same)

    good_calls :
        (x : Run)
        → run os a (machine (registers_of state) (words_at (v + t + 2) 20 state) output) ≡ x
        → (r₁ : ℕ) (s₁ o₁ : List ℕ)
        → ran_call x ≡ call r₁ s₁ o₁
        → (r₂ : ℕ) (s₂ o₂ : List ℕ)
        → object_call (v + t + 2) (length os) os s₁ o₁ b ≡ call r₂ s₂ o₂
        → object_call (v + t + 2) (length os) os state output (a + b) ≡ call (reply_of_both r₁ r₂) s₂ o₂
    good_calls (ran k (machine q vs left)) e r₁ s₁ o₁ f r₂ s₂ o₂ g =
        rw (← ap reply_in f)
        (both_calls k q vs left e (run os b (machine q vs left)) refl r₂ s₂ o₂ (rw (ap state_in f, ap output_in f) g))

-- ---- any two calls

module _ (words n : ℕ) (os : List Order) (state output : List ℕ) (budget : ℕ) where
  pub fitting :
      state_fits words n state output ≡ true
      → object_call words n os state output budget ≡ ran_call (run os budget (machine (registers_of state) (words_at words 20 state) output))
  unfolding object_call pick
  fitting e = rw e refl

  pub unfit : state_fits words n state output ≡ false → object_call words n os state output budget ≡ refused_call 26 0 state output
  unfolding object_call pick
  unfit e = rw e refl

module _
    (text state output : List ℕ) (a b : ℕ)
    (bytes : Bytes state) (room : length output < 18446744073709551616) (budgets : a + b < 4294967296)
    (r₁ : ℕ) (s₁ o₁ : List ℕ) (r₂ : ℕ) (s₂ o₂ : List ℕ)
  where
    -- a refusal is the same for any budget
    refused_calls :
        (n p : ℕ)
        → 21 ≤ n
        → p < 4294967296
        → refused_call n p state output ≡ call r₁ s₁ o₁
        → refused_call n p s₁ o₁ ≡ call r₂ s₂ o₂
        → refused_call n p state output ≡ call (reply_of_both r₁ r₂) s₂ o₂
    refused_calls n p high low e f =
        rw (← ap reply_in f, ← ap state_in f, ← ap output_in f, ← ap reply_in e, ← ap state_in e, ← ap output_in e, both_refused n p high low) refl

    read_calls :
        (x : Reading)
        → reading text ≡ x
        → read_call x state output a ≡ call r₁ s₁ o₁
        → read_call x s₁ o₁ b ≡ call r₂ s₂ o₂
        → read_call x state output (a + b) ≡ call (reply_of_both r₁ r₂) s₂ o₂
    read_calls (refused n p) i e f =
        let known = refused_bounded text n p i in
        refused_calls n p known.0 (omega (arith, known.2)) e f
    read_calls (object v t os) i e f =
        by_test
        (state_fits (v + t + 2) (length os) state output)
        (λ yes.
        good_calls v t os (read_good text v t os i) state output a b bytes room budgets yes _ refl r₁ s₁ o₁ (sym (fitting (v + t + 2) (length os) os state output a yes) ∙ e) r₂ s₂ o₂ f)
        (λ no.
        let first = sym (unfit (v + t + 2) (length os) os state output a no) ∙ e in
        let second = sym (unfit (v + t + 2) (length os) os s₁ o₁ b (rw (← ap state_in first, ← ap output_in first) no)) ∙ f in
        unfit (v + t + 2) (length os) os state output (a + b) no ∙ refused_calls 26 0 (omega arith) (omega arith) first second)

    pub calls_resume :
        run_call text state output a ≡ call r₁ s₁ o₁
        → run_call text s₁ o₁ b ≡ call r₂ s₂ o₂
        → run_call text state output (a + b) ≡ call (reply_of_both r₁ r₂) s₂ o₂
    unfolding run_call
    calls_resume e f = read_calls (reading text) refl e f
