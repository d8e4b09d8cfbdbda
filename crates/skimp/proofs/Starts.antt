-- The run call on a sheet's object from a state of zero bytes.
use Prim.Native.Nat.{ℕ, ◌+◌, ◌*◌, ◌/◌, ◌≤◌, ◌<◌}
use mathlib.Core.Path.{◌≡◌, refl, sym, ap, ◌∙◌}
use mathlib.Core.Bool.{true}
use mathlib.Core.List.{List, [], ◌∷◌, ◌++◌}
use mathlib.Core.Logic.{inl}
use native.Mathlib.Omega.{arith}
use borrow.Author.Tests.{eq-eqb}
use lib.ListN.{length, take, drop, length-replicate}
use lib.Seq.{sets}
use Rattle.base.specs.Choice.{pick}
use Rattle.machine.specs.Machine.{machine, ran, run}
use Rattle.sheet.specs.Sheet.{Sheet, variables}
use Rattle.sheet.specs.Within.{Within}
use Rattle.sheet.specs.Translation.{translation, sheet_temporaries}
use Rattle.sheet.specs.Meaning.{Progress}
use Rattle.sheet.specs.Following.{sent_bytes, start_run, Follows}
use Rattle.sheet.proofs.GoodObject.{translation_good}
use Rattle.sheet.proofs.Objects.{object_read}
use Rattle.skimp_state.specs.State.{registers_of, words_at, state_bytes}
use Rattle.skimp_state.proofs.Bytes.{length_state}
use Rattle.skimp_state.proofs.Stored.{Held, registers_again}
use Rattle.call.specs.Reply.{reply}
use Rattle.call.specs.Run.{call, ran_call, state_fits, run_call}
use Rattle.call.proofs.Texts.{front_set}
use Rattle.call.proofs.Resume.{fit_again, fitting, lengths, fit_left, held, words_kept}
use Rattle.call.proofs.Worked.{start_registers, start_words}
use Rattle.skimp.specs.Promises.{start_state, start_call, RunsTo}
use Rattle.skimp.proofs.States.{words_taken, zeros_small}

sent_length : (l : List ℕ) → length (sent_bytes l) ≡ 4 * length l
unfolding sent_bytes
sent_length [] = refl
sent_length (a ∷ l) = let more = sent_length l in omega (arith, more)

module _ (s : Sheet) (w : Within s) (output : List ℕ) where
  abbrev many : ℕ
  many = variables s + sheet_temporaries s + 2

  start_size : length (start_state s) ≡ 20 + 4 * many
  start_size = length-replicate (20 + 4 * many) 0

  start_fits : state_fits many (length (translation s)) (start_state s) output ≡ true
  unfolding state_fits pick
  start_fits =
      rw (eq-eqb (length (start_state s)) (20 + 4 * many) start_size, start_registers (20 + 4 * many))
      (fit_again (length (translation s)) (length output / 4) _ (omega (arith, (translation_good s w).some_orders), omega arith, inl (omega arith)))

  pub start_is : (b : ℕ) → start_call s output b ≡ ran_call (start_run s output b)
  unfolding run_call
  start_is b =
      rw (object_read s w)
      (fitting many (length (translation s)) (translation s) (start_state s) output b start_fits
      ∙ rw (start_registers (20 + 4 * many), start_words many 20 (20 + 4 * many)) refl)

  module _ (room : length output < 18446744073709551616) (p : Progress) (f : Follows s output p) (fits : p.count < 4294967296) where
    abbrev left : List ℕ
    left = sets output 0 (sent_bytes p.store.sent)

    from_start :
        run (translation s) p.count (machine (registers_of (start_state s)) (words_at many 20 (start_state s)) output)
        ≡ ran p.count (machine f.registers f.frame left)
    from_start = rw (start_registers (20 + 4 * many), start_words many 20 (20 + 4 * many)) f.steps

    budgets : p.count + 0 < 4294967296
    budgets = omega (arith, fits)

    registers_held : Held f.registers
    registers_held =
        held _ _ (translation s) (translation_good s w) (start_state s) output p.count 0 (zeros_small (20 + 4 * many)) room budgets start_fits p.count f.registers f.frame left from_start

    frame_length : length f.frame ≡ many
    frame_length =
        (lengths _ _ (translation s) (translation_good s w) (start_state s) output p.count 0 (zeros_small (20 + 4 * many)) room budgets start_fits p.count f.registers f.frame left from_start).0

    left_length : length left ≡ length output
    left_length =
        (lengths _ _ (translation s) (translation_good s w) (start_state s) output p.count 0 (zeros_small (20 + 4 * many)) room budgets start_fits p.count f.registers f.frame left from_start).1

    within_room : f.registers.sent ≤ length left / 4
    within_room =
        (fit_left _ _ (translation s) (translation_good s w) (start_state s) output p.count 0 (zeros_small (20 + 4 * many)) room budgets start_fits p.count f.registers f.frame left from_start).1

    frame_kept : words_at many 20 (state_bytes f.registers f.frame) ≡ f.frame
    frame_kept =
        words_kept _ _ (translation s) (translation_good s w) (start_state s) output p.count 0 (zeros_small (20 + 4 * many)) room budgets start_fits p.count f.registers f.frame left from_start

    -- the numbers sent stand in front, and the bytes behind stay
    left_parted : left ≡ sent_bytes p.store.sent ++ drop (length (sent_bytes p.store.sent)) output
    left_parted =
        front_set (sent_bytes p.store.sent) output (omega (arith, sent_length p.store.sent, within_room, left_length, f.sent_too))

    again : registers_of (state_bytes f.registers f.frame) ≡ f.registers
    again = registers_again f.registers f.frame registers_held

    pub runs_to : RunsTo s output p
    runs_to = record {
      state = state_bytes f.registers f.frame;
      called =
          start_is p.count
          ∙ ap ran_call f.steps
          ∙ ap (λ e. call (reply e p.count) (state_bytes f.registers f.frame) left) f.ends_alike
          ∙ ap (call (reply p.ending p.count) (state_bytes f.registers f.frame)) left_parted;
      its_words =
          words_taken (variables s + 2) many 20 (state_bytes f.registers f.frame) (omega arith)
          ∙ ap (take (variables s + 2)) frame_kept
          ∙ f.variables_too;
      its_sent = ap (λ r. r.sent) again ∙ f.sent_too;
      its_ending = ap (λ r. r.ending) again ∙ f.ends_alike;
      its_next = λ yet. ap (λ r. r.next) again ∙ f.next_too yet;
      its_length = length_state f.registers f.frame ∙ ap (λ k. 20 + 4 * k) frame_length ∙ sym start_size;
    }
