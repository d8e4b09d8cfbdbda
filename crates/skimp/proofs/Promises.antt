-- The promises of specs/Promises.antt, each proved.
use Prim.Native.Nat.{ℕ, ◌+◌, ◌/◌, ◌≤◌, ◌<◌}
use mathlib.Core.Path.{◌≡◌, refl, sym, ap, ◌∙◌}
use mathlib.Core.List.{List, [], ◌∷◌, ◌++◌}
use mathlib.Core.Logic.{inl, inr}
use native.Mathlib.Omega.{arith}
use lib.ListN.{length, take, drop}
use Rattle.base.proofs.Cases.{by_test, by_equal}
use Rattle.order.specs.declared.Order.{Order}
use Rattle.order.specs.Object.{Reading, object, refused, reading}
use Rattle.order.proofs.RoundTrip.{read_text, text_read, read_good}
use Rattle.order.proofs.Refusals.{refused_bounded}
use Rattle.machine.specs.declared.Registers.{Registers}
use Rattle.machine.specs.Machine.{Machine, machine, Run, ran, run}
use Rattle.machine.specs.Frame.{Ending}
use Rattle.machine.proofs.Steps.{ended_stays, fault_is_met}
use Rattle.machine.proofs.Resume.{within_budget}
use Rattle.machine.proofs.Frame.{ending_known}
use Rattle.sheet.specs.Sheet.{Sheet}
use Rattle.sheet.specs.Within.{Within}
use Rattle.sheet.specs.Fields.{sheet_text}
use Rattle.sheet.specs.Translation.{translation, object_text}
use Rattle.sheet.specs.Meaning.{after}
use Rattle.sheet.specs.Following.{start_run, steps_of, ending_of}
use Rattle.sheet.specs.ReadBack.{Given, given, none, untranslate, read_back}
use Rattle.sheet.proofs.Objects.{object_read, object_back, back_object, objects_tell}
use Rattle.sheet.proofs.Following.{following}
use Rattle.sheet.proofs.Endings.{never_ends, ends}
use Rattle.sheet.proofs.Temporaries.{temporaries_stored}
use Rattle.sheet_text.proofs.Determines.{text_determines}
use Rattle.source.specs.Source.{Answer, accepted, refusal, answer}
use Rattle.sheet.proofs.Worked.{worked_sheet as sheet_worked, worked_text, worked_object_law}
use Rattle.source.proofs.WithinLimits.{given_within}
use Rattle.source.proofs.Examples.{all_answered}
use Rattle.source.proofs.Places.{refusal_bounded}
use Rattle.skimp_state.specs.State.{registers_of, words_at}
use Rattle.call.specs.Reply.{reply, number_in, value_in, wrote, text_writing}
use Rattle.call.specs.Compile.{answer_call, compile_call}
use Rattle.call.specs.ReadingBack.{sheet_call, object_sheet_call, read_back_call}
use Rattle.call.specs.Run.{call, ran_call, state_fits, read_call, run_call}
use Rattle.call.proofs.Texts.{text_fits, text_short}
use Rattle.call.proofs.Worked.{worked_call}
use Rattle.call.proofs.Resume.{reply_in, state_in, output_in, fits_length, fits_registers, fitting, unfit, calls_resume}
use Rattle.skimp.specs.Promises.{RepliesTell, CompileRefuses, CompileTooShort, CompileNumbers, TemporariesAreUsed, ReadBackRefuses, RunRefuses, RunRefusesState, CompileKeeps, ReadBackKeeps, RunKeeps}
use Rattle.skimp.specs.Promises.{RunNumber, out_of_budget, faulted, stopped, refuses, RunNumbers, Accepted, CompileAccepts, CompileRefusesNoOther, start_call, RunFollows, RunEnds, RunGoesOn, RunHasEnd}
use Rattle.skimp.specs.Promises.{ObjectsFit, SheetsFit, WorkedCompiles, WorkedIsReadBack, WorkedRuns, EndedStays, FaultIsMet, TwoCallsAreOne, WrittenIsRead, ReadIsWritten, SheetGiven, ReadBackAccepts, ReadBackRefusesNoOther, NoSheet, ReadBackFindsNone, ReadBackTooShort}
use Rattle.skimp.specs.Promises.{ReadBackNumber, accepts, refuses_object, finds_none, too_short, ReadBackTells, ObjectsTell, CompiledIsReadBack, SourcesTell, CompiledBytesTell}
use Rattle.skimp.specs.Worked.{worked_source, worked_object}
use Rattle.skimp.proofs.Lengths.{object_few, sheet_few}
use Rattle.skimp.proofs.States.{state_again, ending_again}
use Rattle.skimp.proofs.Written.{reply_of, left_by, refused_number, refused_value, Told, whole, too_short as short_of, text_told, front_of}
use Rattle.skimp.proofs.Starts.{start_is, runs_to}

-- ---- replies

pub replies_tell : RepliesTell
replies_tell n v h = (refused_number n v (reply n v) h refl, refused_value n v (reply n v) h refl)

-- ---- compile

module _ (source buffer : List ℕ) where
  answered : (a : Answer) → answer source ≡ a → compile_call source buffer ≡ answer_call a buffer
  unfolding compile_call
  answered a e = ap (λ x. answer_call x buffer) e

  object_small : (s : Sheet) → answer source ≡ accepted s → length (object_text s) < 4294967296
  object_small s e = let few = object_few s (given_within source s e) in omega (arith, few)

pub compile_refuses : CompileRefuses
compile_refuses source buffer n place e =
    let known = refusal_bounded source n place e in
    (answered source buffer (refusal n place) e, known.0, known.1, known.2, omega (arith, known.3))

pub compile_too_short : CompileTooShort
compile_too_short source buffer s e h = answered source buffer (accepted s) e ∙ text_short 12 (object_text s) buffer h

pub compile_refuses_no_other : CompileRefusesNoOther
compile_refuses_no_other source buffer s e h = answered source buffer (accepted s) e ∙ text_fits 12 (object_text s) buffer h

compiled : (source buffer : List ℕ) (r : ℕ) (left : List ℕ) (s : Sheet) → answer source ≡ accepted s → compile_call source buffer ≡ wrote r left → Told 12 (object_text s) buffer r left
compiled source buffer r left s e c =
    text_told 12 (object_text s) buffer (object_small source buffer s e) r left (sym (answered source buffer (accepted s) e) ∙ c)

keeps_by : (source buffer : List ℕ) (r : ℕ) (left : List ℕ) (a : Answer) → answer source ≡ a → compile_call source buffer ≡ wrote r left → (number_in r ≡ 0 → ⊥) → left ≡ buffer
keeps_by source buffer r left (refusal n place) e c not_so = sym (ap left_by (sym (answered source buffer (refusal n place) e) ∙ c))
keeps_by source buffer r left (accepted s) e c not_so = of_told (compiled source buffer r left s e c)
  where
    of_told : Told 12 (object_text s) buffer r left → left ≡ buffer
    of_told (whole z w) = absurd (not_so z)
    of_told (short_of k) = k.kept

pub compile_keeps : CompileKeeps
compile_keeps source buffer r left c not_so = keeps_by source buffer r left (answer source) refl c not_so

accepts_by : (source buffer : List ℕ) (r : ℕ) (left : List ℕ) (a : Answer) → answer source ≡ a → compile_call source buffer ≡ wrote r left → number_in r ≡ 0 → Accepted source buffer r left
accepts_by source buffer r left (refusal n place) e c taken =
    let known = refusal_bounded source n place e in
    let told = refused_number n place r (omega (arith, known.3)) (ap reply_of (sym (answered source buffer (refusal n place) e) ∙ c)) in
    absurd (omega (arith, taken, told, known.0))
accepts_by source buffer r left (accepted s) e c taken = of_told (compiled source buffer r left s e c)
  where
    of_told : Told 12 (object_text s) buffer r left → Accepted source buffer r left
    of_told (whole z w) = record { its_sheet = s; of_source = e; within = given_within source s e; fits = w.fits; length_given = w.length_given; bytes = w.bytes }
    of_told (short_of k) = absurd (omega (arith, taken, k.number))

pub compile_accepts : CompileAccepts
compile_accepts source buffer r left c taken = accepts_by source buffer r left (answer source) refl c taken

numbers_by : (source buffer : List ℕ) (r : ℕ) (left : List ℕ) (a : Answer) → answer source ≡ a → compile_call source buffer ≡ wrote r left → number_in r ≤ 13
numbers_by source buffer r left (refusal n place) e c =
    let known = refusal_bounded source n place e in
    let told = refused_number n place r (omega (arith, known.3)) (ap reply_of (sym (answered source buffer (refusal n place) e) ∙ c)) in
    omega (arith, told, known.1)
numbers_by source buffer r left (accepted s) e c = of_told (compiled source buffer r left s e c)
  where
    of_told : Told 12 (object_text s) buffer r left → number_in r ≤ 13
    of_told (whole z w) = omega (arith, z)
    of_told (short_of k) = omega (arith, k.number)

pub compile_numbers : CompileNumbers
compile_numbers source buffer r left c = numbers_by source buffer r left (answer source) refl c

-- ---- run: refusals and replies

read_as : (object_text_law state output : List ℕ) (budget : ℕ) (x : Reading) → reading object_text_law ≡ x → run_call object_text_law state output budget ≡ read_call x state output budget
unfolding run_call
read_as object_text_law state output budget x e = ap (λ y. read_call y state output budget) e

pub run_refuses : RunRefuses
run_refuses object_text_law state output budget n place e =
    let known = refused_bounded object_text_law n place e in
    (read_as object_text_law state output budget (refused n place) e, known.0, known.1, omega (arith, known.2))

pub run_refuses_state : RunRefusesState
run_refuses_state object_text_law state output budget v t os e not_so =
    read_as object_text_law state output budget (object v t os) e ∙ unfit (v + t + 2) (length os) os state output budget not_so

-- what a call of run came to: a refusal that keeps every byte, or a run
pub data Ran (state output : List ℕ) (budget r : ℕ) (s o : List ℕ) : Type 0 where
  refused_run : 21 ≤ number_in r → number_in r ≤ 26 → s ≡ state → o ≡ output → Ran state output budget r s o
  ran_on : Ending (number_in r) → value_in r ≤ budget → Ran state output budget r s o

module _ (object_text_law state output : List ℕ) (budget r : ℕ) (s o : List ℕ) (small : budget < 4294967296) where
  refused_ran : (n place : ℕ) → 21 ≤ n → n ≤ 26 → place < 4294967296 → call (reply n place) state output ≡ call r s o → Ran state output budget r s o
  refused_ran n place low high h e =
      let told = refused_number n place r h (ap reply_in e) in
      refused_run (omega (arith, low, told)) (omega (arith, high, told)) (sym (ap state_in e)) (sym (ap output_in e))

  run_ran :
      (os : List Order) (m : Machine) (y : Run)
      → run os budget m ≡ y
      → ((k : ℕ) (q : Registers) (vs left : List ℕ) → y ≡ ran k (machine q vs left) → Ending q.ending)
      → ran_call y ≡ call r s o
      → Ran state output budget r s o
  run_ran os m (ran k (machine q vs left)) e known c =
      let few = within_budget os budget m k (machine q vs left) e in
      let number = refused_number q.ending k r (omega (arith, few, small)) (ap reply_in c) in
      let value = refused_value q.ending k r (omega (arith, few, small)) (ap reply_in c) in
      ran_on (rw number (known k q vs left refl)) (omega (arith, value, few))

  ran_by : (x : Reading) → reading object_text_law ≡ x → read_call x state output budget ≡ call r s o → Ran state output budget r s o
  ran_by (refused n place) e c =
      let known = refused_bounded object_text_law n place e in
      refused_ran n place known.0 (omega (arith, known.1)) (omega (arith, known.2)) c
  ran_by (object v t os) e c =
      by_test (state_fits (v + t + 2) (length os) state output)
      (λ taken. run_ran os (machine (registers_of state) (words_at (v + t + 2) 20 state) output) _ refl
      (λ k q vs left f. ending_known os budget (registers_of state) (words_at (v + t + 2) 20 state) output k q vs left f (fits_registers (v + t + 2) (length os) state output taken).2)
      (sym (fitting (v + t + 2) (length os) os state output budget taken) ∙ c))
      (λ not_so. refused_ran 26 0 (omega arith) (omega arith) (omega arith) (sym (unfit (v + t + 2) (length os) os state output budget not_so) ∙ c))

  ran_so : run_call object_text_law state output budget ≡ call r s o → Ran state output budget r s o
  ran_so c = ran_by (reading object_text_law) refl (sym (read_as object_text_law state output budget (reading object_text_law) refl) ∙ c)

pub run_keeps : RunKeeps
run_keeps object_text_law state output budget r s o small c high = of_ran (ran_so object_text_law state output budget r s o small c)
  where
    of_ran : Ran state output budget r s o → (s ≡ state) × (o ≡ output)
    of_ran (refused_run low few a b) = (a, b)
    of_ran (ran_on (inl k) few) = absurd (omega (arith, k, high))
    of_ran (ran_on (inr k) few) = absurd (omega (arith, k, high))

pub run_numbers : RunNumbers
run_numbers object_text_law state output budget r s o small c = of_ran (ran_so object_text_law state output budget r s o small c)
  where
    of_ran : Ran state output budget r s o → RunNumber budget r
    of_ran (refused_run low few a b) = refuses low few
    of_ran (ran_on (inr k) few) = stopped k few
    of_ran (ran_on (inl k) few) = by_equal (number_in r) 0 (λ z. out_of_budget z few) (λ z. faulted (omega (arith, z)) k few)

-- ---- the run of a source's object

pub run_follows : RunFollows
run_follows source s e output room k fits =
    let w = given_within source s e in
    runs_to s w output room (after k (length output / 4) s) (following s w output k) fits

pub run_ends : RunEnds
run_ends source s e output k over budget h =
    let w = given_within source s e in
    start_is s w output budget
    ∙ ap ran_call ((following s w output k).ended over budget h)
    ∙ sym (start_is s w output (after k (length output / 4) s).count)

-- the reply of a run from the start
replied : (y : Run) (budget r : ℕ) (state left : List ℕ) → steps_of y ≤ budget → budget < 4294967296 → ran_call y ≡ call r state left → (number_in r ≡ ending_of y) × (value_in r ≡ steps_of y)
replied (ran k (machine q vs out)) budget r state left few small c =
    (refused_number q.ending k r (omega (arith, few, small)) (ap reply_in c), refused_value q.ending k r (omega (arith, few, small)) (ap reply_in c))

steps_within : (s : Sheet) (output : List ℕ) (budget : ℕ) → steps_of (start_run s output budget) ≤ budget
steps_within s output budget = of_run (start_run s output budget) refl
  where
    of_run : (y : Run) → start_run s output budget ≡ y → steps_of y ≤ budget
    of_run (ran k m) e = within_budget (translation s) budget _ k m e

start_replied : (source : List ℕ) (s : Sheet) → answer source ≡ accepted s → (output : List ℕ) (budget : ℕ) → budget < 4294967296 → (r : ℕ) (state left : List ℕ) → start_call s output budget ≡ call r state left
    → (number_in r ≡ ending_of (start_run s output budget)) × (value_in r ≡ steps_of (start_run s output budget))
start_replied source s e output budget small r state left c =
    replied (start_run s output budget) budget r state left (steps_within s output budget) small
    (sym (start_is s (given_within source s e) output budget) ∙ c)

pub run_goes_on : RunGoesOn
run_goes_on source s e output on budget small r state left c =
    let told = start_replied source s e output budget small r state left c in
    let used = never_ends s (given_within source s e) output on budget in
    (told.0 ∙ used.1, told.1 ∙ used.0)

pub run_has_end : RunHasEnd
run_has_end source s e output budget small r state left c not_so =
    let told = start_replied source s e output budget small r state left c in
    ends s (given_within source s e) output budget (λ z. not_so (told.0 ∙ z))

-- ---- runs

pub ended_state_stays : EndedStays
ended_state_stays object_text_law state output budget v t os small e taken over =
    read_as object_text_law state output budget (object v t os) e
    ∙ fitting (v + t + 2) (length os) os state output budget taken
    ∙ ap ran_call (ended_stays os (machine (registers_of state) (words_at (v + t + 2) 20 state) output) budget over)
    ∙ ap (λ l. call (reply (registers_of state).ending 0) l output) (state_again state small (v + t + 2) (fits_length (v + t + 2) (length os) state output taken))

pub fault_is_met_by_calls : FaultIsMet
fault_is_met_by_calls object_text_law state output budget v t n os small e taken yet fails =
    read_as object_text_law state output budget (object v t os) e
    ∙ fitting (v + t + 2) (length os) os state output budget taken
    ∙ ap ran_call (fault_is_met os (machine (registers_of state) (words_at (v + t + 2) 20 state) output) budget n yet fails)
    ∙ ap (λ l. call (reply n 0) l output) (ending_again state small (v + t + 2) (fits_length (v + t + 2) (length os) state output taken) n)

pub two_calls_are_one : TwoCallsAreOne
two_calls_are_one object_text_law state output a b small room fits r₁ s₁ o₁ r₂ s₂ o₂ e f = calls_resume object_text_law state output a b small room fits r₁ s₁ o₁ r₂ s₂ o₂ e f

-- ---- object object-text

pub written_is_read : WrittenIsRead
written_is_read v t os g = read_text v t os g

pub read_is_written : ReadIsWritten
read_is_written l v t os e = (text_read l v t os e, read_good l v t os e)

-- ---- read-back

not_given : {P : Type 0} (s : Sheet) → given s ≡ none → P
not_given s e = let z : ◌≡◌ {A = ℕ} 0 1 = cc in absurd (omega (arith, z))

module _ (object_text_law buffer : List ℕ) where
  read_back_as : (x : Reading) → reading object_text_law ≡ x → read_back_call object_text_law buffer ≡ object_sheet_call x buffer
  unfolding read_back_call
  read_back_as x e = ap (λ y. object_sheet_call y buffer) e

  -- what read-back finds: a refusal, not_so sheet, or the sheet
  found_none : (v t : ℕ) (os : List Order) → reading object_text_law ≡ object v t os → untranslate v t os ≡ none → (read_back_call object_text_law buffer ≡ wrote (reply 31 0) buffer) × NoSheet object_text_law
  found_none v t os e n = (
    read_back_as (object v t os) e ∙ ap (λ g. sheet_call g buffer) n,
    λ s w same. let z = sym (object_back s w) ∙ ap (λ l. read_back (reading l)) same ∙ ap read_back e ∙ n in not_given s z,
  )

  found_sheet : (v t : ℕ) (os : List Order) (s : Sheet) → reading object_text_law ≡ object v t os → untranslate v t os ≡ given s → (read_back_call object_text_law buffer ≡ text_writing 32 (sheet_text s) buffer) × Within s × (object_text s ≡ object_text_law)
  found_sheet v t os s e g =
      let back = back_object object_text_law s (ap read_back e ∙ g) in
      (read_back_as (object v t os) e ∙ ap (λ x. sheet_call x buffer) g, back.0, back.1)

pub read_back_refuses : ReadBackRefuses
read_back_refuses object_text_law buffer n place e =
    let known = refused_bounded object_text_law n place e in
    (read_back_as object_text_law buffer (refused n place) e, known.0, known.1, omega (arith, known.2))

-- of the object of a sheet
sheet_read_back : (s : Sheet) (buffer : List ℕ) → Within s → read_back_call (object_text s) buffer ≡ text_writing 32 (sheet_text s) buffer
sheet_read_back s buffer w =
    read_back_as (object_text s) buffer _ (object_read s w)
    ∙ ap (λ g. sheet_call g buffer) (sym (ap read_back (object_read s w)) ∙ object_back s w)

pub read_back_refuses_no_other : ReadBackRefusesNoOther
read_back_refuses_no_other s buffer w h = sheet_read_back s buffer w ∙ text_fits 32 (sheet_text s) buffer h

pub read_back_too_short : ReadBackTooShort
read_back_too_short s buffer w h = sheet_read_back s buffer w ∙ text_short 32 (sheet_text s) buffer h

pub read_back_finds_none : ReadBackFindsNone
read_back_finds_none object_text_law buffer v t os e not_so = of_given (untranslate v t os) refl
  where
    of_given : (g : Given) → untranslate v t os ≡ g → read_back_call object_text_law buffer ≡ wrote (reply 31 0) buffer
    of_given none n = (found_none object_text_law buffer v t os e n).0
    of_given (given s) n = let all = found_sheet object_text_law buffer v t os s e n in absurd (not_so s all.1 all.2)

-- what a call of read-back came to
pub data Back (object_text_law buffer : List ℕ) (r : ℕ) (left : List ℕ) : Type 0 where
  refused_back : reading object_text_law ≡ refused (number_in r) (value_in r) → 21 ≤ number_in r → left ≡ buffer → Back object_text_law buffer r left
  none_back : number_in r ≡ 31 → value_in r ≡ 0 → (v t : ℕ) (os : List Order) → reading object_text_law ≡ object v t os → NoSheet object_text_law → left ≡ buffer → Back object_text_law buffer r left
  sheet_back : (s : Sheet) → Within s → object_text s ≡ object_text_law → Told 32 (sheet_text s) buffer r left → Back object_text_law buffer r left

module _ (object_text_law buffer : List ℕ) (r : ℕ) (left : List ℕ) (c : read_back_call object_text_law buffer ≡ wrote r left) where
  back_given : (v t : ℕ) (os : List Order) → reading object_text_law ≡ object v t os → (g : Given) → untranslate v t os ≡ g → Back object_text_law buffer r left
  back_given v t os e none n =
      let all = found_none object_text_law buffer v t os e n in
      let same = sym all.0 ∙ c in
      none_back (refused_number 31 0 r (omega arith) (ap reply_of same)) (refused_value 31 0 r (omega arith) (ap reply_of same)) v t os e all.1 (sym (ap left_by same))
  back_given v t os e (given s) n =
      let all = found_sheet object_text_law buffer v t os s e n in
      let few = sheet_few s all.1 in
      sheet_back s all.1 all.2 (text_told 32 (sheet_text s) buffer (omega (arith, few)) r left (sym all.0 ∙ c))

  back_by : (x : Reading) → reading object_text_law ≡ x → Back object_text_law buffer r left
  back_by (refused n place) e =
      let known = refused_bounded object_text_law n place e in
      let same = sym (read_back_as object_text_law buffer (refused n place) e) ∙ c in
      let number = refused_number n place r (omega (arith, known.2)) (ap reply_of same) in
      let value = refused_value n place r (omega (arith, known.2)) (ap reply_of same) in
      refused_back (rw (number, value) e) (omega (arith, number, known.0)) (sym (ap left_by same))
  back_by (object v t os) e = back_given v t os e (untranslate v t os) refl

  back_so : Back object_text_law buffer r left
  back_so = back_by (reading object_text_law) refl

pub read_back_keeps : ReadBackKeeps
read_back_keeps object_text_law buffer r left c not_so = of_back (back_so object_text_law buffer r left c)
  where
    of_told : (s : Sheet) → Told 32 (sheet_text s) buffer r left → left ≡ buffer
    of_told s (whole z w) = absurd (not_so z)
    of_told s (short_of k) = k.kept

    of_back : Back object_text_law buffer r left → left ≡ buffer
    of_back (refused_back e low kept) = kept
    of_back (none_back n z v t os e none_so kept) = kept
    of_back (sheet_back s w same told) = of_told s told

pub read_back_accepts : ReadBackAccepts
read_back_accepts object_text_law buffer r left c taken = of_back (back_so object_text_law buffer r left c)
  where
    of_told : (s : Sheet) → Within s → object_text s ≡ object_text_law → Told 32 (sheet_text s) buffer r left → SheetGiven object_text_law buffer r left
    of_told s w same (whole z a) = record { its_sheet = s; within = w; translates = same; fits = a.fits; length_given = a.length_given; bytes = a.bytes }
    of_told s w same (short_of k) = absurd (omega (arith, taken, k.number))

    of_back : Back object_text_law buffer r left → SheetGiven object_text_law buffer r left
    of_back (refused_back e low kept) = absurd (omega (arith, taken, low))
    of_back (none_back n z v t os e none_so kept) = absurd (omega (arith, taken, n))
    of_back (sheet_back s w same told) = of_told s w same told

pub read_back_tells : ReadBackTells
read_back_tells object_text_law buffer r left c = of_back (back_so object_text_law buffer r left c)
  where
    of_told : (s : Sheet) → Within s → object_text s ≡ object_text_law → Told 32 (sheet_text s) buffer r left → ReadBackNumber object_text_law buffer r
    of_told s w same (whole z a) = accepts z
    of_told s w same (short_of k) = too_short k.number k.value s w same k.longer

    of_back : Back object_text_law buffer r left → ReadBackNumber object_text_law buffer r
    of_back (refused_back e low kept) = refuses_object e
    of_back (none_back n z v t os e none_so kept) = finds_none n z v t os e none_so
    of_back (sheet_back s w same told) = of_told s w same told

-- ---- equal objects, equal sheets

pub objects_tell_sheets : ObjectsTell
objects_tell_sheets s q w x =
    (λ e. objects_tell s q w x e, λ e. text_determines s q w x e, λ e. (ap object_text e, ap sheet_text e))

-- what compile wrote
object_of : (source buffer : List ℕ) (r : ℕ) (left : List ℕ) → compile_call source buffer ≡ wrote r left → number_in r ≡ 0 → (s : Sheet) → answer source ≡ accepted s → take (value_in r) left ≡ object_text s
object_of source buffer r left c taken s e = of_told (compiled source buffer r left s e c)
  where
    of_told : Told 12 (object_text s) buffer r left → take (value_in r) left ≡ object_text s
    of_told (whole z w) = front_of w
    of_told (short_of k) = absurd (omega (arith, taken, k.number))

pub compiled_is_read_back : CompiledIsReadBack
compiled_is_read_back source room r left c taken s e buffer =
    ap (λ l. read_back_call l buffer) (object_of source room r left c taken s e) ∙ sheet_read_back s buffer (given_within source s e)

pub sources_tell : SourcesTell
sources_tell a b s q e f = (λ same. objects_tell s q (given_within a s e) (given_within b q f) same, λ same. ap object_text same)

pub compiled_bytes_tell : CompiledBytesTell
compiled_bytes_tell a b buffer room r t left end c d taken zero_too s q e f = (
  λ same. (sources_tell a b s q e f).0 (sym (object_of a buffer r left c taken s e) ∙ same ∙ object_of b room t end d zero_too q f),
  λ same. object_of a buffer r left c taken s e ∙ ap object_text same ∙ sym (object_of b room t end d zero_too q f),
)

-- ---- rooms

pub temporaries_are_used : TemporariesAreUsed
temporaries_are_used s w = temporaries_stored s w.formed

pub objects_fit : ObjectsFit
objects_fit s w = object_few s w

pub sheets_fit : SheetsFit
sheets_fit s w = sheet_few s w

-- ---- one program whole

abbrev first_answer : List Answer → Answer
first_answer [] = refusal 0 0
first_answer (a ∷ l) = a

worked_answer : answer worked_source ≡ accepted sheet_worked
worked_answer = ap first_answer all_answered

worked_within : Within sheet_worked
worked_within = given_within worked_source sheet_worked worked_answer

object_worked : object_text sheet_worked ≡ worked_object
unfolding sheet_worked
object_worked = worked_object_law

pub worked_compiles : WorkedCompiles
worked_compiles buffer h =
    compile_refuses_no_other worked_source buffer sheet_worked worked_answer (rw object_worked h)
    ∙ ap (λ l. wrote (reply 0 (length l)) (l ++ drop (length l) buffer)) object_worked

pub worked_is_read_back : WorkedIsReadBack
worked_is_read_back buffer h =
    ap (λ l. read_back_call l buffer) (sym object_worked)
    ∙ read_back_refuses_no_other sheet_worked buffer worked_within (rw worked_text h)
    ∙ ap (λ l. wrote (reply 0 (length l)) (l ++ drop (length l) buffer)) worked_text

pub worked_runs : WorkedRuns
worked_runs = worked_call
