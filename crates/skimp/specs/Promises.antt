-- The promises, from the bytes that are lent to the bytes that are left. Each definition is a proposition, and
-- proofs/Promises.antt proves it. The contracts in src/lib.rt say of each function that its reply and every lent byte
-- afterwards are those of `compile_call`, `read_back_call` and `run_call`, for all inputs; what follows says what these are.
-- Comments in quotes are the words of document 01 and of 02.
use Rattle.std.specs.Prelude.{ℕ, ◌+◌, ◌*◌, ◌/◌, ◌≤◌, ◌<◌, ◌≡◌, true, false, List, [], ◌∷◌, ◌++◌, length, take, drop, replicate}
use Rattle.std.proofs.lemmas.List.Edits.{sets}
use Rattle.order.specs.declared.Order.{Order}
use Rattle.order.specs.Limits.{most_orders}
use Rattle.order.specs.Object.{object, refused, text, reading}
use Rattle.order.specs.Good.{Good}
use Rattle.machine.specs.Machine.{machine, failed, next_effect}
use Rattle.machine.specs.Frame.{Bytes}
use Rattle.sheet.specs.Sheet.{Sheet, variables, instructions}
use Rattle.sheet.specs.Within.{Within}
use Rattle.sheet.specs.Fields.{sheet_text}
use Rattle.sheet.specs.Translation.{first_order, translation, sheet_temporaries, object_text}
use Rattle.sheet.specs.Temporaries.{largest_stored}
use Rattle.sheet.specs.Meaning.{Progress, after}
use Rattle.sheet.specs.Following.{sent_bytes, MeaningEnds, MeaningGoesOn}
use Rattle.source.specs.Source.{accepted, refusal, answer}
use Rattle.skimp_state.specs.State.{number_bytes, registers_of, words_at}
use Rattle.skimp.specs.Worked.{worked_source, worked_object, worked_sheet}
use Rattle.call.specs.Reply.{reply, number_in, value_in, wrote, text_writing}
use Rattle.call.specs.Compile.{compile_call}
use Rattle.call.specs.ReadingBack.{read_back_call}
use Rattle.call.specs.Run.{Call, call, state_fits, run_call, reply_of_both}

-- ======== Whatever bytes come in, each call returns with the number and the place that the rules fix, and a refusal changes
-- no lent byte.

-- the number and the value can be told from a reply
abbrev pub RepliesTell : Type 0
RepliesTell = (n v : ℕ) → v < 4294967296 → (number_in (reply n v) ≡ n) × (value_in (reply n v) ≡ v)

-- compile: 1 to 11 and 13, and their places, in the order of the checks
abbrev pub CompileRefuses : Type 0
CompileRefuses =
    (source buffer : List ℕ) (n place : ℕ)
    → answer source ≡ refusal n place
    → (compile_call source buffer ≡ wrote (reply n place) buffer) × (1 ≤ n) × (n ≤ 13) × (n ≡ 12 → ⊥) × (place < 4294967296)

-- 12 "object buffer too short, all else well"
abbrev pub CompileTooShort : Type 0
CompileTooShort =
    (source buffer : List ℕ) (s : Sheet)
    → answer source ≡ accepted s
    → length buffer < length (object_text s)
    → compile_call source buffer ≡ wrote (reply 12 0) buffer

-- no other number than these and 0
abbrev pub CompileNumbers : Type 0
CompileNumbers =
    (source buffer : List ℕ) (r : ℕ) (left : List ℕ) → compile_call source buffer ≡ wrote r left → number_in r ≤ 13

-- read-back: 21 to 25. "then 31, 32" are below, where sheets are promised
abbrev pub ReadBackRefuses : Type 0
ReadBackRefuses =
    (text buffer : List ℕ) (n place : ℕ)
    → reading text ≡ refused n place
    → (read_back_call text buffer ≡ wrote (reply n place) buffer) × (21 ≤ n) × (n ≤ 25) × (place < 4294967296)

-- "Run checks 21 to 25, never 31, then 26"
abbrev pub RunRefuses : Type 0
RunRefuses =
    (text state output : List ℕ) (budget n place : ℕ)
    → reading text ≡ refused n place
    → (run_call text state output budget ≡ call (reply n place) state output) × (21 ≤ n) × (n ≤ 25) × (place < 4294967296)

-- 26 "run: state does not fit the object"
abbrev pub RunRefusesState : Type 0
RunRefusesState =
    (text state output : List ℕ) (budget v t : ℕ) (os : List Order)
    → reading text ≡ object v t os
    → state_fits (v + t + 2) (length os) state output ≡ false
    → run_call text state output budget ≡ call (reply 26 0) state output

-- "Refused calls write nothing.": whatever the reply, if its number is not 0
abbrev pub CompileKeeps : Type 0
CompileKeeps =
    (source buffer : List ℕ) (r : ℕ) (left : List ℕ)
    → compile_call source buffer ≡ wrote r left
    → (number_in r ≡ 0 → ⊥)
    → left ≡ buffer

abbrev pub ReadBackKeeps : Type 0
ReadBackKeeps =
    (text buffer : List ℕ) (r : ℕ) (left : List ℕ)
    → read_back_call text buffer ≡ wrote r left
    → (number_in r ≡ 0 → ⊥)
    → left ≡ buffer

-- of run, if its number is 21 or more
abbrev pub RunKeeps : Type 0
RunKeeps =
    (text state output : List ℕ) (budget r : ℕ) (s o : List ℕ)
    → budget < 4294967296
    → run_call text state output budget ≡ call r s o
    → 21 ≤ number_in r
    → (s ≡ state) × (o ≡ output)

-- the numbers of run: 0 out of budget, 1 to 4 faulted, 20 stopped, with the steps, which are within the budget; or 21 to 26
pub data RunNumber (budget r : ℕ) : Type 0 where
  out_of_budget : number_in r ≡ 0 → value_in r ≤ budget → RunNumber budget r
  faulted : 1 ≤ number_in r → number_in r ≤ 4 → value_in r ≤ budget → RunNumber budget r
  stopped : number_in r ≡ 20 → value_in r ≤ budget → RunNumber budget r
  refuses : 21 ≤ number_in r → number_in r ≤ 26 → RunNumber budget r

abbrev pub RunNumbers : Type 0
RunNumbers =
    (text state output : List ℕ) (budget r : ℕ) (s o : List ℕ)
    → budget < 4294967296
    → run_call text state output budget ≡ call r s o
    → RunNumber budget r

-- ======== A program is accepted exactly when it is SKIMP within the limits and the buffer holds all of its object.

-- what an accepting call of compile has found and left
pub record Accepted (source buffer : List ℕ) (r : ℕ) (left : List ℕ) : Type 0 where
  -- the sheet of the source, "any such list with V up to .. whose translation has T up to .. and N up to .."
  pub its_sheet : Sheet
  pub of_source : answer source ≡ accepted its_sheet
  pub within : Within its_sheet
  -- "An accepted text fills the front of its buffer; the bytes behind stay."
  pub fits : length (object_text its_sheet) ≤ length buffer
  pub length_given : value_in r ≡ length (object_text its_sheet)
  pub bytes : left ≡ object_text its_sheet ++ drop (length (object_text its_sheet)) buffer

abbrev pub CompileAccepts : Type 0
CompileAccepts =
    (source buffer : List ℕ) (r : ℕ) (left : List ℕ)
    → compile_call source buffer ≡ wrote r left
    → number_in r ≡ 0
    → Accepted source buffer r left

-- and no source that has a sheet is refused, where the text fits
abbrev pub CompileRefusesNoOther : Type 0
CompileRefusesNoOther =
    (source buffer : List ℕ) (s : Sheet)
    → answer source ≡ accepted s
    → length (object_text s) ≤ length buffer
    → compile_call source buffer ≡ wrote (reply 0 (length (object_text s))) (object_text s ++ drop (length (object_text s)) buffer)

-- "T is the most that any statement uses": the largest temporary, counted from 1, that an order of the object stores to
abbrev pub TemporariesAreUsed : Type 0
TemporariesAreUsed = (s : Sheet) → Within s → largest_stored (variables s) (translation s) ≡ sheet_temporaries s

-- so many bytes hold every object, and every sheet: include/skimp.h names both
abbrev pub most_object_bytes : ℕ
most_object_bytes = 37 + 18 * most_orders

abbrev pub most_sheet_bytes : ℕ
most_sheet_bytes = 32 * most_orders

abbrev pub ObjectsFit : Type 0
ObjectsFit = (s : Sheet) → Within s → length (object_text s) ≤ most_object_bytes

abbrev pub SheetsFit : Type 0
SheetsFit = (s : Sheet) → Within s → length (sheet_text s) ≤ most_sheet_bytes

-- ======== Its object run does what the program means, step counts, endings and faults included.

-- a state of zero bytes for a sheet's object: "Words start at 0."
abbrev pub start_state : Sheet → List ℕ
start_state s = replicate (20 + 4 * (variables s + sheet_temporaries s + 2)) 0

abbrev pub start_call : Sheet → List ℕ → ℕ → Call
start_call s output budget = run_call (object_text s) (start_state s) output budget

-- the run call with p's count as budget is where the meaning is at p
pub record RunsTo (s : Sheet) (output : List ℕ) (p : Progress) : Type 0 where
  pub state : List ℕ
  -- "reports that count as its steps and has its .. numbers sent"; "other output bytes stay"
  pub called :
      start_call s output p.count
      ≡ call
      (reply p.ending p.count)
      state
      (sent_bytes p.store.sent ++ drop (length (sent_bytes p.store.sent)) output)
  -- its variables are words 2 to V+1 of the state, behind the two link words
  pub its_words : words_at (variables s + 2) 20 state ≡ p.store.words
  pub its_sent : (registers_of state).sent ≡ length p.store.sent
  pub its_ending : (registers_of state).ending ≡ p.ending
  -- before the end, the next order is the first of the next instruction, "or .. the order after the last instruction"
  pub its_next : p.ending ≡ 0 → (registers_of state).next ≡ first_order (variables s) (instructions s) p.next
  pub its_length : length state ≡ length (start_state s)

-- "For every k that it reaches, the run with the count of the first k instructions as budget, where it fits that type, reports
-- that count as its steps and has its variables and numbers sent."
abbrev pub RunFollows : Type 0
RunFollows =
    (source : List ℕ) (s : Sheet)
    → answer source ≡ accepted s
    → (output : List ℕ)
    → length output < 18446744073709551616
    → (k : ℕ)
    → (after k (length output / 4) s).count < 4294967296
    → RunsTo s output (after k (length output / 4) s)

-- where the meaning has ended, every larger budget gives the same call
abbrev pub RunEnds : Type 0
RunEnds =
    (source : List ℕ) (s : Sheet)
    → answer source ≡ accepted s
    → (output : List ℕ) (k : ℕ)
    → ((after k (length output / 4) s).ending ≡ 0 → ⊥)
    → (budget : ℕ)
    → (after k (length output / 4) s).count ≤ budget
    → start_call s output budget ≡ start_call s output (after k (length output / 4) s).count

-- a meaning that never ends uses up every budget
abbrev pub RunGoesOn : Type 0
RunGoesOn =
    (source : List ℕ) (s : Sheet)
    → answer source ≡ accepted s
    → (output : List ℕ)
    → MeaningGoesOn s output
    → (budget : ℕ)
    → budget < 4294967296
    → (r : ℕ) (state left : List ℕ)
    → start_call s output budget ≡ call r state left
    → (number_in r ≡ 0) × (value_in r ≡ budget)

-- and a run that ends has a k at which the meaning ends
abbrev pub RunHasEnd : Type 0
RunHasEnd =
    (source : List ℕ) (s : Sheet)
    → answer source ≡ accepted s
    → (output : List ℕ) (budget : ℕ)
    → budget < 4294967296
    → (r : ℕ) (state left : List ℕ)
    → start_call s output budget ≡ call r state left
    → (number_in r ≡ 0 → ⊥)
    → MeaningEnds s output

-- ======== Runs

-- "An ended state takes no step and reports its ending again.", and keeps every byte
abbrev pub EndedStays : Type 0
EndedStays =
    (text state output : List ℕ) (budget v t : ℕ) (os : List Order)
    → Bytes state
    → reading text ≡ object v t os
    → state_fits (v + t + 2) (length os) state output ≡ true
    → ((registers_of state).ending ≡ 0 → ⊥)
    → run_call text state output budget ≡ call (reply (registers_of state).ending 0) state output

-- "A fault is met even with no budget left", and "changes nothing but the ending": bytes 16 to 19 of the state
abbrev pub FaultIsMet : Type 0
FaultIsMet =
    (text state output : List ℕ) (budget v t n : ℕ) (os : List Order)
    → Bytes state
    → reading text ≡ object v t os
    → state_fits (v + t + 2) (length os) state output ≡ true
    → (registers_of state).ending ≡ 0
    → next_effect os (machine (registers_of state) (words_at (v + t + 2) 20 state) output) ≡ failed n
    → run_call text state output budget ≡ call (reply n 0) (sets state 16 (number_bytes 4 n)) output

-- "Running a then b more steps over one output equals running a+b, steps summed, where a+b fits the budget's type."
abbrev pub TwoCallsAreOne : Type 0
TwoCallsAreOne =
    (text state output : List ℕ) (a b : ℕ)
    → Bytes state
    → length output < 18446744073709551616
    → a + b < 4294967296
    → (r₁ : ℕ) (s₁ o₁ : List ℕ) (r₂ : ℕ) (s₂ o₂ : List ℕ)
    → run_call text state output a ≡ call r₁ s₁ o₁
    → run_call text s₁ o₁ b ≡ call r₂ s₂ o₂
    → run_call text state output (a + b) ≡ call (reply_of_both r₁ r₂) s₂ o₂

-- ======== Object text round-trips.

-- good orders that are written are read as they were
abbrev pub WrittenIsRead : Type 0
WrittenIsRead = (v t : ℕ) (os : List Order) → Good v t os → reading (text v t os) ≡ object v t os

-- a text that is accepted is written as it was, and its orders are good
abbrev pub ReadIsWritten : Type 0
ReadIsWritten =
    (l : List ℕ) (v t : ℕ) (os : List Order) → reading l ≡ object v t os → (text v t os ≡ l) × Good v t os

-- ======== From an object alone, read-back gives the one sheet that translates to it, and accepts exactly such objects.

-- what an accepting call of read-back has found and left
pub record SheetGiven (text buffer : List ℕ) (r : ℕ) (left : List ℕ) : Type 0 where
  pub its_sheet : Sheet
  pub within : Within its_sheet
  pub translates : object_text its_sheet ≡ text
  pub fits : length (sheet_text its_sheet) ≤ length buffer
  pub length_given : value_in r ≡ length (sheet_text its_sheet)
  pub bytes : left ≡ sheet_text its_sheet ++ drop (length (sheet_text its_sheet)) buffer

abbrev pub ReadBackAccepts : Type 0
ReadBackAccepts =
    (text buffer : List ℕ) (r : ℕ) (left : List ℕ)
    → read_back_call text buffer ≡ wrote r left
    → number_in r ≡ 0
    → SheetGiven text buffer r left

abbrev pub ReadBackRefusesNoOther : Type 0
ReadBackRefusesNoOther =
    (s : Sheet) (buffer : List ℕ)
    → Within s
    → length (sheet_text s) ≤ length buffer
    → read_back_call (object_text s) buffer ≡ wrote (reply 0 (length (sheet_text s))) (sheet_text s ++ drop (length (sheet_text s)) buffer)

-- 31 "good object, but no sheet translates to it": exactly then
abbrev pub NoSheet : List ℕ → Type 0
NoSheet text = (s : Sheet) → Within s → object_text s ≡ text → ⊥

abbrev pub ReadBackFindsNone : Type 0
ReadBackFindsNone =
    (text buffer : List ℕ) (v t : ℕ) (os : List Order)
    → reading text ≡ object v t os
    → NoSheet text
    → read_back_call text buffer ≡ wrote (reply 31 0) buffer

-- 32 "sheet buffer too short": exactly then
abbrev pub ReadBackTooShort : Type 0
ReadBackTooShort =
    (s : Sheet) (buffer : List ℕ)
    → Within s
    → length buffer < length (sheet_text s)
    → read_back_call (object_text s) buffer ≡ wrote (reply 32 0) buffer

-- and what each number of a reply tells
pub data ReadBackNumber (text buffer : List ℕ) (r : ℕ) : Type 0 where
  accepts : number_in r ≡ 0 → ReadBackNumber text buffer r
  refuses_object : reading text ≡ refused (number_in r) (value_in r) → ReadBackNumber text buffer r
  finds_none : number_in r ≡ 31 → value_in r ≡ 0 → (v t : ℕ) (os : List Order) → reading text ≡ object v t os → NoSheet text → ReadBackNumber text buffer r
  too_short : number_in r ≡ 32 → value_in r ≡ 0 → (s : Sheet) → Within s → object_text s ≡ text → length buffer < length (sheet_text s) → ReadBackNumber text buffer r

abbrev pub ReadBackTells : Type 0
ReadBackTells =
    (text buffer : List ℕ) (r : ℕ) (left : List ℕ)
    → read_back_call text buffer ≡ wrote r left
    → ReadBackNumber text buffer r

-- of sheets within the limits, equal objects, equal sheets and equal sheet texts are the same thing
abbrev pub ObjectsTell : Type 0
ObjectsTell =
    (s q : Sheet)
    → Within s
    → Within q
    → (object_text s ≡ object_text q → s ≡ q)
    × (sheet_text s ≡ sheet_text q → s ≡ q)
    × (s ≡ q → (object_text s ≡ object_text q) × (sheet_text s ≡ sheet_text q))

-- what compile wrote is read back as the source's own sheet, or 32
abbrev pub CompiledIsReadBack : Type 0
CompiledIsReadBack =
    (source object : List ℕ) (r : ℕ) (left : List ℕ)
    → compile_call source object ≡ wrote r left
    → number_in r ≡ 0
    → (s : Sheet)
    → answer source ≡ accepted s
    → (buffer : List ℕ)
    → read_back_call (take (value_in r) left) buffer ≡ text_writing 32 (sheet_text s) buffer

-- ======== Two sources have equal objects exactly when they have equal sheets.

abbrev pub SourcesTell : Type 0
SourcesTell =
    (a b : List ℕ) (s q : Sheet)
    → answer a ≡ accepted s
    → answer b ≡ accepted q
    → (object_text s ≡ object_text q → s ≡ q) × (s ≡ q → object_text s ≡ object_text q)

-- of the bytes that two accepting calls leave
abbrev pub CompiledBytesTell : Type 0
CompiledBytesTell =
    (a b buffer room : List ℕ) (r t : ℕ) (left end : List ℕ)
    → compile_call a buffer ≡ wrote r left
    → compile_call b room ≡ wrote t end
    → number_in r ≡ 0
    → number_in t ≡ 0
    → (s q : Sheet)
    → answer a ≡ accepted s
    → answer b ≡ accepted q
    → ((take (value_in r) left ≡ take (value_in t) end) → s ≡ q) × (s ≡ q → take (value_in r) left ≡ take (value_in t) end)

-- ======== "One program whole", as three calls; 02, L3: "the worked program now sends 5, then 3, in 20 steps."

abbrev pub WorkedCompiles : Type 0
WorkedCompiles =
    (buffer : List ℕ)
    → length worked_object ≤ length buffer
    → compile_call worked_source buffer ≡ wrote (reply 0 (length worked_object)) (worked_object ++ drop (length worked_object) buffer)

abbrev pub WorkedIsReadBack : Type 0
WorkedIsReadBack =
    (buffer : List ℕ)
    → length worked_sheet ≤ length buffer
    → read_back_call worked_object buffer ≡ wrote (reply 0 (length worked_sheet)) (worked_sheet ++ drop (length worked_sheet) buffer)

-- from a state of zero bytes, into an output of nine bytes that are all 255: A is 3, B is 5, the temporaries are 3 and -2
abbrev pub WorkedRuns : Type 0
WorkedRuns =
    run_call worked_object (replicate 44 0) (replicate 9 255) 1000
    ≡ call
    (reply 20 20)
    (0 ∷ 0 ∷ 0 ∷ 3 ∷ 0 ∷ 0 ∷ 0 ∷ 20 ∷ 0 ∷ 0 ∷ 0 ∷ 0 ∷ 0 ∷ 0 ∷ 0 ∷ 2 ∷ 0 ∷ 0 ∷ 0 ∷ 20
    ∷ 0 ∷ 0 ∷ 0 ∷ 0 ∷ 0 ∷ 0 ∷ 0 ∷ 0 ∷ 0 ∷ 0 ∷ 0 ∷ 3 ∷ 0 ∷ 0 ∷ 0 ∷ 5 ∷ 0 ∷ 0 ∷ 0 ∷ 3 ∷ 255 ∷ 255 ∷ 255 ∷ 254 ∷ [])
    (0 ∷ 0 ∷ 0 ∷ 5 ∷ 0 ∷ 0 ∷ 0 ∷ 3 ∷ 255 ∷ [])
