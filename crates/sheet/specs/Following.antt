-- What it is for a run of a sheet's translation to follow the sheet's meaning, document 01: "the run with the count of the
-- first k instructions as budget .. reports that count as its steps and has its variables and numbers sent".
use Rattle.std.specs.Prelude.{ℕ, ◌+◌, ◌/◌, ◌≤◌, ◌≡◌, List, [], ◌∷◌, ◌++◌, length, take, replicate}
use Rattle.std.proofs.lemmas.List.Edits.{sets}
use Rattle.machine.specs.declared.Registers.{Registers}
use Rattle.machine.specs.Machine.{machine, word_bytes, ending, Run, ran, run}
use Rattle.sheet.specs.Sheet.{Sheet, variables, instructions}
use Rattle.sheet.specs.Translation.{first_order, translation, sheet_temporaries}
use Rattle.sheet.specs.Meaning.{Progress, after}

-- a run from the start: the words of the frame and the registers are 0
abbrev pub start_run : Sheet → List ℕ → ℕ → Run
start_run s out budget =
    run
    (translation s)
    budget
    (machine
    (record { acc = 0; next = 0; sent = 0; ending = 0 })
    (replicate (variables s + sheet_temporaries s + 2) 0)
    out)

-- the bytes of the numbers sent
unfoldable pub sent_bytes : List ℕ → List ℕ
sent_bytes [] = []
sent_bytes (a ∷ more) = word_bytes a ++ sent_bytes more

-- the run from the start follows the meaning to p
pub record Follows (s : Sheet) (out : List ℕ) (p : Progress) : Type 0 where
  -- what the run leaves beside the output, which it has filled from its front with the numbers sent
  pub registers : Registers
  pub frame : List ℕ
  pub steps :
      start_run s out p.count ≡ ran p.count (machine registers frame (sets out 0 (sent_bytes p.store.sent)))
  pub variables_too : take (variables s + 2) frame ≡ p.store.words
  pub sent_too : registers.sent ≡ length p.store.sent
  pub ends_alike : registers.ending ≡ p.ending
  -- before the end the next order is the first of the next instruction, or "the order after the last instruction"
  pub next_too : p.ending ≡ 0 → registers.next ≡ first_order (variables s) (instructions s) p.next
  -- where it has ended, a larger budget changes nothing
  pub ended : (p.ending ≡ 0 → ⊥) → (b : ℕ) → p.count ≤ b → start_run s out b ≡ start_run s out p.count

-- ---- which runs end: "stopped, faulted with its number, or out of budget"

abbrev pub steps_of : Run → ℕ
steps_of (ran k m) = k

abbrev pub ending_of : Run → ℕ
ending_of (ran k m) = ending m

-- the run from the start with the budget b has stopped or faulted
abbrev pub Ends : Sheet → List ℕ → ℕ → Type 0
Ends s out b = ending_of (start_run s out b) ≡ 0 → ⊥

-- it is "out of budget": it took a step for each of the budget, and it has not ended
abbrev pub OutOfBudget : Sheet → List ℕ → ℕ → Type 0
OutOfBudget s out b = (steps_of (start_run s out b) ≡ b) × (ending_of (start_run s out b) ≡ 0)

-- the meaning has ended after some number of instructions
pub record MeaningEnds (s : Sheet) (out : List ℕ) : Type 0 where
  pub done : ℕ
  pub ended : (after done (length out / 4) s).ending ≡ 0 → ⊥

-- there is no such number
abbrev pub MeaningGoesOn : Sheet → List ℕ → Type 0
MeaningGoesOn s out = (k : ℕ) → (after k (length out / 4) s).ending ≡ 0
