-- A sheet that is given for a source is within the limits.
use Prim.Native.Nat.{ℕ, suc}
use mathlib.Core.Path.{◌≡◌, refl, subst}
use mathlib.Core.List.{List, []}
use lib.Dec.{ltb}
use lib.ListN.{length}
use Rattle.base.proofs.Cases.{either_part}
use Rattle.sheet.specs.Sheet.{Sheet}
use Rattle.sheet.specs.Within.{Within}
use Rattle.source.specs.declared.Mode.TheVariants.{Plain}
use Rattle.source.specs.Limits.{most_bytes}
use Rattle.source.specs.Cells.{Statements, ended, cut, ◌then◌, statements}
use Rattle.source.specs.Program.{Program, nothing_read, Outcome, refused, further, given, statement}
use Rattle.source.specs.Source.{Answer, accepted, refusal, answer, on_outcome, program, NotAllowed, offset, all_allowed, not_allowed, on_allowed}
use Rattle.source.proofs.SmallCells.{AllSmall, allowed_small, statements_small}
use Rattle.source.proofs.GoodProgram.{Good, nothing_good, OutcomeGood, statement_good}

abbrev AnswerWithin : Answer → Type 0
AnswerWithin (accepted s) = Within s
AnswerWithin (refusal n k) = Unit {0}

outcome_within : (o : Outcome) (rest : Program → Answer) → OutcomeGood o → ((q : Program) → Good q → AnswerWithin (rest q))
    → AnswerWithin (on_outcome o rest)
unfolding on_outcome
outcome_within (refused n k) rest h more = tt
outcome_within (further p) rest h more = more p h
outcome_within (given s) rest h more = h

program_within : (p : Program) (k : ℕ) (l : Statements) → Good p → AllSmall l → AnswerWithin (program p k l)
unfolding program
program_within p k ended g h = tt
program_within p k (cut n) g h = tt
program_within p k (cells then l) g h =
    outcome_within (statement p (suc k) cells) (λ q. program q (suc k) l) (statement_good p g (suc k) cells h.0)
    (λ q good. program_within q (suc k) l good h.1)

allowed_within : (source : List ℕ) (a : NotAllowed) → not_allowed 0 source ≡ a → AnswerWithin (on_allowed a source)
allowed_within source (offset i) e = tt
allowed_within source all_allowed e =
    program_within nothing_read 0 (statements source) nothing_good (statements_small Plain [] source tt (allowed_small 0 source e))

answer_within : (source : List ℕ) → AnswerWithin (answer source)
answer_within source =
    either_part AnswerWithin (ltb most_bytes (length source)) (refusal 1 0) (on_allowed (not_allowed 0 source) source)
    (λ y. tt)
    (λ n. allowed_within source (not_allowed 0 source) refl)

-- "A sheet is any such list with V up to .. whose translation has T up to .. and N up to ..": an accepted source's is one
pub given_within : (source : List ℕ) (s : Sheet) → answer source ≡ accepted s → Within s
given_within source s e = subst AnswerWithin e (answer_within source)
