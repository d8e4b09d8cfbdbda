use native.Mathlib.Omega.{arith}
use Rattle.tokens_constant.proofs.Constants.{characters_first, word_fits, characters_turn, characters_closed, characters_none}
use Rattle.tokens_constant.proofs.Constants.{characters_unclosed, characters_many}
use Rattle.tokens_constant.proofs.quoted_from.Goals as goal

pub loop-count-init : goal.loop-count-init
loop-count-init c = characters_first _ _

pub overflow_mul-v : goal.overflow_mul-v
overflow_mul-v c =
    record { fits = omega (arith, word_fits _ _ _ _ _ c.loop-count.invariant c.loop-count-test.true) }

pub overflow_add-v : goal.overflow_add-v
overflow_add-v c =
    let is = (rw c.in-Some-Plain.field-0-is at c.in-Some-Plain.ensures) in record {
      fits = omega
          (arith, is.onward.1, word_fits _ _ _ _ _ c.loop-count.invariant c.loop-count-test.true);
    }

pub loop-count-preserved : goal.loop-count-preserved
loop-count-preserved c =
    characters_turn _ _ _ _ _ c.loop-count.invariant _ _ (rw c.in-Some-Plain.field-0-is at c.in-Some-Plain.ensures)

pub overflow_cast-result : goal.overflow_cast-result
overflow_cast-result c =
    record { fits = omega (arith, word_fits _ _ _ _ _ c.loop-count.invariant c.loop-count-test.true) }

pub returns-in-Some-Close : goal.returns-in-Some-Close
returns-in-Some-Close c =
    characters_closed _ _ _ _ _ c.loop-count.invariant _ (rw c.in-Some-Close.field-0-is at c.in-Some-Close.ensures)
    (λ e. omega arith) c.loop-count-test.true

pub returns-in_default : goal.returns-in_default
returns-in_default c =
    characters_none _ _ _ _ _ c.loop-count.invariant _ (rw c.in-Some-Close.field-0-is at c.in-Some-Close.ensures)
    (omega arith)

pub returns-in_default-2 : goal.returns-in_default-2
returns-in_default-2 c =
    characters_unclosed _ _ _ _ _ c.loop-count.invariant (rw c.in_default.is at c.character_at.ensures)

pub returns : goal.returns
returns c = characters_many _ _ _ _ _ c.loop-count.invariant c.loop-count-test.false
