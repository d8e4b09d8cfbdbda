use native.Mathlib.Omega.{arith}
use Rattle.front_end_statement.proofs.Forms.{short_tokens, few_letters, by_cells, not_lexed, long_unfit}
use Rattle.front_end_statement.proofs.statement.Goals as goal

pub returns-in-Ok : goal.returns-in-Ok
returns-in-Ok c = let a = c.args in
    let t = c.tokens in
    let z = c.in-Ok.is in
    record {
      short = λ few q h small room.
          let letters = few_letters a.s t.result _ _ _ _ t.ensures.read few (omega arith) (omega arith) _ z in
          by_cells a.s t.result _ _ _ _ t.ensures.read few (omega arith) (omega arith) q a.k _ z
          (rw (← c.part-cells.ensures) (c.on_tokens.ensures q h small (rw c.part-cells.ensures (omega (arith, room, letters)))));
      long = λ many. let few = short_tokens a.s t.result _ _ _ _ t.ensures.read _ z in absurd (omega (arith, many, few));
    }

pub returns-in-Err : goal.returns-in-Err
returns-in-Err c = let a = c.args in
    let t = c.tokens in
    record {
      short = λ few q h small room.
          rw c.placed.ensures (not_lexed a.s t.result _ _ _ _ t.ensures.read few (omega arith) (omega arith) q a.k _ c.in-Err.is);
      long = λ many. rw c.placed.ensures (long_unfit a.s t.result _ _ _ _ t.ensures.read a.k _ c.in-Err.is many);
    }
