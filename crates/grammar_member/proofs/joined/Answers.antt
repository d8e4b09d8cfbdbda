use native.Mathlib.Omega.{arith}
use Rattle.std.specs.Prelude.{Some}
use Rattle.grammar_member.proofs.Words.{last_by_within}
use Rattle.grammar_member.proofs.Levels.{word_turn}
use Rattle.grammar_member.proofs.joined.Goals as goal

pub insert-requires : goal.insert-requires
insert-requires c =
    let p = c.requires in (
      omega (arith, p.0.deeply.few, p.0.room, p.1),
      rw c.last_by.ensures (last_by_within (Some c.args.w) c.args.s p.0.deeply.begins p.0.ends),
    )

pub returns-clause-read : goal.returns-clause-read
returns-clause-read c =
    λ base all e r. c.member.ensures.read base all
    (word_turn _ _ _ _ _ _ _ _ _ _ e c.requires.1 (rw c.last_by.ensures at c.insert.ensures) r)
