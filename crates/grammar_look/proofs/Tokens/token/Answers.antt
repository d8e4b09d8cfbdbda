use mathlib.Core.Path.{refl, ap}
use Rattle.std.specs.Prelude.{Some}
use Rattle.grammar_look.proofs.Places.{ahead_more, ahead_none}
use Rattle.grammar_look.proofs.Tokens.token.Goals as goal

pub returns-then-at-self-clause-found : goal.returns-then-at-self-clause-found
returns-then-at-self-clause-found c = rw (ahead_more c.args.self.now _ c.if-at-self.true) (ap Some c.token_at.ensures)

pub returns-clause-found : goal.returns-clause-found
returns-clause-found c = rw (ahead_none c.args.self.now _ c.if-at-self.false) refl
