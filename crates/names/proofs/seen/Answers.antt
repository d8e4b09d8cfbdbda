use mathlib.Core.Path.{ap, ◌∙◌}
use Rattle.source.specs.Memory.{token_of}
use Rattle.source.specs.Program.{word_of}
use Rattle.names.proofs.Lookups.{seen_token, seen_name}
use Rattle.names.proofs.seen.Goals as goal

pub returns-then-kind-ne0 : goal.returns-then-kind-ne0
returns-then-kind-ne0 c = let a = c.args in λ ns filled held. seen_token ns a.cells.now a.kind a.value c.if-kind-ne0.true

pub returns : goal.returns
returns c = let a = c.args in λ ns filled held. ap (token_of a.kind) (c.word_of.ensures ns filled held ∙ ap (word_of ns) c.part-name.ensures) ∙ seen_name ns a.cells.now a.kind a.value c.if-kind-ne0.false
