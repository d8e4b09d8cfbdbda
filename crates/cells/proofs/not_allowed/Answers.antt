use Rattle.std.proofs.Common.{rules, tests, not, ◌∙◌}
use Rattle.std.proofs.lemmas.Iterator.{YieldsList-from_slice}
use Rattle.std.proofs.lemmas.Iterator.Search.{position_from_yields_List}
use Rattle.source.specs.Source.{is_allowed}
use Rattle.cells.proofs.Bytes.{first_offset}
use Rattle.cells.proofs.not_allowed.Goals as goal

pub returns : goal.returns
returns c =
    position_from_yields_List (λ b. not (is_allowed b)) _ _ c.position.result c.position.ensures.ran
    (YieldsList-from_slice _ c.iter.ensures.rest) (λ x b q k. search (rules, tests))
    ∙ first_offset c.args.source.now
