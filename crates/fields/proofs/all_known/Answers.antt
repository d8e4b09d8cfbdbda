use mathlib.Core.Path.{◌∙◌}
use borrow.Author.Rules.{rules}
use Rattle.std.proofs.lemmas.Iterator.Search.{all_from_yields_List}
use Rattle.std.proofs.lemmas.Iterator.{YieldsList-from_slice}
use Rattle.sheet_field.specs.Memory.{field_in}
use Rattle.fields.specs.Memory.{field_known}
use Rattle.fields.proofs.Testing.{known_each}
use Rattle.fields.proofs.all_known.Goals as goal

pub returns : goal.returns
returns c = all_from_yields_List (λ w. field_known (field_in w)) _ _ _ c.all.ensures.ran (YieldsList-from_slice c.args.fields.now cc) (λ x b q k. search rules) ∙ known_each _
