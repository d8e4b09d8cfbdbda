use mathlib.Core.Path.{◌∙◌}
use borrow.Author.Rules.{rules}
use Rattle.std.proofs.lemmas.Iterator.Search.{all_from_yields_List}
use Rattle.std.proofs.lemmas.Iterator.{YieldsList-from_slice}
use Rattle.sheet_field.specs.Memory.{field_in}
use Rattle.fields.specs.Memory.{jump_of}
use Rattle.fields.specs.Internal.{good_jump}
use Rattle.fields.proofs.Testing.{jumps_each}
use Rattle.fields.proofs.good_jumps.Goals as goal

pub returns : goal.returns
returns c = all_from_yields_List (λ w. good_jump (jump_of (field_in w))) _ _ _ c.all.ensures.ran (YieldsList-from_slice c.args.fields.now cc) (λ x b q k. (search rules, search rules)) ∙ jumps_each _
