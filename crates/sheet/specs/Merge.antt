-- A condition, then another, joined by a word, 02, L5: "A sheet, by its definition, merges nested runs of the same joining word".
use Rattle.base.specs.Choice.{pick}
use Rattle.sheet.specs.declared.Joining.{Joining}
use Rattle.sheet.specs.Sheet.{Condition, compares, joins}
use Rattle.sheet.specs.Condition.{same_word}

-- the members of a run of that word come before the other
unfoldable pub join_of : Joining → Condition → Condition → Condition
join_of w (compares r x y) b = joins w (compares r x y) b
join_of w (joins u a c) b = pick (same_word w u) (joins w a (join_of w c b)) (joins w (joins u a c) b)
