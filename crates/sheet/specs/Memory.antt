-- The fields of a sheet as the functions hand them on, one list for all of it. No text depends on this list. A run is told here field
-- by field: its word before the first member and the rest, and so on in the rest, so that each such field has two conditions behind
-- it. The number of its members is not told; 0 stands in its place.
use Rattle.std.specs.Prelude.{List, [], ◌∷◌, ◌++◌}
use Rattle.sheet.specs.declared.Field.{Field}
use Rattle.sheet.specs.declared.Field.TheVariants.{Else, Start, Finish, If, Compare, Run}
use Rattle.sheet.specs.Sheet.{Condition, compares, joins, Part, end, plain, when, either, Sheet, sheet}
use Rattle.sheet.specs.Fields.{expression_fields, simple_fields}

-- what is behind IF
unfoldable pub condition_fields : Condition → List Field
condition_fields (compares r a b) = Compare r ∷ (expression_fields a ++ expression_fields b)
condition_fields (joins w a b) = Run w 0 ∷ (condition_fields a ++ condition_fields b)

unfoldable pub part_fields : Part → List Field
part_fields end = []
part_fields (plain u l) = simple_fields u ++ part_fields l
part_fields (when c x l) = If ∷ (condition_fields c ++ (Start ∷ (part_fields x ++ (Finish ∷ part_fields l))))
part_fields (either c x y l) =
    If ∷ (condition_fields c ++ (Start ∷ (part_fields x ++ (Else ∷ (part_fields y ++ (Finish ∷ part_fields l))))))

abbrev pub sheet_fields : Sheet → List Field
sheet_fields (sheet v x) = part_fields x
