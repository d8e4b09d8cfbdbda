-- The fields that stand for the instruction of a statement, 02, L1: "In a sheet an IF line ends with its expressions; a line
-- `START`, the first part, where there is a second a line `ELSE` and that part, and a line `FINISH` follow, a lone u as a group of
-- one." Of `%IF c %THEN %START` they are those up to START.
use Rattle.std.specs.Prelude.{List, [], ◌∷◌, ◌++◌}
use Rattle.sheet.specs.declared.Field.{Field}
use Rattle.sheet.specs.declared.Field.TheVariants.{Else, Start, Finish, If}
use Rattle.sheet.specs.Fields.{simple_fields}
use Rattle.sheet.specs.Memory.{condition_fields}
use Rattle.source.specs.Grammar.{Instruction, simple, if_then, if_else, if_start}

abbrev pub instruction_fields : Instruction → List Field
instruction_fields (simple u) = simple_fields u
instruction_fields (if_then c u) = If ∷ (condition_fields c ++ (Start ∷ (simple_fields u ++ (Finish ∷ []))))
instruction_fields (if_else c u w) =
    If ∷ (condition_fields c ++ (Start ∷ (simple_fields u ++ (Else ∷ (simple_fields w ++ (Finish ∷ []))))))
instruction_fields (if_start c) = If ∷ (condition_fields c ++ (Start ∷ []))
