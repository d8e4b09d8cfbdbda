-- The choice by a test, which every definition by cases on numbers is written with.
use Rattle.std.specs.Prelude.{Bool, true, false}

-- the first where the test holds, else the second
unfoldable pub pick : {A : Type 0} → Bool → A → A → A
pick true yes_part no_part = yes_part
pick false yes_part no_part = no_part
