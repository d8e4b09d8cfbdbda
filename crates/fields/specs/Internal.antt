-- What the private functions compute.
use Rattle.std.specs.Prelude.{ℕ, Bool, true, Option, Some, None}
use Rattle.source.specs.Program.{is_label}

abbrev pub good_jump : Option ℕ → Bool
good_jump (Some l) = is_label l
good_jump None = true
