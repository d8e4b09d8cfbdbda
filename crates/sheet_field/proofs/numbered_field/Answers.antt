use mathlib.Core.Path.{refl}
use Rattle.base.proofs.Arms.{none_of}
use Rattle.sheet_field.proofs.Numbering.{last_numbered}
use Rattle.sheet_field.proofs.numbered_field.Goals as goal

pub returns-in-2 : goal.returns-in-2
returns-in-2 c = rw c.in-2.is refl

pub returns-in_default : goal.returns-in_default
returns-in_default c = last_numbered _ _ (none_of 5 _ c.in_default.in_default-own.rest)
