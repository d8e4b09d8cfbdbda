-- What stands at a place of an array of fields.
use Prim.Native.Nat.{ℕ}
use mathlib.Core.Path.{◌≡◌, sym, ap, ◌∙◌}
use mathlib.Core.List.{List}
use lib.ListN.{length}
use Rattle.base.proofs.Cases.{by_less}
use Rattle.sheet_field.specs.Memory.{fields_at}
use Rattle.translate_expression.specs.Internal.{behind}
use Rattle.translate_expression.proofs.Turns.{fields_behind}
use Rattle.translate_condition.proofs.Looking.{fields_outside}
use Rattle.translate_size.specs.Internal.{Past}

pub past_fields : (fs : List ℕ) {at r : ℕ} → Past (length fs) at r → fields_at r fs ≡ behind (fields_at at fs)
past_fields fs {at} {r} p =
    by_less at (length fs)
    (λ h. ap (λ k. fields_at k fs) (p.inside h) ∙ fields_behind at fs)
    (λ h. ap (λ k. fields_at k fs) (p.outside h) ∙ fields_outside fs at h ∙ sym (ap behind (fields_outside fs at h)))
