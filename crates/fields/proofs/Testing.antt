-- Tests of every field of an array.
use Prim.Native.Nat.{ℕ}
use mathlib.Core.Path.{◌≡◌, refl}
use mathlib.Core.List.{List, [], ◌∷◌, map}
use Rattle.std.specs.List.{list_all}
use Rattle.std.proofs.Common.{Option, Some, None, ◌&&◌}
use Rattle.base.specs.Choice.{pick}
use Rattle.base.proofs.Cases.{by_test}
use Rattle.sheet_field.specs.Memory.{field_in}
use Rattle.source.specs.Program.{is_label, all}
use Rattle.fields.specs.Internal.{good_jump}
use Rattle.fields.specs.Memory.{field_known, fields_known, jump_of, with_jump, field_jumps}

pub known_each : (ws : List ℕ) → list_all (λ w. field_known (field_in w)) ws ≡ fields_known (map field_in ws)
unfolding fields_known pick
known_each [] = refl
known_each (w ∷ ws) = by_test (field_known (field_in w)) (λ t. rw t (known_each ws)) (λ t. rw t refl)

pub jumps_each : (ws : List ℕ) → list_all (λ w. good_jump (jump_of (field_in w))) ws ≡ all is_label (field_jumps (map field_in ws))
unfolding field_jumps all pick
jumps_each [] = refl
jumps_each (w ∷ ws) = by_jump (jump_of (field_in w)) (jumps_each ws)
  where
    by_jump : (j : Option ℕ) → list_all (λ v. good_jump (jump_of (field_in v))) ws ≡ all is_label (field_jumps (map field_in ws))
        → (good_jump j && list_all (λ v. good_jump (jump_of (field_in v))) ws) ≡ all is_label (with_jump j (field_jumps (map field_in ws)))
    by_jump (Some l) e = by_test (is_label l) (λ t. rw t e) (λ t. rw t refl)
    by_jump None e = e
