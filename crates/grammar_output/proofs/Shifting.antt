-- A field that is inserted among others: those from its place on move up by one.
use Prim.Native.Nat.{ℕ, suc, ◌+◌, ◌-◌, ◌<◌, ◌≤◌}
use mathlib.Core.Path.{◌≡◌, refl, sym, ap, ap₂, ◌∙◌}
use mathlib.Core.List.{List, [], ◌∷◌, ◌++◌, map}
use native.Mathlib.Omega.{arith}
use lib.ListN.{length, get_or, set, take, drop, drop_of_length-le}
use lib.Seq.{take_all, take_at, drop_at, take-suc, take-append_seam}
use borrow.Rule.Slice.PartMut.{put_mid, mid_of, same_len_mid}
use Rattle.std.proofs.lemmas.List.{drop-take, drop-append-le, length-take-le, length-drop, length-append, take-take, map-append, take-map, drop-map}
use Rattle.std.proofs.lemmas.Slice.{take-put_mid}
use Rattle.sheet.specs.declared.Field.{Field}
use Rattle.sheet_field.specs.Memory.{carried, field_word, field_in, fields_from}
use Rattle.sheet_field.proofs.Stored.{field_in_law, field_stored, fields_front}
use Rattle.grammar_output.specs.Internal.{insert_at}

pub insert_at_seam : (fs gs : List Field) (p : ℕ) (f : Field) → length fs ≡ p → insert_at p f (fs ++ gs) ≡ fs ++ f ∷ gs
unfolding insert_at
insert_at_seam fs gs p f e = rw (take_at fs gs p e, drop_at fs gs p e) refl

-- the words from place p on, up to place `out`
part_last : (p out : ℕ) (ws : List ℕ) → p ≤ out → out < length ws
    → mid_of p (out + 1 - p) ws ≡ drop p (take out ws) ++ (get_or ws out 0 ∷ [])
part_last p out ws h g =
    let many : p + (out + 1 - p) ≡ suc out = omega arith in
    sym (drop-take p (out + 1 - p) ws)
    ∙ ap (λ m. drop p (take m ws)) many
    ∙ ap (drop p) (take-suc ws out 0 g)
    ∙ drop-append-le p (take out ws) (get_or ws out 0 ∷ []) (rw (length-take-le out ws (omega arith)) h)

-- all of them gone through: w stands before the others, and the last is held
gone_through : (new xs : List ℕ) (i w held x : ℕ) → length new ≤ i → take i new ++ (held ∷ drop i new) ≡ w ∷ (xs ++ (x ∷ [])) → new ≡ w ∷ xs
gone_through new xs i w held x h e =
    let all : new ++ (held ∷ []) ≡ (w ∷ xs) ++ (x ∷ []) = rw (take_all i new h, drop_of_length-le new h) at e in
    let many : length (w ∷ xs) ≡ length new =
    omega (arith, sym (length-append new (held ∷ [])) ∙ ap length all ∙ length-append (w ∷ xs) (x ∷ [])) in
    sym (take-append_seam new (held ∷ [])) ∙ ap (take (length new)) all ∙ take_at (w ∷ xs) (x ∷ []) (length new) many

-- what the loop leaves where it began with the number of a field
pub inserted : (p out i w held : ℕ) (f : Field) (ws new : List ℕ) → (w ≡ field_word f) × (carried f < 4294967296)
    → (out < length ws) × (p ≤ out) → length new ≤ i → take i new ++ (held ∷ drop i new) ≡ w ∷ mid_of p (out + 1 - p) ws
    → fields_from 0 (out + 1) (put_mid p (out + 1 - p) ws new) ≡ insert_at p f (fields_from 0 out ws)
unfolding insert_at
inserted p out i w held f ws new packed room over e =
    let last = part_last p out ws room.1 room.0 in
    let part : new ≡ w ∷ drop p (take out ws) =
    gone_through new (drop p (take out ws)) i w held (get_or ws out 0) over (e ∙ ap (λ l. w ∷ l) last) in
    let under : length (drop p (take out ws)) ≡ out - p =
    length-drop p (take out ws) ∙ ap (λ m. m - p) (length-take-le out ws (omega arith)) in
    let many : length new ≡ out + 1 - p = omega (arith, ap length part, under) in
    let mid : length (mid_of p (out + 1 - p) ws) ≡ out + 1 - p =
    omega (arith, ap length last, length-append (drop p (take out ws)) (get_or ws out 0 ∷ []), under) in
    let all : length (put_mid p (out + 1 - p) ws new) ≡ length ws = same_len_mid p (out + 1 - p) ws new (many ∙ sym mid) in
    let words : take (out + 1) (put_mid p (out + 1 - p) ws new) ≡ take p ws ++ (w ∷ drop p (take out ws)) =
    take-put_mid p (out + 1 - p) ws new (out + 1) (omega arith) (omega arith) ∙ ap (λ l. take p ws ++ l) part in
    let old : fields_from 0 out ws ≡ map field_in (take out ws) = fields_front out ws (omega arith) in
    fields_front (out + 1) (put_mid p (out + 1 - p) ws new) (omega arith)
    ∙ ap (map field_in) words
    ∙ map-append field_in (take p ws) (w ∷ drop p (take out ws))
    ∙ ap₂ ◌++◌
    (sym (ap (take p) old ∙ take-map field_in p (take out ws) ∙ ap (map field_in) (take-take p out ws room.1)))
    (ap₂ ◌∷◌ (ap field_in packed.0 ∙ field_in_law f packed.1) (sym (ap (drop p) old ∙ drop-map field_in p (take out ws))))

-- a field that is put behind the others
pub put_behind : (out : ℕ) (f : Field) (ws : List ℕ) → carried f < 4294967296 → out < length ws
    → fields_from 0 (out + 1) (set ws out (field_word f)) ≡ fields_from 0 out ws ++ (f ∷ [])
put_behind out f ws small h =
    let e : 0 + out ≡ out = omega arith in
    rw e at (field_stored 0 out f ws small (omega arith))
