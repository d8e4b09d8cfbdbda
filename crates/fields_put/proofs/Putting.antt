-- Fields put behind others.
use Prim.Native.Nat.{ℕ, ◌+◌, ◌-◌, ◌<◌, ◌≤◌}
use mathlib.Core.Path.{◌≡◌, refl, sym, ap, ap₂, ◌∙◌}
use mathlib.Core.Bool.{Bool, false}
use mathlib.Core.List.{List, [], ◌∷◌, ◌++◌, map, append-nil, append_assoc}
use native.Mathlib.Omega.{arith}
use native.Mathlib.Nat.{zero-add}
use borrow.Author.Tests.{le-leb, lt-leb}
use lib.Dec.{leb}
use lib.ListN.{length, get_or, take, length-map, length-set}
use Rattle.base.specs.Choice.{pick}
use Rattle.base.proofs.Cases.{by_less}
use Rattle.sheet.specs.declared.Field.{Field}
use Rattle.sheet_field.specs.Memory.{field_word, field_in, fields_at, fields_from}
use Rattle.sheet_field.proofs.Stored.{fields_parted, field_stored, fields_held}
use Rattle.fields_put.specs.Internal.{Puts}
use Rattle.fields.specs.Memory.{packed_field}
use Rattle.fields_put.specs.Answers.{fields, no_room, put_of, push_of}

-- ---- one field

pub puts_kept : {at : ℕ} {f : Field} {ws after : List ℕ} → Puts at f ws after → length after ≡ length ws
puts_kept {at} {f} {ws} p = ap length p.stored ∙ length-set ws at (field_word f)

-- behind n others
pub put_behind : {n : ℕ} {f : Field} {ws after : List ℕ} → Puts n f ws after → n < length ws
    → fields_from 0 (n + 1) after ≡ fields_from 0 n ws ++ (f ∷ [])
put_behind {n} {f} {ws} p h = rw p.stored (rw (zero-add n) at (field_stored 0 n f ws p.fits (omega arith)))

-- ---- the loop

map_more : (k : ℕ) (xs : List Field) (y : Field) → map (packed_field k) (xs ++ y ∷ []) ≡ map (packed_field k) xs ++ packed_field k y ∷ []
map_more k [] y = refl
map_more k (x ∷ xs) y = ap (λ l. packed_field k x ∷ l) (map_more k xs y)

one_more_law : (i : ℕ) (ws : List ℕ) → fields_from 0 (i + 1) ws ≡ fields_from 0 i ws ++ (field_in (get_or ws i 0) ∷ [])
unfolding fields_from
one_more_law i ws = rw (zero-add i) at (fields_parted 0 i 1 ws)

-- all that an array holds
take_all : {A : Type 0} (l : List A) → take (length l) l ≡ l
take_all [] = refl
take_all (a ∷ l) = ap (λ k. a ∷ k) (take_all l)

pub all_held : (ws : List ℕ) → fields_from 0 (length ws) ws ≡ fields_at 0 ws
all_held ws =
    fields_held 0 (length ws) ws (omega arith)
    ∙ ap (λ n. take n (fields_at 0 ws)) (sym (length-map ws field_in))
    ∙ take_all (fields_at 0 ws)

pub held_length : (ws : List ℕ) → length (fields_at 0 ws) ≡ length ws
held_length ws = length-map ws field_in

module _ (k : ℕ) (own : List ℕ) (at : ℕ) (ws : List ℕ) where
  -- the first i of them are put
  pub record Loop (i : ℕ) (now : List ℕ) : Type 0 where
    pub kept : length now ≡ length ws
    pub inside : i ≤ length own
    pub put : fields_from 0 (at + i) now ≡ fields_from 0 at ws ++ map (packed_field k) (fields_from 0 i own)

  pub loop_none : Loop 0 ws
  unfolding fields_from
  loop_none = record {
    kept = refl;
    inside = omega arith;
    put = let same : at + 0 ≡ at = omega arith in rw same (sym (append-nil (fields_from 0 at ws)));
  }

  module _ (room : at + length own ≤ length ws) (i : ℕ) (now : List ℕ) (p : Loop i now) where
    pub loop_more : i < length own → (f g : Field) → f ≡ field_in (get_or own i 0) → g ≡ packed_field k f → (after : List ℕ)
        → Puts (at + i) g now after → Loop (i + 1) after
    loop_more h f g is_field is_packed after put = record {
      kept = puts_kept put ∙ p.kept;
      inside = omega arith;
      put =
          let same : at + (i + 1) ≡ at + i + 1 = omega arith in
          ap (λ n. fields_from 0 n after) same
          ∙ put_behind put (omega (arith, p.kept))
          ∙ ap₂ (λ l x. l ++ (x ∷ []))
          p.put
          (is_packed ∙ ap (packed_field k) is_field)
          ∙ append_assoc (fields_from 0 at ws) (map (packed_field k) (fields_from 0 i own)) (packed_field k (field_in (get_or own i 0)) ∷ [])
          ∙ ap (λ l. fields_from 0 at ws ++ l)
          (sym (ap (map (packed_field k)) (one_more_law i own) ∙ map_more k (fields_from 0 i own) (field_in (get_or own i 0))));
    }

    pub loop_ends : length own ≤ i → fields (fields_from 0 (at + length own) now) ≡ put_of k (fields_at 0 own) at ws
    unfolding put_of pick
    loop_ends h =
        let same : i ≡ length own = omega (arith, p.inside) in
        let long = ap (λ n. at + n) (held_length own) in
        rw (long, le-leb (at + length own) (length ws) room) (ap fields (rw (same, all_held own) at p.put))

-- ---- any array

pub no_places : (room at n : ℕ) → room < n → false ≡ leb (at + n) room
no_places room at n h = sym (lt-leb (at + n) room (omega arith))

pub places_left : (room at n : ℕ) → n ≤ room → leb at (room - n) ≡ leb (at + n) room
places_left room at n h =
    by_less (room - n) at
    (λ less. lt-leb at (room - n) less ∙ sym (lt-leb (at + n) room (omega arith)))
    (λ more. le-leb at (room - n) more ∙ sym (le-leb (at + n) room (omega arith)))

module _ (k : ℕ) (fs : List Field) (at : ℕ) (ws : List ℕ) where
  -- with room for the fields
  pub put_fit : at + length fs ≤ length ws → put_of k fs at ws ≡ fields (fields_from 0 at ws ++ map (packed_field k) fs)
  unfolding put_of pick
  put_fit h = rw (le-leb (at + length fs) (length ws) h) refl

pub put_none : (k : ℕ) (own : List ℕ) (at : ℕ) (ws : List ℕ) {t : Bool} → t ≡ leb (at + length own) (length ws) → t ≡ false → no_room ≡ put_of k (fields_at 0 own) at ws
unfolding put_of pick
put_none k own at ws known e = rw (held_length own, sym known ∙ e) refl

module _ (f : Field) (at : ℕ) (ws : List ℕ) where
  pub push_none : length ws ≤ at → no_room ≡ push_of f at ws
  unfolding push_of pick
  push_none h = rw (le-leb (length ws) at h) refl

  -- with room for it
  pub push_fit : at < length ws → push_of f at ws ≡ fields (fields_from 0 at ws ++ (f ∷ []))
  unfolding push_of pick
  push_fit h = rw (lt-leb (length ws) at h) refl

  pub push_whole : at < length ws → (after : List ℕ) → Puts at f ws after
      → (fields (fields_from 0 (at + 1) after) ≡ push_of f at ws) × (length after ≡ length ws)
  push_whole h after p = (ap fields (put_behind p h) ∙ sym (push_fit h), puts_kept p)
