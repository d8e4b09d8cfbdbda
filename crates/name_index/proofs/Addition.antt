-- A name added to those that stand in memory.
use Prim.Native.Nat.{ℕ, suc, ◌+◌, ◌-◌, ◌%◌, ◌<◌, ◌≤◌}
use mathlib.Core.Bool.{true, false}
use mathlib.Core.Path.{◌≡◌, refl, sym, ap, ap₂, ◌∙◌}
use mathlib.Core.List.{List, [], ◌∷◌, ◌++◌, append_assoc}
use native.Mathlib.Omega.{arith}
use borrow.Author.Tests.{lt-ltb, le-ltb, le-leb, lt-leb}
use lib.Dec.{ltb}
use lib.ListN.{length, get_or, take, drop, set, length-drop, length-append, take-append-drop, get_or-append}
use lib.Seq.{sets, take-length, sets-eq, length-sets, take_at, drop_at, take-append-le, drop-append-le, length-take-le, get_or-append_seam, take-set-le}
use borrow.Rule.Slice.PartMut.{put_mid}
use Rattle.std.proofs.lemmas.Slice.{put_mid-paste}
use Rattle.base.specs.Choice.{pick}
use Rattle.base.proofs.Cases.{by_test, by_less, by_equal}
use Rattle.source.specs.Limits.{most_bytes, most_cells}
use Rattle.source.specs.Memory.{name_rows, letters_in}
use Rattle.source.proofs.Letters.{letters_append}
use Rattle.std.specs.declared.cmp.Ordering.TheVariants.{Less}
use Rattle.name_index.specs.Order.{side_of}
use Rattle.name_index.specs.Memory.{row_with, begin_in, many_in, number_in, name_in, name_at, RowOf, Indexed, NamesHeld}
use Rattle.name_index.specs.Answers.{Fits, has_room}
use Rattle.name_index.specs.Internal.{Inserted}
use Rattle.name_index.proofs.Order.{after_before}

-- ---- no names

pub none_held : {letters index : List ℕ} → length letters ≡ most_bytes → length index ≡ name_rows → NamesHeld [] 0 0 letters index
unfolding letters_in
none_held whole rows_whole = record {
  counted = refl;
  lettered = refl;
  rows = λ i h. absurd (omega (arith, h));
  ordered = λ i j l h. absurd (omega (arith, h));
  indexed = λ k h. absurd (omega (arith, h));
  room_for_letters = whole;
  room_for_rows = rows_whole;
}

-- ---- room for a name

module _ {ns : List (List ℕ)} {v filled : ℕ} {letters index : List ℕ} (held : NamesHeld ns v filled letters index) (name : List ℕ) where
  abbrev its_count : v ≡ length ns
  its_count = held.counted

  abbrev its_letters : filled ≡ letters_in ns
  its_letters = held.lettered

  pub some_room : v < name_rows → filled + length name ≤ most_bytes → has_room ns name ≡ true
  unfolding pick
  some_room rows room =
      let c = its_count in
      let l = its_letters in
      rw (lt-ltb (length ns) name_rows (omega (arith, c, rows)), le-leb (letters_in ns + length name) most_bytes (omega (arith, l, room))) refl

  pub no_row : name_rows ≤ v → has_room ns name ≡ false
  unfolding pick
  no_row full = let c = its_count in rw (le-ltb (length ns) name_rows (omega (arith, c, full))) refl

  pub no_letters : most_bytes < filled + length name → has_room ns name ≡ false
  unfolding pick
  no_letters full =
      let l = its_letters in
      rw (lt-leb (letters_in ns + length name) most_bytes (omega (arith, l, full)))
      (by_test (ltb (length ns) name_rows) (λ t. rw t refl) (λ t. rw t refl))

-- ---- letters put behind others

-- a name copied into the part of a buffer that begins at a place
pub copied : (l n part : List ℕ) (at : ℕ) → at + length n ≤ length l → part ≡ n → put_mid at (at + length n - at) l part ≡ sets l at n
copied l n part at room e =
    put_mid-paste at (at + length n - at) l part n (length n) e (omega arith) refl
    ∙ rw (take-length n) (sym (sets-eq n l at room))

take_sets_before : (vs l : List ℕ) (i k : ℕ) → i ≤ k → take i (sets l k vs) ≡ take i l
take_sets_before [] l i k h = refl
take_sets_before (v ∷ vs) l i k h = take_sets_before vs (set l k v) i (suc k) (omega (arith, h)) ∙ take-set-le i l k v h

-- a part that ends before the end of a front
part_front : (p q : List ℕ) (a n : ℕ) → a + n ≤ length p → take n (drop a (p ++ q)) ≡ take n (drop a p)
part_front p q a n h =
    ap (take n) (drop-append-le a p q (omega (arith, h)))
    ∙ take-append-le n (drop a p) q (rw (length-drop a p) (omega (arith, h)))

part_before : (l : List ℕ) (i a n : ℕ) → i ≤ length l → a + n ≤ i → take n (drop a l) ≡ take n (drop a (take i l))
part_before l i a n h g =
    ap (λ s. take n (drop a s)) (sym (take-append-drop i l))
    ∙ part_front (take i l) (drop i l) a n (rw (length-take-le i l h) g)

module _ (letters : List ℕ) (filled : ℕ) (name : List ℕ) (room : filled + length name ≤ length letters) where
  abbrev stored : List ℕ
  stored = sets letters filled name

  stored_here : take (length name) (drop filled stored) ≡ name
  stored_here =
      ap (λ s. take (length name) (drop filled s)) (sets-eq name letters filled room ∙ append_assoc (take filled letters) name _)
      ∙ ap (take (length name)) (drop_at (take filled letters) (name ++ drop (filled + length name) letters) filled (length-take-le filled letters (omega (arith, room))))
      ∙ take_at name (drop (filled + length name) letters) (length name) refl

  -- names before it stay
  stored_before : (a n : ℕ) → a + n ≤ filled → take n (drop a stored) ≡ take n (drop a letters)
  stored_before a n h =
      part_before stored filled a n (rw (length-sets letters filled name) (omega (arith, room))) h
      ∙ ap (λ s. take n (drop a s)) (take_sets_before name letters filled filled (omega arith))
      ∙ sym (part_before letters filled a n (omega (arith, room)) h)

-- ---- one name more

letters_one : (n : List ℕ) → length n ≡ letters_in (n ∷ [])
unfolding letters_in
letters_one n = omega arith

module _ {ns : List (List ℕ)} {v filled place : ℕ} {letters index after name : List ℕ} (held : NamesHeld ns v filled letters index)
    (fits : Fits name letters index v place) (short : length name < most_cells) (rows : v < name_rows) (room : filled + length name ≤ most_bytes)
    (inserted : Inserted v place (row_with filled (length name % most_cells) v) index after) (kept : length after ≡ length index) where
  abbrev all : List (List ℕ)
  all = ns ++ name ∷ []

  abbrev row : ℕ
  row = row_with filled (length name % most_cells) v

  abbrev whole : filled + length name ≤ length letters
  whole = rw held.room_for_letters room

  more : length all ≡ v + 1
  more = length-append ns (name ∷ []) ∙ ap (λ n. n + 1) (sym held.counted)

  its_length : many_in row ≡ length name
  its_length = omega (arith, short, rows)

  its_start : begin_in row ≡ filled
  its_start = omega (arith, short, rows)

  new_name : name_in (stored letters filled name whole) row ≡ name
  new_name = ap₂ (λ n at. take n (drop at (stored letters filled name whole))) its_length its_start ∙ stored_here letters filled name whole

  new_row : RowOf all (filled + length name) (stored letters filled name whole) row
  new_row =
      let m = more in
      let a : number_in row ≡ v = omega (arith, rows) in
      record {
        numbered = omega (arith, a, m);
        named = new_name ∙ sym (ap (λ k. get_or all k []) (a ∙ held.counted) ∙ get_or-append_seam ns name [] []);
        inside = let b = its_length in let d = its_start in omega (arith, b, d);
      }

  module _ (e : ℕ) (r : RowOf ns filled letters e) where
    old_name : name_in (stored letters filled name whole) e ≡ name_in letters e
    old_name = stored_before letters filled name whole (begin_in e) (many_in e) r.inside

    old_row : RowOf all (filled + length name) (stored letters filled name whole) e
    old_row =
        let m = more in
        let c = held.counted in
        record {
          numbered = omega (arith, r.numbered, m, c);
          named = old_name ∙ r.named ∙ sym (get_or-append ns (name ∷ []) [] (number_in e) r.numbered);
          inside = omega (arith, r.inside);
        }

  -- what stands at each place then
  by_place : (P : ℕ → Type 0) (i : ℕ) → i < v + 1 → ((j : ℕ) → j < place → j < v → P (get_or index j 0)) → P row
      → ((j : ℕ) → place ≤ j → j < v → P (get_or index j 0)) → P (get_or after i 0)
  by_place P i h before here_too behind =
      let p = fits.inside in
      by_less i place
      (λ l. rw (inserted.before i l) (before i l (omega (arith, l, p))))
      (λ l. by_equal i place
      (λ e. rw (e, inserted.here) here_too)
      (λ n. rw (inserted.behind i (omega (arith, l, n)) (omega (arith, h))) (behind (i - 1) (omega (arith, l, n)) (omega (arith, h, l, n)))))

  rows_then : (i : ℕ) → i < v + 1 → RowOf all (filled + length name) (stored letters filled name whole) (get_or after i 0)
  rows_then i h =
      by_place (RowOf all (filled + length name) (stored letters filled name whole)) i h
      (λ j a b. old_row (get_or index j 0) (held.rows j b)) new_row (λ j a b. old_row (get_or index j 0) (held.rows j b))

  module _ (i : ℕ) where
    name_before : i < place → name_at (stored letters filled name whole) after i ≡ name_at letters index i
    name_before h = let p = fits.inside in ap (name_in (stored letters filled name whole)) (inserted.before i h) ∙ old_name (get_or index i 0) (held.rows i (omega (arith, h, p)))

    name_here : i ≡ place → name_at (stored letters filled name whole) after i ≡ name
    name_here e = ap (name_in (stored letters filled name whole)) (ap (λ k. get_or after k 0) e ∙ inserted.here) ∙ new_name

    name_behind : place < i → i ≤ v → name_at (stored letters filled name whole) after i ≡ name_at letters index (i - 1)
    name_behind h g = ap (name_in (stored letters filled name whole)) (inserted.behind i h g) ∙ old_name (get_or index (i - 1) 0) (held.rows (i - 1) (omega (arith, h, g)))

  ordered_then : (i j : ℕ) → i < j → j < v + 1 → side_of (name_at (stored letters filled name whole) after i) (name_at (stored letters filled name whole) after j) ≡ Less
  ordered_then i j l h =
      let p = fits.inside in
      by_less j place
      (λ a. rw (name_before i (omega (arith, l, a)), name_before j a) (held.ordered i j l (omega (arith, a, p))))
      (λ a. by_equal j place
      (λ e. rw (name_before i (omega (arith, l, e)), name_here j e) (after_before name (name_at letters index i) (fits.behind i (omega (arith, l, e)))))
      (λ n. by_less i place
      (λ b. rw (name_before i b, name_behind j (omega (arith, a, n)) (omega (arith, h))) (held.ordered i (j - 1) (omega (arith, b, a, n)) (omega (arith, h, a, n))))
      (λ b. by_equal i place
      (λ e. rw (name_here i e, name_behind j (omega (arith, a, n)) (omega (arith, h))) (fits.before (j - 1) (omega (arith, a, n)) (omega (arith, h, a, n))))
      (λ m. rw (name_behind i (omega (arith, b, m)) (omega (arith, l, h)), name_behind j (omega (arith, a, n)) (omega (arith, h)))
      (held.ordered (i - 1) (j - 1) (omega (arith, l, b, m)) (omega (arith, h, a, n)))))))

  indexed_then : (k : ℕ) → k < v + 1 → Indexed after (v + 1) k
  indexed_then k h =
      let p = fits.inside in
      by_less k v
      (λ l.
      let its = held.indexed k l in
      let inside = its.inside in
      by_less its.place place
      (λ b. record { place = its.place; inside = omega (arith, inside); numbered = ap number_in (inserted.before its.place b) ∙ its.numbered })
      (λ b. record {
        place = its.place + 1;
        inside = omega (arith, inside);
        numbered =
            ap number_in (inserted.behind (its.place + 1) (omega (arith, b)) (omega (arith, inside)))
            ∙ ap (λ i. number_in (get_or index i 0)) (let e : its.place + 1 - 1 ≡ its.place = omega arith in e)
            ∙ its.numbered;
      }))
      (λ l. record {
        place = place;
        inside = omega (arith, p);
        numbered = ap number_in inserted.here ∙ (let e : number_in row ≡ k = omega (arith, rows, l, h) in e);
      })

  all_held : NamesHeld all (v + 1) (filled + length name) (sets letters filled name) after
  all_held = record {
    counted = sym more;
    lettered = ap₂ (λ a b. a + b) held.lettered (letters_one name) ∙ sym (letters_append ns (name ∷ []));
    rows = rows_then;
    ordered = ordered_then;
    indexed = indexed_then;
    room_for_letters = length-sets letters filled name ∙ held.room_for_letters;
    room_for_rows = kept ∙ held.room_for_rows;
  }

  pub one_more_law : {then : List ℕ} → then ≡ sets letters filled name → NamesHeld all (v + 1) (filled + length name) then after
  one_more_law e = rw e all_held
