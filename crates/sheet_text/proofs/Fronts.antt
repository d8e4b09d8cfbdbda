-- The text of a field: what a row of the table has, and behind it the number that the field carries, if it carries one.
use Prim.Native.Nat.{ℕ, ◌+◌, ◌%◌, ◌<◌, ◌≤◌}
use mathlib.Core.Path.{◌≡◌, refl, sym, ap, ◌∙◌}
use mathlib.Core.Bool.{true}
use mathlib.Core.List.{List, [], ◌++◌, append-nil}
use native.Mathlib.Omega.{arith}
use borrow.Author.Tests.{lt-ltb, le-ltb, ltb-true}
use lib.Dec.{ltb}
use lib.ListN.{length, get_or, take, length-append}
use Rattle.base.specs.Choice.{pick}
use Rattle.base.specs.Text.{bytes}
use Rattle.base.specs.Places.{each}
use Rattle.base.proofs.Places.{each_at}
use Rattle.text.specs.Pieces.{decimal, digits_of}
use Rattle.text.specs.Internal.{Placed, put_all}
use Rattle.text.proofs.Writing.{put_all_append}
use Rattle.sheet.specs.declared.Field.{Field}
use Rattle.sheet.specs.Fields.{field_text}
use Rattle.sheet_field.specs.Memory.{kind, carried, shapes, field_of}
use Rattle.sheet_field.proofs.Stored.{field_again, kind_below}
use Rattle.sheet_text.specs.Internal.{front_lengths, front_row}

-- the length of what stands before the number, by its digit
abbrev pub front_length : ℕ → ℕ
front_length k = get_or front_lengths k 0 % 16

-- the rule of the table, as computed over it, v being the number that is carried
rows_told : (v : ℕ) →
    each (λ k. front_row k ++ pick (ltb k 23) [] (decimal v)) 0 29
    ≡ each (λ k. field_text (field_of k v)) 0 29
unfolding each field_of shapes bytes digits_of pick
rows_told v = refl

-- the fields' texts themselves, cut before the number, are such a table
abbrev front : ℕ → List ℕ
front k = take (front_length k) (field_text (field_of k 0))

texts_told : (v : ℕ) → each (λ k. front k ++ pick (ltb k 23) [] (decimal v)) 0 29 ≡ each (λ k. field_text (field_of k v)) 0 29
unfolding each field_of shapes bytes digits_of pick
texts_told v = refl

rows_long : each (λ k. length (front_row k)) 0 29 ≡ each (λ k. front_length k) 0 29
unfolding each bytes
rows_long = refl

-- a row is as long as its digit says
pub row_length : (k : ℕ) → k < 29 → length (front_row k) ≡ front_length k
row_length k h = each_at (λ j. length (front_row j)) (λ j. front_length j) 29 rows_long k h

lengths_told : each (λ k. length (front k)) 0 29 ≡ each (λ k. front_length k) 0 29
unfolding each field_of shapes bytes digits_of pick
lengths_told = refl

short_lengths : each (λ k. ltb (front_length k) 7) 0 29 ≡ each (λ k. true) 0 29
unfolding each field_of shapes bytes digits_of pick
short_lengths = refl

module _ (f : Field) (k : ℕ) (e : k ≡ kind f) where
  pub own : k < 29
  own = rw e (kind_below f)

  again : field_of k (carried f) ≡ f
  again = rw e (field_again f)

  module _ (row : List ℕ) (is_row : row ≡ front_row k) where
    whole : row ++ pick (ltb k 23) [] (decimal (carried f)) ≡ field_text f
    whole =
        rw is_row
        (each_at
        (λ j. front_row j ++ pick (ltb j 23) [] (decimal (carried f)))
        (λ j. field_text (field_of j (carried f)))
        29
        (rows_told (carried f))
        k
        own)
        ∙ ap field_text again

    pub put_bare : (p q : Placed) → k < 23 → q ≡ put_all row p → q ≡ put_all (field_text f) p
    unfolding pick
    put_bare p q h g = g ∙ ap (λ l. put_all l p) (sym (append-nil row) ∙ rw (lt-ltb k 23 h) at whole)

    pub put_numbered : (p q r : Placed) (v : ℕ) → 23 ≤ k → v ≡ carried f → q ≡ put_all row p → r ≡ put_all (decimal v) q → r ≡ put_all (field_text f) p
    unfolding pick
    put_numbered p q r v h is_number g i =
        rw (i, g, is_number) (sym (put_all_append row (decimal (carried f)) p)) ∙ ap (λ l. put_all l p) (rw (le-ltb k 23 h) at whole)

  counted : front_length k + length (pick (ltb k 23) [] (decimal (carried f))) ≡ length (field_text f)
  counted =
      let text =
      each_at (λ j. front j ++ pick (ltb j 23) [] (decimal (carried f))) (λ j. field_text (field_of j (carried f))) 29 (texts_told (carried f)) k own
      in
      let count = each_at (λ j. length (front j)) (λ j. front_length j) 29 lengths_told k own in
      sym
      (ap length (sym (ap field_text again) ∙ sym text)
      ∙ length-append (front k) (pick (ltb k 23) [] (decimal (carried f)))
      ∙ ap (λ n. n + length (pick (ltb k 23) [] (decimal (carried f)))) count)

  pub count_bare : k < 23 → front_length k ≡ length (field_text f)
  unfolding pick
  count_bare h = let c = rw (lt-ltb k 23 h) at counted in omega (arith, c)

  pub count_numbered : 23 ≤ k → front_length k + length (decimal (carried f)) ≡ length (field_text f)
  unfolding pick
  count_numbered h = rw (le-ltb k 23 h) at counted

  pub short_front : front_length k ≤ 6
  short_front =
      let short = each_at (λ j. ltb (front_length j) 7) (λ j. true) 29 short_lengths k own in
      omega (arith, ltb-true (front_length k) 7 short)
