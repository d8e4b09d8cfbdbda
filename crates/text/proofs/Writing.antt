-- Writing pieces of text: what each function puts into the buffer, and the lengths of the pieces.
use Prim.Native.Nat.{ℕ, suc, ◌+◌, ◌/◌, ◌%◌, ◌<◌, ◌≤◌}
use mathlib.Core.Path.{◌≡◌, refl, sym, ap, ◌∙◌}
use mathlib.Core.List.{List, [], ◌∷◌, ◌++◌}
use native.Mathlib.Omega.{arith}
use native.Mathlib.Nat.{add-zero}
use native.Mathlib.Numerals.{add-one}
use borrow.Author.Tests.{lt-ltb, le-ltb}
use lib.ListN.{length, get_or, drop, set, length-append, length-set, drop_of_length-le}
use lib.Seq.{sets}
use Rattle.base.specs.Choice.{pick}
use Rattle.base.proofs.Lists.{drop_more}
use Rattle.text.specs.Pieces.{decimal}
use Rattle.text.specs.Buffer.{reply, reply_or, filled_with}
use Rattle.text.specs.Internal.{Placed, placed, put_byte, put_all}
use Rattle.text.proofs.Decimal.{one_digit, last_digit}

-- ---- bytes one after the other

pub put_all_append : (xs ys : List ℕ) (p : Placed) → put_all (xs ++ ys) p ≡ put_all ys (put_all xs p)
unfolding put_all
put_all_append [] ys p = refl
put_all_append (x ∷ xs) ys p = put_all_append xs ys (put_byte x p)

-- where there is room, they are stored from the place on
put_sets : (bs : List ℕ) (i : ℕ) (l : List ℕ) → i + length bs ≤ length l → put_all bs (placed i l) ≡ placed (i + length bs) (sets l i bs)
unfolding put_all pick
put_sets [] i l h = ap (λ k. placed k l) (sym (add-zero i))
put_sets (b ∷ bs) i l h =
    let shift : suc i + length bs ≡ i + suc (length bs) = omega arith in
    rw (lt-ltb i (length l) (omega arith), add-one i)
    (put_sets bs (suc i) (set l i b) (rw (length-set l i b) (omega arith)) ∙ ap (λ k. placed k (sets (set l i b) (suc i) bs)) shift)

-- the buffer alone
buffer_of : Placed → List ℕ
buffer_of (placed i l) = l

-- what is replied and what the buffer holds, for a text s of n bytes: where there is no room for it, and where it was put at the front
module _ (short : ℕ) (s l : List ℕ) (n : ℕ) (e : n ≡ length s) where
  pub write_short : length l < n → (reply short 0 ≡ reply_or short s l) × (l ≡ filled_with s l)
  unfolding pick
  write_short no_room = rw (lt-ltb (length l) (length s) (omega (arith, e))) (refl, refl)

  pub write_whole : n ≤ length l → (m : List ℕ) (i : ℕ) → placed i m ≡ put_all s (placed 0 l) → (reply 0 n ≡ reply_or short s l) × (m ≡ filled_with s l)
  unfolding buffer_of pick
  write_whole room m i put =
      rw (le-ltb (length l) (length s) (omega (arith, e))) (ap (reply 0) e, ap buffer_of (put ∙ put_sets s 0 l (omega (arith, e))))

-- ---- the loop over a fixed string

module _ (string : List ℕ) (k : ℕ) (p : Placed) where
  pub put_turn : k < length string → put_all (drop k string) p ≡ put_all (drop (k + 1) string) (put_byte (get_or string k 0) p)
  unfolding put_all
  put_turn h = rw (drop_more string k 0 h) refl

  pub put_over : length string ≤ k → p ≡ put_all (drop k string) p
  unfolding put_all
  put_over h = rw (drop_of_length-le string h) refl

-- ---- a number

module _ (n : ℕ) (p : Placed) where
  pub put_one : n < 10 → put_byte (n % 10 + 48) p ≡ put_all (decimal n) p
  unfolding put_all
  put_one l = let same : n % 10 ≡ n = omega arith in rw (one_digit 9 n l, same) refl

  pub put_last : 10 ≤ n → n < 4294967296 → put_byte (n % 10 + 48) (put_all (decimal (n / 10)) p) ≡ put_all (decimal n) p
  unfolding put_all
  put_last g small = rw (last_digit n g small, put_all_append (decimal (n / 10)) ((n % 10 + 48) ∷ []) p) refl

-- the loop over its digits
pub length_turn : (n : ℕ) → 10 ≤ n → n < 4294967296 → length (decimal n) ≡ length (decimal (n / 10)) + 1
length_turn n g small = rw (last_digit n g small) (length-append (decimal (n / 10)) ((n % 10 + 48) ∷ []))

pub length_one : (n : ℕ) → n < 10 → length (decimal n) ≡ 1
length_one n l = rw (one_digit 9 n l) refl
