-- Numbers and their decimal digits: what is written is read again, and nothing else is read as that number.
use Prim.Native.Nat.{ℕ, zero, suc, ◌+◌, ◌-◌, ◌*◌, ◌/◌, ◌%◌, ◌^◌, ◌<◌, ◌≤◌}
use mathlib.Core.Path.{◌≡◌, refl, sym, ap, ◌∙◌}
use mathlib.Core.List.{List, [], ◌∷◌, ◌++◌, append_assoc}
use native.Mathlib.Omega.{arith}
use borrow.Author.Tests.{lt-ltb, le-ltb, eq-eqb, ne_eqb, ltb-false, eqb-true, eqb-false}
use lib.Dec.{ltb, eqb}
use lib.ListN.{length, length-append}
use Rattle.base.specs.Choice.{pick}
use Rattle.base.specs.Front.{found}
use Rattle.base.proofs.Cases.{by_less, by_test}
use Rattle.base.proofs.Fronts.{never, not_refused}
use Rattle.text.specs.Pieces.{digits_of, decimal, digits, numeral, greatest_number}

-- ---- the digits of a number

module _ (k n : ℕ) where
  pub one_digit : n < 10 → digits_of (suc k) n ≡ (n + 48) ∷ []
  unfolding digits_of pick
  one_digit l = rw (lt-ltb n 10 l)

  more_digits : 10 ≤ n → digits_of (suc k) n ≡ digits_of k (n / 10) ++ ((n % 10 + 48) ∷ [])
  unfolding digits_of pick
  more_digits g = rw (le-ltb n 10 g)

-- room for a digit more changes nothing, where there is room enough
enough : (k n : ℕ) → n < 10 ^ suc k → digits_of (suc k) n ≡ digits_of (suc (suc k)) n
enough zero n small = one_digit 0 n (omega arith) ∙ sym (one_digit 1 n (omega arith))
enough (suc k) n small =
    by_less n 10
    (λ l. one_digit (suc k) n l ∙ sym (one_digit (suc (suc k)) n l))
    (λ g. more_digits (suc k) n g
    ∙ ap (λ ds. ds ++ ((n % 10 + 48) ∷ [])) (enough k (n / 10) (omega arith))
    ∙ sym (more_digits (suc (suc k)) n g))

-- the digits of a number and of its tenth
pub last_digit : (n : ℕ) → 10 ≤ n → n < 4294967296 → decimal n ≡ decimal (n / 10) ++ ((n % 10 + 48) ∷ [])
last_digit n g small = more_digits 9 n g ∙ ap (λ ds. ds ++ ((n % 10 + 48) ∷ [])) (enough 8 (n / 10) (omega arith))

pub few_digits : (k n : ℕ) → length (digits_of k n) ≤ k
few_digits zero n = unfold digits_of in omega arith
few_digits (suc k) n =
    by_less n 10
    (λ l. rw (one_digit k n l) (omega arith))
    (λ g. rw (more_digits k n g, length-append (digits_of k (n / 10)) ((n % 10 + 48) ∷ [])) (omega (arith, few_digits k (n / 10))))

-- a number with one digit more, b, before the text l
decimal_digit : (v b : ℕ) (l : List ℕ) → 0 < v → 48 ≤ b → b ≤ 57 → v * 10 + (b - 48) ≤ greatest_number
    → decimal (v * 10 + (b - 48)) ++ l ≡ decimal v ++ b ∷ l
decimal_digit v b l some low high small =
    let front : (v * 10 + (b - 48)) / 10 ≡ v = omega arith in
    let last : (v * 10 + (b - 48)) % 10 + 48 ≡ b = omega arith in
    ap (λ ds. ds ++ l) (more_digits 9 (v * 10 + (b - 48)) (omega arith))
    ∙ rw (front, last, enough 8 v (omega arith)) (append_assoc (decimal v) (b ∷ []) l)

-- ---- a number that is written is read again

first_read : (close d : ℕ) (rest : List ℕ) → d < 10 → numeral close ((d + 48) ∷ rest) ≡ digits close d rest
unfolding numeral pick
first_read close d rest digit =
    let same : d + 48 - 48 ≡ d = omega arith in
    rw (le-ltb (d + 48) 48 (omega arith), le-ltb 57 (d + 48) (omega arith), same)

module _ (close : ℕ) (below : close < 48) where
  next_read : (v d : ℕ) (rest : List ℕ) → 0 < v → d < 10 → v * 10 + d ≤ greatest_number
      → digits close v ((d + 48) ∷ rest) ≡ digits close (v * 10 + d) rest
  unfolding digits pick
  next_read v d rest some digit small =
      let same : d + 48 - 48 ≡ d = omega arith in
      rw (ne_eqb (d + 48) close (λ e. omega arith), le-ltb (d + 48) 48 (omega arith), le-ltb 57 (d + 48) (omega arith))
      (rw (ne_eqb v 0 (λ e. omega arith), same, le-ltb greatest_number (v * 10 + d) small))

  -- behind its digits, what has been read is n
  all_read : (k n : ℕ) (rest : List ℕ) → n < 10 ^ suc k → n ≤ greatest_number → numeral close (digits_of (suc k) n ++ rest) ≡ digits close n rest
  all_read zero n rest room small = rw (one_digit 0 n (omega arith)) (first_read close n rest (omega arith))
  all_read (suc k) n rest room small =
      by_less n 10
      (λ l. rw (one_digit (suc k) n l) (first_read close n rest l))
      (λ g. rw (more_digits (suc k) n g, append_assoc (digits_of (suc k) (n / 10)) ((n % 10 + 48) ∷ []) rest)
      (all_read k (n / 10) ((n % 10 + 48) ∷ rest) (omega arith) (omega arith)
      ∙ next_read (n / 10) (n % 10) rest (omega arith) (omega arith) (omega arith)
      ∙ ap (λ m. digits close m rest) (omega arith)))

pub numeral_decimal : (close n : ℕ) (rest : List ℕ) → n ≤ greatest_number → close < 48 → numeral close (decimal n ++ close ∷ rest) ≡ found n rest
unfolding digits pick
numeral_decimal close n rest small below =
    all_read close below 9 n (close ∷ rest) (omega arith) small ∙ rw (eq-eqb close close refl)

-- ---- a number that is read was written

-- the digits that make v, and those that are read behind them, are the digits of the number found
digits_decimal : (close v w : ℕ) (l rest : List ℕ) → v ≤ greatest_number → digits close v l ≡ found w rest
    → (decimal v ++ l ≡ decimal w ++ close ∷ rest) × (w ≤ greatest_number)
unfolding digits pick
digits_decimal close v w [] rest small e = never e
digits_decimal close v w (b ∷ l) rest small e =
    by_test (eqb b close)
    (λ y. let same : found v l ≡ found w rest = rw y at e in
    let closes = eqb-true b close y in
    let all : v ≡ w = cc in
    (cc, omega arith))
    (λ n. let low = not_refused (ltb b 48) _ (rw n at e) in
    let high = not_refused (ltb 57 b) _ low.1 in
    let some = not_refused (eqb v 0) _ high.1 in
    let in_range = not_refused (ltb greatest_number (v * 10 + (b - 48))) _ some.1 in
    let fits = ltb-false greatest_number (v * 10 + (b - 48)) in_range.0 in
    let one_more_law = decimal_digit v b l (omega (arith, eqb-false v 0 some.0)) (ltb-false b 48 low.0) (ltb-false 57 b high.0) fits in
    let behind = digits_decimal close (v * 10 + (b - 48)) w l rest fits in_range.1 in
    (sym one_more_law ∙ behind.0, behind.1))

pub decimal_numeral : (close n : ℕ) (l rest : List ℕ) → numeral close l ≡ found n rest → (l ≡ decimal n ++ close ∷ rest) × (n ≤ greatest_number)
unfolding numeral
decimal_numeral close n [] rest e = never e
decimal_numeral close n (b ∷ l) rest e =
    let low = not_refused (ltb b 48) _ e in
    let high = not_refused (ltb 57 b) _ low.1 in
    let digit : b - 48 < 10 = omega (arith, ltb-false 57 b high.0) in
    let same : b - 48 + 48 ≡ b = omega (arith, ltb-false b 48 low.0) in
    let behind = digits_decimal close (b - 48) n l rest (omega arith) high.1 in
    (sym (rw (one_digit 9 (b - 48) digit, same)) ∙ behind.0, behind.1)
