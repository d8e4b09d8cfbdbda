-- Two tables: the arithmetic among document 01's starred readings, with the -7/2 of 02, L3, and the expression beside each line;
-- and quotients of 02, L3.
use Rattle.std.specs.Prelude.{ℕ, ◌≡◌, List, [], ◌∷◌, map, ℤ, pos, negsuc}
use Rattle.word.specs.Word.{Outcome, value, fault, word, sum, product, negation, xor_bits, not_bits, quotient, power, shift_right}

pub record Reading : Type 0 where
  pub worked : Outcome
  pub is : ℤ

-- an operation on what another gave
unfoldable pub after : Outcome → (ℕ → Outcome) → Outcome
after (value a) f = f a
after (fault n) f = fault n

unfoldable pub reading : Outcome → ℤ → Reading
reading o z = record { worked = o; is = z }

-- (-(n + 1) is written `negsuc n`)
unfoldable pub readings : List Reading
readings =
    reading (after (quotient 7 2) (λ q. value (negation q))) (negsuc 3)  -- -7/2 is -4
    ∷ reading (value (sum 2147483647 1)) (negsuc 2147483647)  -- 2147483647+1 is -2147483648
    ∷ reading (value (negation (not_bits 2147483647))) (negsuc 2147483647)  -- -(\2147483647) is -2147483648
    ∷ reading (power 0 0) (pos 1)  -- 0**0 is 1
    ∷ reading (power 2 31) (negsuc 2147483647)  -- 2**31 is -2147483648
    ∷ reading (power 2 32) (pos 0)  -- 2**32 is 0
    ∷ reading (shift_right (not_bits 0) 31) (pos 1)  -- (\0)>>31 is 1
    ∷ reading (after (quotient 1 3) (λ q. value (product q 3))) (pos 0)  -- 1/3*3 is 0
    ∷ reading (value (xor_bits 6 3)) (pos 5)  -- 6!!3 is 5
    ∷ reading (after (power 2 2) (λ p. value (negation p))) (negsuc 3)  -- -2**2 is -4
    ∷ []

-- each is what document 01 says
abbrev pub AllRead : Type 0
AllRead = map (λ r. r.worked) readings ≡ map (λ r. value (word r.is)) readings

-- ---- quotients, 02, L3

pub record Division : Type 0 where
  pub dividend : ℤ
  pub divisor : ℤ
  pub is : ℤ

unfoldable pub division : ℤ → ℤ → ℤ → Division
division x y q = record { dividend = x; divisor = y; is = q }

unfoldable pub divisions : List Division
divisions =
    division (pos 7) (pos 2) (pos 4)
    ∷ division (negsuc 6) (pos 2) (negsuc 3)  -- -7 by 2 is -4
    ∷ division (pos 1) (pos 3) (pos 0)
    ∷ division (pos 2) (pos 3) (pos 1)
    ∷ division (pos 5) (pos 2) (pos 3)
    ∷ division (negsuc 4) (pos 2) (negsuc 2)  -- -5 by 2 is -3
    ∷ division (pos 5) (negsuc 1) (negsuc 2)  -- 5 by -2 is -3
    ∷ division (negsuc 4) (negsuc 1) (pos 3)  -- -5 by -2 is 3
    ∷ division (negsuc 3) (pos 3) (negsuc 0)  -- -4 by 3 is -1
    ∷ division (negsuc 4) (pos 3) (negsuc 1)  -- -5 by 3 is -2
    -- by the least word
    ∷ division (pos 2147483647) (negsuc 2147483647) (negsuc 0)  -- -1
    ∷ division (pos 1073741824) (negsuc 2147483647) (negsuc 0)  -- -1
    ∷ division (pos 1073741823) (negsuc 2147483647) (pos 0)
    -- of the least word
    ∷ division (negsuc 2147483647) (negsuc 2147483647) (pos 1)
    ∷ division (negsuc 2147483647) (pos 2147483647) (negsuc 0)  -- by 2147483647 it is -1
    ∷ division (negsuc 2147483647) (negsuc 0) (negsuc 2147483647)  -- by -1 itself
    ∷ []

-- each is what the rule says
abbrev pub AllDivided : Type 0
AllDivided = map (λ d. quotient (word d.dividend) (word d.divisor)) divisions ≡ map (λ d. value (word d.is)) divisions
