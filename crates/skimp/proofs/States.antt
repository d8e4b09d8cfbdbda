-- The bytes of a state and the numbers in them.
use Prim.Native.Nat.{ℕ, zero, suc, ◌+◌, ◌*◌, ◌/◌, ◌%◌, ◌≤◌}
use mathlib.Core.Path.{◌≡◌, refl, sym, ap, ◌∙◌}
use mathlib.Core.List.{List, [], ◌∷◌, ◌++◌, append_assoc, append-nil}
use native.Mathlib.Omega.{arith}
use native.Mathlib.Nat.{add-zero}
use lib.ListN.{length, get_or, take, drop, replicate, length-append, drop_of_length-le}
use lib.Seq.{sets, sets-eq, take_at}
use Rattle.base.proofs.Lists.{drop_more}
use Rattle.machine.specs.Machine.{end_with}
use Rattle.machine.specs.Frame.{Bytes}
use Rattle.skimp_state.specs.State.{number_at, number_bytes, registers_of, words_at, register_bytes, words_bytes, state_bytes}
use Rattle.skimp_state.proofs.Bytes.{length_number}

-- ---- bytes, read as numbers and written again

module _ (s : List ℕ) (small : Bytes s) where
  number_bytes_law : (k i : ℕ) → i + k ≤ length s → number_bytes k (number_at k i s) ++ drop (i + k) s ≡ drop i s
  unfolding number_at number_bytes
  number_bytes_law zero i h = ap (λ j. drop j s) (add-zero i)
  number_bytes_law (suc k) i h =
      let b = get_or s (i + k) 0 in
      let whole : (number_at k i s * 256 + b) / 256 ≡ number_at k i s = omega (arith, small (i + k)) in
      let rest : (number_at k i s * 256 + b) % 256 ≡ b = omega (arith, small (i + k)) in
      let next : i + suc k ≡ i + k + 1 = omega arith in
      rw (whole, rest, next)
      (append_assoc (number_bytes k (number_at k i s)) (b ∷ []) (drop (i + k + 1) s)
      ∙ ap (λ l. number_bytes k (number_at k i s) ++ l) (sym (drop_more s (i + k) 0 (omega (arith, h))))
      ∙ number_bytes_law k i (omega (arith, h)))

  words_bytes_law : (n i : ℕ) → i + 4 * n ≤ length s → words_bytes (words_at n i s) ++ drop (i + 4 * n) s ≡ drop i s
  unfolding words_at words_bytes
  words_bytes_law zero i h = ap (λ j. drop j s) (add-zero i)
  words_bytes_law (suc n) i h =
      let next : i + 4 * suc n ≡ i + 4 + 4 * n = omega arith in
      rw next
      (append_assoc (number_bytes 4 (number_at 4 i s)) (words_bytes (words_at n (i + 4) s)) (drop (i + 4 + 4 * n) s)
      ∙ ap (λ l. number_bytes 4 (number_at 4 i s) ++ l) (words_bytes_law n (i + 4) (omega (arith, h)))
      ∙ number_bytes_law 4 i (omega (arith, h)))

  module _ (n : ℕ) (size : length s ≡ 20 + 4 * n) where
    words_left : words_bytes (words_at n 20 s) ≡ drop 20 s
    words_left =
        sym (append-nil (words_bytes (words_at n 20 s)))
        ∙ ap (λ l. words_bytes (words_at n 20 s) ++ l) (sym (drop_of_length-le s {i = 20 + 4 * n} (omega (arith, size))))
        ∙ words_bytes_law n 20 (omega (arith, size))

    -- accumulator, next order and count sent: the first 16 bytes
    abbrev front : List ℕ
    front = number_bytes 4 (number_at 4 0 s) ++ (number_bytes 4 (number_at 4 4 s) ++ number_bytes 8 (number_at 8 8 s))

    front_bytes : front ++ drop 16 s ≡ s
    front_bytes =
        append_assoc (number_bytes 4 (number_at 4 0 s)) (number_bytes 4 (number_at 4 4 s) ++ number_bytes 8 (number_at 8 8 s)) (drop 16 s)
        ∙ ap (λ l. number_bytes 4 (number_at 4 0 s) ++ l)
        (append_assoc (number_bytes 4 (number_at 4 4 s)) (number_bytes 8 (number_at 8 8 s)) (drop 16 s)
        ∙ ap (λ l. number_bytes 4 (number_at 4 4 s) ++ l) (number_bytes_law 8 8 (omega (arith, size)))
        ∙ number_bytes_law 4 4 (omega (arith, size)))
        ∙ number_bytes_law 4 0 (omega (arith, size))

    front_length : length front ≡ 16
    front_length =
        omega (
          arith,
          length-append (number_bytes 4 (number_at 4 0 s)) (number_bytes 4 (number_at 4 4 s) ++ number_bytes 8 (number_at 8 8 s)),
          length-append (number_bytes 4 (number_at 4 4 s)) (number_bytes 8 (number_at 8 8 s)),
          length_number 4 (number_at 4 0 s),
          length_number 4 (number_at 4 4 s),
          length_number 8 (number_at 8 8 s),
        )

    ending_written : (e : ℕ) → state_bytes (end_with e (registers_of s)) (words_at n 20 s) ≡ front ++ (number_bytes 4 e ++ drop 20 s)
    unfolding state_bytes register_bytes
    ending_written e = rw words_left (simp append_assoc)

    -- a state is the bytes of its registers and words
    pub state_again : state_bytes (registers_of s) (words_at n 20 s) ≡ s
    state_again =
        ending_written (number_at 4 16 s)
        ∙ ap (λ l. front ++ l) (number_bytes_law 4 16 (omega (arith, size)))
        ∙ front_bytes

    -- with another ending only bytes 16 to 19 change
    pub ending_again : (e : ℕ) → state_bytes (end_with e (registers_of s)) (words_at n 20 s) ≡ sets s 16 (number_bytes 4 e)
    ending_again e =
        let taken : take 16 s ≡ front = ap (take 16) (sym front_bytes) ∙ take_at front (drop 16 s) 16 front_length in
        let place : 16 + length (number_bytes 4 e) ≡ 20 = omega (arith, length_number 4 e) in
        ending_written e
        ∙ sym (append_assoc front (number_bytes 4 e) (drop 20 s))
        ∙ sym (sets-eq (number_bytes 4 e) s 16 (omega (arith, size, length_number 4 e)) ∙ rw (taken, place) refl)

-- ---- the first words of a state

pub words_taken : (m n i : ℕ) (s : List ℕ) → m ≤ n → words_at m i s ≡ take m (words_at n i s)
unfolding words_at
words_taken zero n i s h = refl
words_taken (suc m) zero i s h = absurd (omega (arith, h))
words_taken (suc m) (suc n) i s h = ap (λ l. number_at 4 i s ∷ l) (words_taken m n (i + 4) s (omega (arith, h)))

-- zero bytes are bytes
pub zeros_small : (n : ℕ) → Bytes (replicate n 0)
zeros_small zero i = omega arith
zeros_small (suc n) zero = omega arith
zeros_small (suc n) (suc i) = zeros_small n i
