-- The bytes of numbers, and the loops over the words of a state.
use Prim.Native.Nat.{ℕ, zero, suc, ◌+◌, ◌*◌, ◌/◌, ◌%◌, ◌<◌}
use mathlib.Core.Path.{◌≡◌, refl, sym, ap, ◌∙◌}
use mathlib.Core.List.{List, [], ◌∷◌, ◌++◌, append-nil, append_assoc}
use native.Mathlib.Omega.{arith}
use native.Mathlib.Nat.{add-zero}
use lib.ListN.{length, get_or, take, drop, set, length-append}
use lib.Seq.{sets, set_at, append_snoc, length-take-le}
use Rattle.base.proofs.Lists.{drop_more, take_more, sets_append, four_stores}
use Rattle.machine.specs.declared.Registers.{Registers}
use Rattle.skimp_state.specs.State.{number_at, number_bytes, register_bytes, words_at, words_bytes, state_bytes}

-- ---- reading

pub number_four :
    (s : List ℕ) (i : ℕ)
    → number_at 4 i s ≡ ((get_or s i 0 * 256 + get_or s (i + 1) 0) * 256 + get_or s (i + 2) 0) * 256 + get_or s (i + 3) 0
unfolding number_at
number_four s i = let first : 0 * 256 + get_or s (i + 0) 0 ≡ get_or s i 0 = rw (add-zero i) (omega arith) in rw first refl

pub number_eight : (s : List ℕ) → number_at 4 8 s * 4294967296 + number_at 4 12 s ≡ number_at 8 8 s
unfolding number_at
number_eight s = omega arith

words_snoc : (n i : ℕ) (s : List ℕ) → words_at (n + 1) i s ≡ words_at n i s ++ number_at 4 (i + 4 * n) s ∷ []
unfolding words_at
words_snoc zero i s = ap (λ k. number_at 4 k s ∷ []) (omega arith)
words_snoc (suc n) i s =
    let e : suc n + 1 ≡ suc (n + 1) = omega arith in
    let there : i + 4 + 4 * n ≡ i + 4 * suc n = omega arith in
    rw e (ap (λ r. number_at 4 i s ∷ r) (words_snoc n (i + 4) s ∙ ap (λ k. words_at n (i + 4) s ++ number_at 4 k s ∷ []) there))

-- ---- writing

pub length_number : (k n : ℕ) → length (number_bytes k n) ≡ k
unfolding number_bytes
length_number zero n = refl
length_number (suc k) n = length-append (number_bytes k (n / 256)) ((n % 256) ∷ []) ∙ omega (arith, length_number k (n / 256))

pub put_four :
    (s : List ℕ) (i w : ℕ)
    → set (set (set (set s i (w / 16777216 % 256)) (i + 1) (w / 65536 % 256)) (i + 2) (w / 256 % 256)) (i + 3) (w % 256)
    ≡ sets s i (number_bytes 4 w)
unfolding number_bytes
put_four s i w =
    let first : w / 256 / 256 / 256 % 256 ≡ w / 16777216 % 256 = omega arith in
    let second : w / 256 / 256 % 256 ≡ w / 65536 % 256 = omega arith in
    rw (first, second) (four_stores s i (w / 16777216 % 256) (w / 65536 % 256) (w / 256 % 256) (w % 256))

-- four bytes hold a number modulo 2 to the 32
pub wrapped : (n : ℕ) → number_bytes 4 (n % 4294967296) ≡ number_bytes 4 n
unfolding number_bytes
wrapped n =
    let a : n % 4294967296 / 256 / 256 / 256 % 256 ≡ n / 256 / 256 / 256 % 256 = omega arith in
    let b : n % 4294967296 / 256 / 256 % 256 ≡ n / 256 / 256 % 256 = omega arith in
    let c : n % 4294967296 / 256 % 256 ≡ n / 256 % 256 = omega arith in
    let d : n % 4294967296 % 256 ≡ n % 256 = omega arith in
    rw (a, b, c, d) refl

pub four_of_eight : (n : ℕ) → number_bytes 4 (n / 4294967296) ++ number_bytes 4 (n % 4294967296) ≡ number_bytes 8 n
unfolding number_bytes
four_of_eight n =
    let high : n / 4294967296 ≡ n / 256 / 256 / 256 / 256 = omega arith in
    rw (wrapped n, high) refl

-- ---- the registers

pub put_registers :
    (s : List ℕ) (r : Registers)
    → sets
    (sets
    (sets (sets (sets s 0 (number_bytes 4 r.acc)) 4 (number_bytes 4 (r.next % 4294967296))) 8 (number_bytes 4 (r.sent / 4294967296)))
    12
    (number_bytes 4 (r.sent % 4294967296)))
    16
    (number_bytes 4 r.ending)
    ≡ sets s 0 (register_bytes r)
unfolding register_bytes number_bytes
put_registers s r =
    ap
    (λ next.
    sets
    (sets (sets (sets (sets s 0 (number_bytes 4 r.acc)) 4 next) 8 (number_bytes 4 (r.sent / 4294967296))) 12 (number_bytes 4 (r.sent % 4294967296)))
    16
    (number_bytes 4 r.ending))
    (wrapped r.next)
    ∙ ap
    (λ sent. sets (sets (sets (sets s 0 (number_bytes 4 r.acc)) 4 (number_bytes 4 r.next)) 8 sent) 16 (number_bytes 4 r.ending))
    (four_of_eight r.sent)

-- ---- the loops over the words

pub length_words : (n i : ℕ) (s : List ℕ) → length (words_at n i s) ≡ n
unfolding words_at
length_words zero i s = refl
length_words (suc n) i s = ap suc (length_words n (i + 4) s)

-- the words before place i are loaded
pub load_turn :
    (s words : List ℕ) (i : ℕ)
    → i < length words
    → set (words_at i 20 s ++ drop i words) i (number_at 4 (20 + 4 * i) s) ≡ words_at (i + 1) 20 s ++ drop (i + 1) words
load_turn s words i h =
    rw (drop_more words i 0 h)
    (set_at (words_at i 20 s) (get_or words i 0) (drop (i + 1) words) (number_at 4 (20 + 4 * i) s) i (length_words i 20 s)
    ∙ sym (append_snoc (words_at i 20 s) (number_at 4 (20 + 4 * i) s) (drop (i + 1) words))
    ∙ ap (λ l. l ++ drop (i + 1) words) (sym (words_snoc i 20 s)))

words_bytes_snoc : (ws : List ℕ) (w : ℕ) → words_bytes (ws ++ w ∷ []) ≡ words_bytes ws ++ number_bytes 4 w
unfolding words_bytes
words_bytes_snoc [] w = append-nil (number_bytes 4 w)
words_bytes_snoc (x ∷ ws) w = ap (λ l. number_bytes 4 x ++ l) (words_bytes_snoc ws w) ∙ sym (append_assoc (number_bytes 4 x) (words_bytes ws) (number_bytes 4 w))

pub length_words_bytes : (ws : List ℕ) → length (words_bytes ws) ≡ 4 * length ws
unfolding words_bytes
length_words_bytes [] = refl
length_words_bytes (w ∷ ws) =
    length-append (number_bytes 4 w) (words_bytes ws) ∙ omega (arith, length_number 4 w, length_words_bytes ws)

-- the words before place i are stored
pub store_turn :
    (s words : List ℕ) (i : ℕ)
    → i < length words
    → sets (sets s 20 (words_bytes (take i words))) (20 + 4 * i) (number_bytes 4 (get_or words i 0)) ≡ sets s 20 (words_bytes (take (i + 1) words))
store_turn s words i h =
    let place : 20 + 4 * i ≡ 20 + length (words_bytes (take i words)) = omega (arith, length_words_bytes (take i words), length-take-le i words (omega arith)) in
    ap (λ k. sets (sets s 20 (words_bytes (take i words))) k (number_bytes 4 (get_or words i 0))) place
    ∙ sym (sets_append s 20 (words_bytes (take i words)) (number_bytes 4 (get_or words i 0)))
    ∙ ap (λ l. sets s 20 l) (sym (words_bytes_snoc (take i words) (get_or words i 0)) ∙ ap words_bytes (sym (take_more words i 0 h)))

pub length_registers : (r : Registers) → length (register_bytes r) ≡ 20
unfolding register_bytes number_bytes
length_registers r = refl

pub length_state : (r : Registers) (ws : List ℕ) → length (state_bytes r ws) ≡ 20 + 4 * length ws
unfolding state_bytes
length_state r ws = length-append (register_bytes r) (words_bytes ws) ∙ omega (arith, length_registers r, length_words_bytes ws)
