-- A state's bytes give back the registers and the words that they were made of.
use Prim.Native.Nat.{ℕ, suc, ◌+◌, ◌<◌}
use mathlib.Core.Path.{◌≡◌, refl, ap}
use mathlib.Core.List.{List, [], ◌∷◌, ◌++◌, append_assoc}
use native.Mathlib.Omega.{arith}
use lib.ListN.{length, length-append}
use lib.Seq.{get_or-append-add}
use Rattle.machine.specs.declared.Registers.{Registers}
use Rattle.machine.specs.Frame.{Words}
use Rattle.skimp_state.specs.State.{number_at, number_bytes, registers_of, register_bytes, words_at, words_bytes, state_bytes}
use Rattle.skimp_state.proofs.Bytes.{length_number}

-- the registers are numbers that their bytes hold
pub record Held (r : Registers) : Type 0 where
  pub acc : r.acc < 4294967296
  pub next : r.next < 4294967296
  pub sent : r.sent < 18446744073709551616
  pub ending : r.ending < 4294967296

four_again : (w : ℕ) (rest : List ℕ) → w < 4294967296 → number_at 4 0 (number_bytes 4 w ++ rest) ≡ w
unfolding number_at number_bytes
four_again w rest h = omega arith

pub registers_again : (r : Registers) (ws : List ℕ) → Held r → registers_of (state_bytes r ws) ≡ r
unfolding number_at number_bytes register_bytes state_bytes
registers_again r ws h =
    let a : number_at 4 0 (state_bytes r ws) ≡ r.acc = omega (arith, h.acc) in
    let n : number_at 4 4 (state_bytes r ws) ≡ r.next = omega (arith, h.next) in
    let s : number_at 8 8 (state_bytes r ws) ≡ r.sent = omega (arith, h.sent) in
    let e : number_at 4 16 (state_bytes r ws) ≡ r.ending = omega (arith, h.ending) in
    rw (a, n, s, e) refl

-- a number behind some bytes
number_behind : (front rest : List ℕ) → number_at 4 (length front) (front ++ rest) ≡ number_at 4 0 rest
unfolding number_at
number_behind front rest =
    rw (get_or-append-add front rest 0 0, get_or-append-add front rest 1 0, get_or-append-add front rest 2 0, get_or-append-add front rest 3 0) refl

words_behind : (front ws : List ℕ) → Words ws → words_at (length ws) (length front) (front ++ words_bytes ws) ≡ ws
unfolding words_at words_bytes
words_behind front [] h = refl
words_behind front (w ∷ ws) h =
    let size : length front + 4 ≡ length (front ++ number_bytes 4 w) = omega (arith, length-append front (number_bytes 4 w), length_number 4 w) in
    rw (number_behind front (number_bytes 4 w ++ words_bytes ws), four_again w (words_bytes ws) (h 0), size, ← append_assoc front (number_bytes 4 w) (words_bytes ws))
    (ap (λ l. w ∷ l) (words_behind (front ++ number_bytes 4 w) ws (λ i. h (suc i))))

pub words_again : (r : Registers) (ws : List ℕ) → Words ws → words_at (length ws) 20 (state_bytes r ws) ≡ ws
unfolding state_bytes register_bytes number_bytes
words_again r ws h = words_behind (register_bytes r) ws h
