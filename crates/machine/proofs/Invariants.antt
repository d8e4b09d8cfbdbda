-- What each order keeps: the invariants of a run that proofs/Frame.antt states.
use Prim.Native.Nat.{ℕ, zero, suc, ◌+◌, ◌-◌, ◌*◌, ◌/◌, ◌<◌, ◌≤◌}
use mathlib.Core.Path.{◌≡◌, refl, sym, ap, ◌∙◌}
use mathlib.Core.Bool.{false}
use mathlib.Core.List.{List, [], ◌∷◌}
use mathlib.Core.Logic.{inl, inr}
use native.Mathlib.Omega.{arith}
use lib.ListN.{length, get_or, set, length-set, get_or-eq_default}
use lib.Seq.{sets, length-sets, get_or-set_other}
use Rattle.base.proofs.Cases.{by_less}
use Rattle.order.specs.declared.Order.{Order}
use Rattle.order.specs.declared.Order.TheVariants.{Store, Jump, Skip, Branch, Send, Stop}
use Rattle.order.specs.Object.{is_stop}
use Rattle.order.specs.Good.{OperandFits, Good}
use Rattle.order.proofs.OrderTests.{numbers_small, not_stop}
use Rattle.machine.specs.Machine.{Machine, machine, word_bytes}
use Rattle.machine.specs.Frame.{Ending, Bytes, Operands, Words}
use Rattle.machine.proofs.Effects.{computes, stores, jumps, skips, branches, sends, stops, faults}
use Rattle.machine.proofs.Kept.{Keeps}

-- ---- stores

-- numbers below n stay so when one of them is stored
below_set : (n : ℕ) (l : List ℕ) (i v : ℕ) → ((j : ℕ) → get_or l j 0 < n) → v < n → (j : ℕ) → get_or (set l i v) j 0 < n
below_set n [] i v h w j = h j
below_set n (x ∷ l) zero v h w zero = w
below_set n (x ∷ l) zero v h w (suc j) = h (suc j)
below_set n (x ∷ l) (suc i) v h w zero = h zero
below_set n (x ∷ l) (suc i) v h w (suc j) = below_set n l i v (λ k. h (suc k)) w j

below_sets : (n : ℕ) (vs l : List ℕ) (i : ℕ) → ((j : ℕ) → get_or l j 0 < n) → ((j : ℕ) → get_or vs j 0 < n) → (j : ℕ) → get_or (sets l i vs) j 0 < n
below_sets n [] l i h w j = h j
below_sets n (v ∷ vs) l i h w j = below_sets n vs (set l i v) (suc i) (below_set n l i v h (w zero)) (λ k. w (suc k)) j

word_bytes_law : (a : ℕ) → a < 4294967296 → Bytes (word_bytes a)
word_bytes_law a h zero = omega arith
word_bytes_law a h (suc zero) = omega arith
word_bytes_law a h (suc (suc zero)) = omega arith
word_bytes_law a h (suc (suc (suc zero))) = omega arith
word_bytes_law a h (suc (suc (suc (suc j)))) = omega arith

-- ---- the orders of a good object

module _ (v t : ℕ) (os : List Order) (good : Good v t os) where
  -- what an order of the program carries; past the last order stands STOP
  fits : (i : ℕ) (o : Order) → get_or os i Stop ≡ o → OperandFits v t (length os) o
  fits i o e =
      by_less i (length os)
      (λ h. rw e at (good.operands i h))
      (λ h. rw (← sym (get_or-eq_default os Stop h) ∙ e) tt)

  pub operands_small : Operands os
  operands_small i =
      by_less i (length os)
      (λ h. let few = numbers_small v t os good i h in omega arith)
      (λ h. rw (get_or-eq_default os Stop h) (omega arith))

  -- behind an order that is not STOP stands another
  behind_inside : (i : ℕ) (o : Order) → get_or os i Stop ≡ o → is_stop o ≡ false → i < length os → i + 1 < length os
  behind_inside i o e z h =
      let other : i ≡ length os - 1 → ⊥ = λ last. not_stop o z (sym e ∙ ap (λ k. get_or os k Stop) last ∙ good.stop_last_law) in
      omega (arith, other)

-- ---- what each order keeps of a machine
abbrev pub Lengths : ℕ → ℕ → Machine → Type 0
Lengths n k (machine r ws out) = (length ws ≡ n) × (length out ≡ k)

abbrev pub Links : ℕ → ℕ → Machine → Type 0
Links a b (machine r ws out) = (get_or ws 0 0 ≡ a) × (get_or ws 1 0 ≡ b)

abbrev pub Inside : List Order → Machine → Type 0
Inside os (machine r ws out) = r.next < length os

abbrev pub WithinRoom : Machine → Type 0
WithinRoom (machine r ws out) = r.sent ≤ length out / 4

abbrev pub GoodEnding : Machine → Type 0
GoodEnding (machine r ws out) = Ending r.ending

abbrev pub AllWords : Machine → Type 0
AllWords (machine r ws out) = (r.acc < 4294967296) × Words ws

abbrev pub AllBytes : Machine → Type 0
AllBytes (machine r ws out) = ((r.acc < 4294967296) × Words ws) × Bytes out

module _ (os : List Order) where
  pub keeps_lengths : (n k : ℕ) → Keeps os (Lengths n k)
  keeps_lengths n k r ws out _ _ i (computes o a s c) p = p
  keeps_lengths n k r ws out _ _ i (stores w) p = (length-set ws w r.acc ∙ p.0, p.1)
  keeps_lengths n k r ws out _ _ i (jumps a) p = p
  keeps_lengths n k r ws out _ _ i (skips a) p = p
  keeps_lengths n k r ws out _ _ i (branches s a) p = p
  keeps_lengths n k r ws out _ _ i (sends room) p = (p.0, length-sets out (4 * r.sent) (word_bytes r.acc) ∙ p.1)
  keeps_lengths n k r ws out _ _ i stops p = p
  keeps_lengths n k r ws out _ _ i (faults o m low high) p = p

  pub keeps_room : Keeps os WithinRoom
  keeps_room r ws out _ _ i (computes o a s c) p = p
  keeps_room r ws out _ _ i (stores w) p = p
  keeps_room r ws out _ _ i (jumps a) p = p
  keeps_room r ws out _ _ i (skips a) p = p
  keeps_room r ws out _ _ i (branches s a) p = p
  keeps_room r ws out _ _ i (sends room) p = rw (length-sets out (4 * r.sent) (word_bytes r.acc)) (omega arith)
  keeps_room r ws out _ _ i stops p = p
  keeps_room r ws out _ _ i (faults o m low high) p = p

  pub keeps_ending : Keeps os GoodEnding
  keeps_ending r ws out _ _ i (computes o a s c) p = p
  keeps_ending r ws out _ _ i (stores w) p = p
  keeps_ending r ws out _ _ i (jumps a) p = p
  keeps_ending r ws out _ _ i (skips a) p = p
  keeps_ending r ws out _ _ i (branches s a) p = p
  keeps_ending r ws out _ _ i (sends room) p = p
  keeps_ending r ws out _ _ i stops p = inr refl
  keeps_ending r ws out _ _ i (faults o m low high) p = inl high

  module _ (small : Operands os) where
    pub keeps_words : Keeps os AllWords
    keeps_words r ws out _ _ i (computes o a s c) p = (c p.0 p.1 (rw i at (small r.next)), p.1)
    keeps_words r ws out _ _ i (stores w) p = (p.0, below_set 4294967296 ws w r.acc p.1 p.0)
    keeps_words r ws out _ _ i (jumps a) p = p
    keeps_words r ws out _ _ i (skips a) p = p
    keeps_words r ws out _ _ i (branches s a) p = p
    keeps_words r ws out _ _ i (sends room) p = p
    keeps_words r ws out _ _ i stops p = p
    keeps_words r ws out _ _ i (faults o m low high) p = p

    pub keeps_bytes : Keeps os AllBytes
    keeps_bytes r ws out _ _ i (computes o a s c) p = (keeps_words r ws out _ _ i (computes o a s c) p.0, p.1)
    keeps_bytes r ws out _ _ i (stores w) p = (keeps_words r ws out _ _ i (stores w) p.0, p.1)
    keeps_bytes r ws out _ _ i (jumps a) p = p
    keeps_bytes r ws out _ _ i (skips a) p = p
    keeps_bytes r ws out _ _ i (branches s a) p = p
    keeps_bytes r ws out _ _ i (sends room) p = (p.0, below_sets 256 (word_bytes r.acc) out (4 * r.sent) p.1 (word_bytes_law r.acc p.0.0))
    keeps_bytes r ws out _ _ i stops p = p
    keeps_bytes r ws out _ _ i (faults o m low high) p = p

module _ (v t : ℕ) (os : List Order) (good : Good v t os) where
  pub keeps_links : (a b : ℕ) → Keeps os (Links a b)
  keeps_links a b r ws out _ _ i (computes o x s c) p = p
  keeps_links a b r ws out _ _ i (stores w) p =
      let above = (fits v t os good r.next (Store w) i).0 in
      (get_or-set_other ws w 0 r.acc 0 (λ z. omega arith) ∙ p.0, get_or-set_other ws w 1 r.acc 0 (λ z. omega arith) ∙ p.1)
  keeps_links a b r ws out _ _ i (jumps x) p = p
  keeps_links a b r ws out _ _ i (skips x) p = p
  keeps_links a b r ws out _ _ i (branches s x) p = p
  keeps_links a b r ws out _ _ i (sends room) p = p
  keeps_links a b r ws out _ _ i stops p = p
  keeps_links a b r ws out _ _ i (faults o m low high) p = p

  pub keeps_inside : Keeps os (Inside os)
  keeps_inside r ws out _ _ i (computes o a s c) p = behind_inside v t os good r.next o i s p
  keeps_inside r ws out _ _ i (stores w) p = behind_inside v t os good r.next (Store w) i refl p
  keeps_inside r ws out _ _ i (jumps a) p = fits v t os good r.next (Jump a) i
  keeps_inside r ws out _ _ i (skips a) p = fits v t os good r.next (Skip a) i
  keeps_inside r ws out _ _ i (branches s a) p = fits v t os good r.next (Branch s a) i
  keeps_inside r ws out _ _ i (sends room) p = behind_inside v t os good r.next Send i refl p
  keeps_inside r ws out _ _ i stops p = p
  keeps_inside r ws out _ _ i (faults o m low high) p = p
