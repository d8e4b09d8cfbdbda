-- The laws of the order of names: it is total, and a name is the same as itself alone.
use Prim.Native.Nat.{ℕ, zero, suc, ◌+◌, ◌-◌, ◌%◌, ◌<◌, ◌≤◌, min, max}
use mathlib.Core.Bool.{true, false}
use mathlib.Core.Path.{◌≡◌, refl, sym, ap, ap₂, ◌∙◌}
use mathlib.Core.List.{List, [], ◌∷◌}
use native.Mathlib.Omega.{arith}
use borrow.Author.Tests.{eqb-true, eq-eqb, ne_eqb}
use lib.Dec.{eqb}
use lib.ListN.{length, get_or, take, drop, drop_of_length-le, length-take}
use Rattle.std.specs.declared.cmp.Ordering.{Ordering}
use Rattle.std.specs.declared.cmp.Ordering.TheVariants.{Less, Equal, Greater}
use Rattle.std.specs.Ordering.{is_ne, nat_cmp, ordering_then, ordering_reverse}
use Rattle.std.proofs.Common.{cond}
use Rattle.std.specs.Cmp.{nat_cmp_is, nat_cmp_total, then_flip}
use Rattle.base.specs.Choice.{pick}
use Rattle.base.proofs.Cases.{by_test, by_less, by_equal, both_yes}
use Rattle.base.proofs.Lists.{drop_more}
use Rattle.source.specs.Limits.{most_cells}
use Rattle.source.specs.Program.{same_name}
use Rattle.name_index.specs.Order.{side_of}
use Rattle.name_index.specs.Internal.{decided_at}

-- ---- letters

module _ (c d : ℕ) where
  letter_is_less : nat_cmp c d ≡ Less → c < d
  letter_is_less e =
      by_less c d
      (λ h. h)
      (λ h. by_equal c d
      (λ g. let z = nat_cmp_is c d Equal g in cc)
      (λ n. let z = nat_cmp_is c d Greater (omega (arith, h, n)) in cc))

  letter_is_same : nat_cmp c d ≡ Equal → c ≡ d
  letter_is_same e =
      by_equal c d
      (λ h. h)
      (λ n. by_less c d
      (λ h. let z = nat_cmp_is c d Less h in cc)
      (λ h. let z = nat_cmp_is c d Greater (omega (arith, h, n)) in cc))

-- ---- the other way round

side_flipped : (a b : List ℕ) → side_of b a ≡ ordering_reverse (side_of a b)
unfolding side_of
side_flipped [] [] = refl
side_flipped [] (d ∷ b) = refl
side_flipped (c ∷ a) [] = refl
side_flipped (c ∷ a) (d ∷ b) = ap₂ ordering_then (side_flipped a b) (nat_cmp_total.antisymm d c) ∙ then_flip (side_of a b) (nat_cmp c d)

pub after_before : (a b : List ℕ) → side_of a b ≡ Greater → side_of b a ≡ Less
after_before a b e = side_flipped a b ∙ ap ordering_reverse e

pub before_after : (a b : List ℕ) → side_of a b ≡ Less → side_of b a ≡ Greater
before_after a b e = side_flipped a b ∙ ap ordering_reverse e

-- ---- the same

pub side_self : (a : List ℕ) → side_of a a ≡ Equal
unfolding side_of
side_self [] = refl
side_self (c ∷ a) = rw (side_self a) (sym (nat_cmp_is c c Equal refl))

unless_same_law : (s l : Ordering) → ordering_then s l ≡ Equal → (s ≡ Equal) × (l ≡ Equal)
unless_same_law Less l e = cc
unless_same_law Equal l e = (refl, e)
unless_same_law Greater l e = cc

pub side_same : (a b : List ℕ) → side_of a b ≡ Equal → a ≡ b
unfolding side_of
side_same [] [] e = refl
side_same [] (d ∷ b) e = cc
side_same (c ∷ a) [] e = cc
side_same (c ∷ a) (d ∷ b) e =
    let both = unless_same_law (side_of a b) (nat_cmp c d) e in
    ap₂ (λ x l. x ∷ l) (letter_is_same c d both.1) (side_same a b both.0)

pub never_before_itself : {A : Type 0} (a b : List ℕ) → a ≡ b → side_of a b ≡ Less → A
never_before_itself a b e h = let z = sym (side_self a) ∙ ap (side_of a) e ∙ h in absurd (cc)

-- ---- one before another before a third

before_by : {P : Type 0} (s l : Ordering) → ordering_then s l ≡ Less → (s ≡ Less → P) → (s ≡ Equal → l ≡ Less → P) → P
before_by Less l e first second = first refl
before_by Equal l e first second = second refl e
before_by Greater l e first second = absurd (cc)

pub before_all : (a b c : List ℕ) → side_of a b ≡ Less → side_of b c ≡ Less → side_of a c ≡ Less
unfolding side_of
before_all [] [] c e g = g
before_all [] (y ∷ b) [] e g = cc
before_all [] (y ∷ b) (w ∷ c) e g = refl
before_all (x ∷ a) [] c e g = cc
before_all (x ∷ a) (y ∷ b) [] e g = cc
before_all (x ∷ a) (y ∷ b) (w ∷ c) e g =
    before_by (side_of a b) (nat_cmp x y) e
    (λ h. before_by (side_of b c) (nat_cmp y w) g
    (λ k. rw (before_all a b c h k) refl)
    (λ k l. let t : side_of a c ≡ Less = ap (side_of a) (sym (side_same b c k)) ∙ h in rw t refl))
    (λ h m. before_by (side_of b c) (nat_cmp y w) g
    (λ k. let t : side_of a c ≡ Less = ap (λ s. side_of s c) (side_same a b h) ∙ k in rw t refl)
    (λ k l.
    let t : side_of a c ≡ Equal = ap (λ s. side_of s c) (side_same a b h) ∙ k in
    rw t (nat_cmp_total.trans x y w m l)))

-- ---- the order and `same_name`

same_name_is : (a b : List ℕ) → same_name a b ≡ true → a ≡ b
unfolding same_name pick
same_name_is [] [] e = refl
same_name_is [] (d ∷ b) e = cc
same_name_is (c ∷ a) [] e = cc
same_name_is (c ∷ a) (d ∷ b) e =
    let both = both_yes (eqb c d) (same_name a b) e in
    ap₂ (λ x l. x ∷ l) (eqb-true c d both.0) (same_name_is a b both.1)

pub same_name_self : (a : List ℕ) → same_name a a ≡ true
unfolding same_name pick
same_name_self [] = refl
same_name_self (c ∷ a) = rw (eq-eqb c c refl) (same_name_self a)

pub other_name : (a b : List ℕ) → (a ≡ b → ⊥) → same_name a b ≡ false
other_name a b n = by_test (same_name a b) (λ e. absurd (n (same_name_is a b e))) (λ e. e)

-- ---- two names compared

-- one whose length a row or a token tells is short enough
pub short_part : (l p : List ℕ) (at n : ℕ) → p ≡ take (n % most_cells) (drop at l) → length p < most_cells
short_part l p at n e =
    let m : length p ≡ min (n % most_cells) (length (drop at l)) = ap length e ∙ length-take (n % most_cells) (drop at l) in
    omega (arith, m)

pub shorter_before : (a b : List ℕ) → length a < length b → Less ≡ side_of a b
unfolding side_of
shorter_before [] [] h = absurd (omega (arith, h))
shorter_before [] (d ∷ b) h = refl
shorter_before (c ∷ a) [] h = absurd (omega (arith, h))
shorter_before (c ∷ a) (d ∷ b) h = rw (← shorter_before a b (omega (arith, h))) refl

pub longer_after : (a b : List ℕ) → length b < length a → Greater ≡ side_of a b
unfolding side_of
longer_after [] b h = absurd (omega (arith, h))
longer_after (c ∷ a) [] h = refl
longer_after (c ∷ a) (d ∷ b) h = rw (← longer_after a b (omega (arith, h))) refl

unequal : (s : Ordering) → is_ne s ≡ true → s ≡ Equal → ⊥
unequal Less n e = cc
unequal Equal n e = cc
unequal Greater n e = cc

equal : (s : Ordering) → is_ne s ≡ false → s ≡ Equal
equal Less n = cc
equal Equal n = refl
equal Greater n = cc

module _ (a b : List ℕ) {o : Ordering} (e : o ≡ nat_cmp (length a) (length b)) where
  pub length_decides : is_ne o ≡ true → o ≡ side_of a b
  length_decides n =
      by_less (length a) (length b)
      (λ h. e ∙ sym (nat_cmp_is (length a) (length b) Less h) ∙ shorter_before a b h)
      (λ h. by_equal (length a) (length b)
      (λ g. absurd (unequal o n (e ∙ sym (nat_cmp_is (length a) (length b) Equal g))))
      (λ m.
      let g : length b < length a = omega (arith, h, m) in
      e ∙ sym (nat_cmp_is (length a) (length b) Greater g) ∙ longer_after a b g))

  pub same_length : is_ne o ≡ false → length a ≡ length b
  same_length n = letter_is_same (length a) (length b) (sym e ∙ equal o n)

pub none_behind : (a b : List ℕ) (i : ℕ) → length a ≤ i → length b ≤ i → side_of (drop i a) (drop i b) ≡ Equal
unfolding side_of
none_behind a b i h g = rw (drop_of_length-le a h, drop_of_length-le b g) refl

-- what differs behind a place decides
decided : (a b : List ℕ) (i : ℕ) (s : Ordering) → i ≤ length a → i ≤ length b → (s ≡ Equal → ⊥) → side_of (drop i a) (drop i b) ≡ s → side_of a b ≡ s
unfolding side_of
decided a b zero s h g n e = e
decided [] b (suc i) s h g n e = absurd (omega (arith, h))
decided (c ∷ a) [] (suc i) s h g n e = absurd (omega (arith, g))
decided (c ∷ a) (d ∷ b) (suc i) s h g n e = rw (decided a b i s (omega (arith, h)) (omega (arith, g)) n e) (unless_other s n)
  where
    unless_other : (s : Ordering) → (s ≡ Equal → ⊥) → ordering_then s (nat_cmp c d) ≡ s
    unless_other Less n = refl
    unless_other Equal n = absurd (n refl)
    unless_other Greater n = refl

-- the letters before place j, where those from it on are the same
module _ (a b : List ℕ) (j : ℕ) (some : 0 < j) (h : j ≤ length a) (g : j ≤ length b) (e : side_of (drop j a) (drop j b) ≡ Equal) where
  abbrev i : ℕ
  i = j - 1

  letter_here : side_of (drop i a) (drop i b) ≡ nat_cmp (get_or a i 0) (get_or b i 0)
  unfolding side_of
  letter_here =
      let z : j - 1 + 1 ≡ j = omega (arith, some) in
      rw (drop_more a i 0 (omega (arith, some, h)), drop_more b i 0 (omega (arith, some, g)), z, e) refl

  pub last_decides : {o : Ordering} → o ≡ nat_cmp (get_or a i 0) (get_or b i 0) → is_ne o ≡ true → o ≡ side_of a b
  last_decides {o} l n = sym (decided a b i o (omega (arith, h)) (omega (arith, g)) (unequal o n) (letter_here ∙ sym l))

pub both_empty : (a b : List ℕ) → length a ≡ 0 → length a ≡ length b → Equal ≡ side_of a b
both_empty a b h g = sym (none_behind a b 0 (omega (arith, h)) (omega (arith, h, g)))

-- ---- the last letter in which two names of one length differ

unless_none : (s : Ordering) → ordering_then s Equal ≡ s
unless_none Less = refl
unless_none Equal = refl
unless_none Greater = refl

unless_both : (s l t : Ordering) → ordering_then (ordering_then s l) t ≡ ordering_then s (ordering_then l t)
unless_both Less l t = refl
unless_both Equal l t = refl
unless_both Greater l t = refl

unless_letter : (c d : ℕ) (t : Ordering) → (c ≡ d → ⊥) → ordering_then (nat_cmp c d) t ≡ nat_cmp c d
unless_letter c d t n =
    by_less c d
    (λ h. rw (← nat_cmp_is c d Less h) refl)
    (λ h. rw (← nat_cmp_is c d Greater (omega (arith, h, n))) refl)

-- what stands from place i on decides before the letters at `last`
abbrev pub decided_from : List ℕ → List ℕ → ℕ → ℕ → Ordering
decided_from a b i last = ordering_then (side_of (drop i a) (drop i b)) (decided_at a b last)

module _ (a b : List ℕ) where
  pub decided_start : decided_from a b 0 0 ≡ side_of a b
  unfolding pick
  decided_start = unless_none (side_of a b)

  pub decided_over : (i last : ℕ) → length a ≤ i → length b ≤ i → decided_at a b last ≡ decided_from a b i last
  decided_over i last h g = rw (none_behind a b i h g) refl

  pub decided_nowhere : (last : ℕ) → last ≡ 0 → Equal ≡ decided_at a b last
  unfolding pick
  decided_nowhere last e = rw (eq-eqb last 0 e) refl

  pub decided_here : (last : ℕ) → (last ≡ 0 → ⊥) → nat_cmp (get_or a (last - 1) 0) (get_or b (last - 1) 0) ≡ decided_at a b last
  unfolding pick
  decided_here last n = rw (ne_eqb last 0 n) refl

  module _ (i last : ℕ) (h : i < length a) (g : i < length b) (inside : last ≤ i) where
    decided_next : decided_at a b (i + 1) ≡ nat_cmp (get_or a i 0) (get_or b i 0)
    decided_next = let e : i + 1 - 1 ≡ i = omega arith in sym (ap (λ k. nat_cmp (get_or a k 0) (get_or b k 0)) (sym e) ∙ decided_here (i + 1) (λ z. absurd (omega (arith, z))))

    here_first : decided_from a b i last ≡ ordering_then (side_of (drop (i + 1) a) (drop (i + 1) b)) (ordering_then (nat_cmp (get_or a i 0) (get_or b i 0)) (decided_at a b last))
    unfolding side_of
    here_first = rw (drop_more a i 0 h, drop_more b i 0 g) (unless_both (side_of (drop (i + 1) a) (drop (i + 1) b)) (nat_cmp (get_or a i 0) (get_or b i 0)) (decided_at a b last))

    pub decided_turn : decided_from a b (i + 1) (max last (cond (eqb (get_or a i 0) (get_or b i 0)) 0 (i + 1))) ≡ decided_from a b i last
    decided_turn =
        by_equal (get_or a i 0) (get_or b i 0)
        (λ e.
        let z : max last 0 ≡ last = omega arith in
        rw (eq-eqb (get_or a i 0) (get_or b i 0) e, z)
        (sym (here_first ∙ ap (λ s. ordering_then (side_of (drop (i + 1) a) (drop (i + 1) b)) (ordering_then s (decided_at a b last))) (sym (nat_cmp_is (get_or a i 0) (get_or b i 0) Equal e)))))
        (λ n.
        let z : max last (i + 1) ≡ i + 1 = omega (arith, inside) in
        rw (ne_eqb (get_or a i 0) (get_or b i 0) n, z)
        (ap (ordering_then (side_of (drop (i + 1) a) (drop (i + 1) b))) decided_next
        ∙ sym (here_first ∙ ap (ordering_then (side_of (drop (i + 1) a) (drop (i + 1) b))) (unless_letter (get_or a i 0) (get_or b i 0) (decided_at a b last) n))))

    pub decided_inside : max last (cond (eqb (get_or a i 0) (get_or b i 0)) 0 (i + 1)) ≤ i + 1
    decided_inside =
        by_test (eqb (get_or a i 0) (get_or b i 0))
        (λ t. rw t (omega (arith, inside)))
        (λ t. rw t (omega (arith, inside)))
