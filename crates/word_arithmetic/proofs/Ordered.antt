-- What the library says of two integers' order, as CMP tells it of two words.
use Rattle.std.proofs.Common.{◌≡◌, ℕ, ◌<◌, true, false, ap, arith, eq-eqb, ne_eqb, ℤ, ◌<ℤ◌}
use Rattle.std.specs.Int.Signed.{lt_z, ◌<ℤ◌}
use Rattle.std.proofs.Common.{Ordering, Less, Equal, Greater, int_cmp, w32, to_z, of_z}
use Rattle.std.proofs.lemmas.Int.{ints}
use Rattle.std.proofs.lemmas.Cmp.{int_ranked}
use Rattle.base.specs.Choice.{pick}
use Rattle.base.proofs.Cases.{by_test}
use Rattle.word.specs.Word.{comparison, signed, word, wrap}
use Rattle.word.proofs.Patterns.{signed_equal}
use Rattle.word.proofs.SignedType.{held}

below_is : (x y : ℤ) → x <ℤ y → lt_z x y ≡ true
below_is x y h = by_test (lt_z x y) (λ e. e) (λ e. absurd (rw e at h.lt))

not_below_is : (x y : ℤ) → (x <ℤ y → ⊥) → lt_z x y ≡ false
not_below_is x y h = by_test (lt_z x y) (λ e. absurd (h (record { lt = rw e tt }))) (λ e. e)

-- what CMP answers of two words, in each order of the integers that they stand for
module _
    (a b : ℕ) (h : a < 4294967296) (k : b < 4294967296)
    (x y : ℤ) (e : x ≡ signed a) (i : y ≡ signed b)
  where
    order_of_words : {r : Ordering} → r ≡ int_cmp (to_z w32 (of_z w32 x)) (to_z w32 (of_z w32 y)) → r ≡ int_cmp (signed a) (signed b)
    order_of_words p = rw (held a x h e, held b y k i) at p

    pub less : Less ≡ int_cmp (to_z w32 (of_z w32 x)) (to_z w32 (of_z w32 y)) → 4294967295 ≡ comparison a b
    unfolding comparison word wrap pick
    less p = rw (below_is _ _ (int_ranked _ _ Less (order_of_words p)))

    pub equal : Equal ≡ int_cmp (to_z w32 (of_z w32 x)) (to_z w32 (of_z w32 y)) → 0 ≡ comparison a b
    unfolding comparison pick
    equal p =
        let same = int_ranked (signed a) (signed b) Equal (order_of_words p) in
        rw (not_below_is (signed a) (signed b) (λ l. omega (arith, ints)), eq-eqb a b (signed_equal a b h k same))

    pub greater : Greater ≡ int_cmp (to_z w32 (of_z w32 x)) (to_z w32 (of_z w32 y)) → 1 ≡ comparison a b
    unfolding comparison pick
    greater p =
        let above = int_ranked (signed a) (signed b) Greater (order_of_words p) in
        rw (
          not_below_is (signed a) (signed b) (λ l. omega (arith, ints)),
          ne_eqb a b (λ same. let z : signed a ≡ signed b = ap signed same in omega (arith, ints)),
        )
