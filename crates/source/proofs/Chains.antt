-- What the tree of a chain is, said without `joined`: the root is the last operator of the lowest level, and its operands are
-- the trees of what stands before it and behind it. With a leading minus: `-A+B` is `(-A)+B`, and `-2**2` is `-(2**2)`.
use Prim.Native.Nat.{ℕ, suc, ◌≤◌}
use mathlib.Core.Path.{◌≡◌, sym, ap, subst, ◌∙◌}
use mathlib.Core.List.{List, [], ◌∷◌, ◌++◌}
use native.Mathlib.Omega.{arith}
use Rattle.sheet.specs.declared.Operator.{Operator}
use Rattle.sheet.specs.Sheet.{Expression, negated, inverted, binary}
use Rattle.source.specs.Grammar.{level, Link, link, tree, bare, minus, invert}
use Rattle.source.proofs.Joining.{Front, nothing, negation, left_of, behind_front, tree_from, tree_end, tree_high}
use Rattle.source.proofs.Joining.{tree_middle, tree_low, tree_whole, by_level}

-- each operator is of level n or of a higher one
pub data From (n : ℕ) : List Link → Type 0 where
  empty : From n []
  more : {o : Operator} {r : Expression} {ls : List Link} → n ≤ level o → From n ls → From n (link o r ∷ ls)

-- all are of level n
pub data Only (n : ℕ) : List Link → Type 0 where
  empty : Only n []
  more : {o : Operator} {r : Expression} {ls : List Link} → level o ≡ n → Only n ls → Only n (link o r ∷ ls)

-- from left to right
unfoldable pub left_to_right : Expression → List Link → Expression
left_to_right e [] = e
left_to_right e (link o r ∷ ls) = left_to_right (binary o e r) ls

-- ---- what stands in front of a chain of higher levels stays in front of its tree

low_front : (u w : Front) (e : Expression) (ls : List Link) → From 2 ls
    → tree_from u w e ls ≡ behind_front u (tree_from nothing w e ls)
low_front u w e [] empty = tree_end u w e ∙ ap (behind_front u) (sym (tree_end nothing w e))
low_front u w e (link o r ∷ ls) (more h m) =
    by_level o
    (λ k. absurd (omega (arith, h, k)))
    (λ k. tree_middle u w e r o ls k
    ∙ low_front u (left_of o (behind_front w e)) r ls m
    ∙ ap (behind_front u) (sym (tree_middle nothing w e r o ls k)))
    (λ k. tree_high u w e r o ls k
    ∙ low_front u w (binary o e r) ls m
    ∙ ap (behind_front u) (sym (tree_high nothing w e r o ls k)))

middle_front : (w : Front) (e : Expression) (ls : List Link) → From 3 ls
    → tree_from nothing w e ls ≡ behind_front w (tree_from nothing nothing e ls)
middle_front w e [] empty = tree_end nothing w e ∙ ap (behind_front w) (sym (tree_end nothing nothing e))
middle_front w e (link o r ∷ ls) (more h m) =
    by_level o
    (λ k. absurd (omega (arith, h, k)))
    (λ k. absurd (omega (arith, h, k)))
    (λ k. tree_high nothing w e r o ls k
    ∙ middle_front w (binary o e r) ls m
    ∙ ap (behind_front w) (sym (tree_high nothing nothing e r o ls k)))

-- ---- the root

module _ (o : Operator) (y : Expression) (ys : List Link) where
  low_root : level o ≡ 1 → From 2 ys → (u w : Front) (e : Expression) (xs : List Link)
      → tree_from u w e (xs ++ link o y ∷ ys) ≡ binary o (tree_from u w e xs) (tree_from nothing nothing y ys)
  low_root k m u w e [] =
      tree_low u w e y o ys k
      ∙ low_front (left_of o (behind_front u (behind_front w e))) nothing y ys m
      ∙ ap (λ l. binary o l (tree_from nothing nothing y ys)) (sym (tree_end u w e))
  low_root k m u w e (link q r ∷ xs) =
      by_level q
      (λ h. tree_low u w e r q (xs ++ link o y ∷ ys) h
      ∙ low_root k m (left_of q (behind_front u (behind_front w e))) nothing r xs
      ∙ ap (λ l. binary o l (tree_from nothing nothing y ys)) (sym (tree_low u w e r q xs h)))
      (λ h. tree_middle u w e r q (xs ++ link o y ∷ ys) h
      ∙ low_root k m u (left_of q (behind_front w e)) r xs
      ∙ ap (λ l. binary o l (tree_from nothing nothing y ys)) (sym (tree_middle u w e r q xs h)))
      (λ h. tree_high u w e r q (xs ++ link o y ∷ ys) h
      ∙ low_root k m u w (binary q e r) xs
      ∙ ap (λ l. binary o l (tree_from nothing nothing y ys)) (sym (tree_high u w e r q xs h)))

  middle_root : level o ≡ 2 → From 3 ys → (w : Front) (e : Expression) (xs : List Link) → From 2 xs
      → tree_from nothing w e (xs ++ link o y ∷ ys) ≡ binary o (tree_from nothing w e xs) (tree_from nothing nothing y ys)
  middle_root k m w e [] empty =
      tree_middle nothing w e y o ys k
      ∙ middle_front (left_of o (behind_front w e)) y ys m
      ∙ ap (λ l. binary o l (tree_from nothing nothing y ys)) (sym (tree_end nothing w e))
  middle_root k m w e (link q r ∷ xs) (more g n) =
      by_level q
      (λ h. absurd (omega (arith, g, h)))
      (λ h. tree_middle nothing w e r q (xs ++ link o y ∷ ys) h
      ∙ middle_root k m (left_of q (behind_front w e)) r xs n
      ∙ ap (λ l. binary o l (tree_from nothing nothing y ys)) (sym (tree_middle nothing w e r q xs h)))
      (λ h. tree_high nothing w e r q (xs ++ link o y ∷ ys) h
      ∙ middle_root k m w (binary q e r) xs n
      ∙ ap (λ l. binary o l (tree_from nothing nothing y ys)) (sym (tree_high nothing w e r q xs h)))

high_root : (o : Operator) (y : Expression) (ys : List Link) → level o ≡ 3 → From 4 ys → (e : Expression) (xs : List Link) → From 3 xs
    → tree_from nothing nothing e (xs ++ link o y ∷ ys)
    ≡ binary o (tree_from nothing nothing e xs) (tree_from nothing nothing y ys)
high_root o y (link q r ∷ ys) k (more g m) e xs f =
    by_level q
    (λ h. absurd (omega (arith, g, h)))
    (λ h. absurd (omega (arith, g, h)))
    (λ h. absurd (omega (arith, g, h)))
high_root o y [] k empty e [] empty =
    tree_high nothing nothing e y o [] k
    ∙ tree_end nothing nothing (binary o e y)
    ∙ sym (ap (λ l. binary o l (tree_from nothing nothing y [])) (tree_end nothing nothing e) ∙ ap (binary o e) (tree_end nothing nothing y))
high_root o y [] k empty e (link q r ∷ xs) (more g n) =
    by_level q
    (λ h. absurd (omega (arith, g, h)))
    (λ h. absurd (omega (arith, g, h)))
    (λ h. tree_high nothing nothing e r q (xs ++ link o y ∷ []) h
    ∙ high_root o y [] k empty (binary q e r) xs n
    ∙ ap (λ l. binary o l (tree_from nothing nothing y [])) (sym (tree_high nothing nothing e r q xs h)))

-- ---- one level

low_fold : (u : Front) (e : Expression) (ls : List Link) → Only 1 ls → tree_from u nothing e ls ≡ left_to_right (behind_front u e) ls
unfolding left_to_right
low_fold u e [] empty = tree_end u nothing e
low_fold u e (link o r ∷ ls) (more h m) = tree_low u nothing e r o ls h ∙ low_fold (left_of o (behind_front u e)) r ls m

middle_fold : (w : Front) (e : Expression) (ls : List Link) → Only 2 ls
    → tree_from nothing w e ls ≡ left_to_right (behind_front w e) ls
unfolding left_to_right
middle_fold w e [] empty = tree_end nothing w e
middle_fold w e (link o r ∷ ls) (more h m) =
    tree_middle nothing w e r o ls h ∙ middle_fold (left_of o (behind_front w e)) r ls m

high_fold : (e : Expression) (ls : List Link) → Only 3 ls → tree_from nothing nothing e ls ≡ left_to_right e ls
unfolding left_to_right
high_fold e [] empty = tree_end nothing nothing e
high_fold e (link o r ∷ ls) (more h m) = tree_high nothing nothing e r o ls h ∙ high_fold (binary o e r) ls m

fold : (n : ℕ) (e : Expression) (ls : List Link) → Only n ls → tree_from nothing nothing e ls ≡ left_to_right e ls
unfolding left_to_right
fold n e [] empty = tree_end nothing nothing e
fold n e (link o r ∷ ls) (more h m) =
    by_level o
    (λ k. low_fold nothing e (link o r ∷ ls) (subst (λ j. Only j (link o r ∷ ls)) (sym h ∙ k) (more h m)))
    (λ k. middle_fold nothing e (link o r ∷ ls) (subst (λ j. Only j (link o r ∷ ls)) (sym h ∙ k) (more h m)))
    (λ k. high_fold e (link o r ∷ ls) (subst (λ j. Only j (link o r ∷ ls)) (sym h ∙ k) (more h m)))

-- ---- the statements

-- an operand alone
pub alone : (e : Expression) → tree bare e [] ≡ e
alone e = tree_whole bare e [] ∙ tree_end nothing nothing e

-- the last operator of the lowest level is the root
pub last_of_lowest : (o : Operator) (e y : Expression) (xs ys : List Link) → From (level o) xs → From (suc (level o)) ys
    → tree bare e (xs ++ link o y ∷ ys) ≡ binary o (tree bare e xs) (tree bare y ys)
last_of_lowest o e y xs ys f g =
    tree_whole bare e (xs ++ link o y ∷ ys)
    ∙ root
    ∙ sym (ap (λ l. binary o l (tree bare y ys)) (tree_whole bare e xs) ∙ ap (binary o (tree_from nothing nothing e xs)) (tree_whole bare y ys))
  where
    root : tree_from nothing nothing e (xs ++ link o y ∷ ys)
        ≡ binary o (tree_from nothing nothing e xs) (tree_from nothing nothing y ys)
    root =
        by_level o
        (λ k. low_root o y ys k (rw k at g) nothing nothing e xs)
        (λ k. middle_root o y ys k (rw k at g) nothing e xs (rw k at f))
        (λ k. high_root o y ys k (rw k at g) e xs (rw k at f))

-- "Equal levels go left to right."
pub equal_levels : (n : ℕ) (e : Expression) (ls : List Link) → Only n ls → tree bare e ls ≡ left_to_right e ls
equal_levels n e ls m = tree_whole bare e ls ∙ fold n e ls m

-- "`\`" is of the highest level: it takes the first operand
pub leading_not : (e : Expression) (ls : List Link) → tree invert e ls ≡ tree bare (inverted e) ls
leading_not e ls = tree_whole invert e ls ∙ sym (tree_whole bare (inverted e) ls)

-- "A leading minus has the lowest level": it takes a chain without operators of that level,
pub minus_takes : (e : Expression) (ls : List Link) → From 2 ls → tree minus e ls ≡ negated (tree bare e ls)
minus_takes e ls m = tree_whole minus e ls ∙ low_front negation nothing e ls m ∙ ap negated (sym (tree_whole bare e ls))

-- "that of binary `-`": and an operator of that level takes what is behind the minus with it
pub minus_taken : (o : Operator) (e y : Expression) (xs ys : List Link) → level o ≡ 1 → From 2 ys
    → tree minus e (xs ++ link o y ∷ ys) ≡ binary o (tree minus e xs) (tree bare y ys)
minus_taken o e y xs ys k m =
    tree_whole minus e (xs ++ link o y ∷ ys)
    ∙ low_root o y ys k m negation nothing e xs
    ∙ sym (ap (λ l. binary o l (tree bare y ys)) (tree_whole minus e xs) ∙ ap (binary o (tree_from negation nothing e xs)) (tree_whole bare y ys))
