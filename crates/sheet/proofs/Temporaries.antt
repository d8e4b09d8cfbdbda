-- T is the largest temporary that an order of the translation stores to: no more, and no fewer.
use Prim.Native.Nat.{ℕ, suc, ◌+◌, max}
use mathlib.Core.Path.{◌≡◌, refl, sym, ap, ap₂, ◌∙◌}
use mathlib.Core.Bool.{Bool, true, false}
use mathlib.Core.List.{List, [], ◌∷◌, ◌++◌}
use native.Mathlib.Omega.{arith}
use borrow.Author.Tests.{eq-eqb, ne_eqb}
use lib.Dec.{eqb}
use Rattle.base.specs.Choice.{pick}
use Rattle.base.proofs.Cases.{by_equal}
use Rattle.order.specs.declared.Operation.{Operation}
use Rattle.order.specs.declared.Operation.TheVariants.{Load, Cmp}
use Rattle.order.specs.declared.Order.{Order}
use Rattle.order.specs.declared.Order.TheVariants.{Word, Number, Store, Neg, Not, Skip, Branch, Send, Stop}
use Rattle.sheet.specs.Sheet.{Expression, word, constant, negated, inverted, binary, Operand, in_word, itself, worked_out, operand}
use Rattle.sheet.specs.Sheet.{Simple, set, send, goto, Condition, compares, joins, Part, end, plain, when, either, count, Sheet, sheet, variables}
use Rattle.sheet.specs.declared.Joining.TheVariants.{And, Or}
use Rattle.sheet.specs.Orders.{operation, temporary, joined, code, simple_code, simple_size, comparison_code}
use Rattle.sheet.specs.Orders.{joined_temporaries, temporaries, simple_temporaries, comparison_temporaries}
use Rattle.sheet.specs.Formed.{SimpleFormed}
use Rattle.sheet.specs.Condition.{trying, leaving, try_code, asking, asking_code, condition_temporaries}
use Rattle.sheet.specs.Translation.{size, first_order, part_code, translation, temporaries_of, sheet_temporaries}
use Rattle.sheet.specs.Temporaries.{temporary_of, stored_to, largest_stored}
use Rattle.sheet.specs.Within.{PartFormed, Formed}

-- ---- the temporaries that an expression uses, with d in use before it: none, or those up to d and its own

unfoldable pub raised : ℕ → ℕ → ℕ
raised d t = pick (eqb t 0) 0 (d + t)

pub raised_none : (d t : ℕ) → t ≡ 0 → raised d t ≡ 0
unfolding raised pick
raised_none d t e = rw (eq-eqb t 0 e) refl

pub raised_some : (d t : ℕ) → (t ≡ 0 → ⊥) → raised d t ≡ d + t
unfolding raised pick
raised_some d t n = rw (ne_eqb t 0 n) refl

pub raised_zero : (t : ℕ) → raised 0 t ≡ t
raised_zero t =
    by_equal t 0
    (λ e. raised_none 0 t e ∙ sym e)
    (λ n. let s = raised_some 0 t n in omega (arith, s))

raised_max : (d a b : ℕ) → raised d (max a b) ≡ max (raised d a) (raised d b)
raised_max d a b =
    by_equal a 0
    (λ e. let m : max a b ≡ b = omega (arith, e) in
    let r = raised_none d a e in
    ap (raised d) m ∙ (let z : raised d b ≡ max (raised d a) (raised d b) = omega (arith, r) in z))
    (λ n. let r = raised_some d a n in
    let s = raised_some d (max a b) (λ z. n (omega (arith, z))) in
    by_equal b 0
    (λ e. let q = raised_none d b e in omega (arith, r, s, q, e))
    (λ m. let q = raised_some d b m in omega (arith, r, s, q)))

-- two kept operands
raised_kept : (d t : ℕ) → d + max 2 (1 + t) ≡ max (d + 2) (raised (suc d) t)
raised_kept d t =
    by_equal t 0
    (λ e. let r = raised_none (suc d) t e in omega (arith, r, e))
    (λ n. let r = raised_some (suc d) t n in omega (arith, r))

pub raised_both : (d l r : ℕ) → raised d (max l (max 2 (1 + r))) ≡ max (raised d l) (max (d + 2) (raised (suc d) r))
raised_both d l r =
    raised_max d l (max 2 (1 + r))
    ∙ ap (max (raised d l)) (raised_some d (max 2 (1 + r)) (λ z. omega (arith, z)) ∙ raised_kept d r)

-- ---- the orders of expressions

module _ (v : ℕ) where
  stored_append : (l m : List Order) → largest_stored v (l ++ m) ≡ max (largest_stored v l) (largest_stored v m)
  unfolding largest_stored
  stored_append [] m = omega arith
  stored_append (o ∷ l) m = let rest = stored_append l m in omega (arith, rest)

  -- the word of temporary d, counted from 1
  word_of_law : (d : ℕ) → temporary_of v (temporary v d) ≡ d + 1
  word_of_law d = omega arith

  -- those of the left operand and of the right one, temporary d between them and d+1 behind them
  kept_most : (d l r : ℕ) → max (max l (max (d + 1) r)) (d + 2) ≡ max l (max (d + 2) r)
  kept_most d l r = omega arith

  joined_stored :
      (f : Operation) (d : ℕ) (o : Operand) (left right : List Order) (a b : ℕ)
      → largest_stored v left ≡ raised d a
      → largest_stored v right ≡ raised (suc d) b
      → largest_stored v (joined f v d o left right) ≡ raised d (joined_temporaries o a b)
  unfolding largest_stored
  joined_stored f d (in_word w) left right a b p q =
      let all = stored_append left (Word f w ∷ []) in omega (arith, all, p)
  joined_stored f d (itself n) left right a b p q =
      let all = stored_append left (Number f n ∷ []) in omega (arith, all, p)
  joined_stored f d worked_out left right a b p q =
      stored_append (left ++ Store (temporary v d) ∷ right)
      (Store (temporary v (suc d)) ∷ Word Load (temporary v d) ∷ Word f (temporary v (suc d)) ∷ [])
      ∙ ap₂ max
      (stored_append left (Store (temporary v d) ∷ right) ∙ ap₂ max p (ap₂ max (word_of_law d) q))
      (omega arith)
      ∙ kept_most d (raised d a) (raised (suc d) b)
      ∙ sym (raised_both d a b)

  code_stored : (d : ℕ) (e : Expression) → largest_stored v (code v d e) ≡ raised d (temporaries e)
  unfolding code temporaries largest_stored
  code_stored d (word w) = sym (raised_none d 0 refl)
  code_stored d (constant n) = sym (raised_none d 0 refl)
  code_stored d (negated e) =
      let all = stored_append (code v d e) (Neg ∷ []) in let same = code_stored d e in omega (arith, all, same)
  code_stored d (inverted e) =
      let all = stored_append (code v d e) (Not ∷ []) in let same = code_stored d e in omega (arith, all, same)
  code_stored d (binary o l r) =
      joined_stored (operation o) d (operand r) (code v d l) (code v (suc d) r) (temporaries l) (temporaries r)
      (code_stored d l) (code_stored (suc d) r)

  -- ---- of instructions

  comparison_stored : (a b : Expression) → largest_stored v (comparison_code v a b) ≡ comparison_temporaries a b
  comparison_stored a b =
      joined_stored Cmp 0 (operand b) (code v 0 a) (code v 1 b) (temporaries a) (temporaries b) (code_stored 0 a) (code_stored 1 b)
      ∙ raised_zero (comparison_temporaries a b)

  statement_stored : (e : Expression) (o : Order) → stored_to v o ≡ 0 → largest_stored v (code v 0 e ++ o ∷ []) ≡ temporaries e
  unfolding largest_stored
  statement_stored e o none =
      let all = stored_append (code v 0 e) (o ∷ []) in
      let same = code_stored 0 e ∙ raised_zero (temporaries e) in
      omega (arith, all, same, none)

  try_stored : (p : ℕ) (g : Bool) (y z : ℕ) (c : Condition) → largest_stored v (try_code v p g y z c) ≡ condition_temporaries c
  unfolding try_code condition_temporaries largest_stored
  try_stored p g y z (compares r a b) =
      let all = stored_append (comparison_code v a b) (Branch (leaving g r) (pick g z y) ∷ []) in
      let same = comparison_stored a b in
      omega (arith, all, same)
  try_stored p g y z (joins And a b) =
      let q = p + trying v a in
      stored_append (try_code v p true q z a) _ ∙ ap₂ max (try_stored p true q z a) (try_stored q g y z b)
  try_stored p g y z (joins Or a b) =
      let q = p + trying v a in
      stored_append (try_code v p false y q a) _ ∙ ap₂ max (try_stored p false y q a) (try_stored q g y z b)

  asking_stored : (p : ℕ) (c : Condition) (d : ℕ) → largest_stored v (asking_code v p c d) ≡ condition_temporaries c
  unfolding asking_code largest_stored
  asking_stored p (compares r a b) d = try_stored p true _ d (compares r a b)
  asking_stored p (joins w a b) d = omega (arith, try_stored (p + 1) true (p + asking v (joins w a b)) d (joins w a b))

  module _ (m : ℕ) (to : ℕ → ℕ) where
    -- SET stores to a variable
    simple_stored : (u : Simple) → SimpleFormed v m u → largest_stored v (simple_code v to u) ≡ simple_temporaries u
    unfolding largest_stored
    simple_stored (set w e) x = statement_stored e (Store w) (omega (arith, x.0.1))
    simple_stored (send e) x = statement_stored e Send refl
    simple_stored (goto s) x = omega arith

    part_stored : (p : ℕ) (x : Part) → PartFormed v m x → largest_stored v (part_code v to p x) ≡ temporaries_of x
    unfolding part_code PartFormed temporaries_of largest_stored
    part_stored p end f = refl
    part_stored p (plain u l) f =
        let d = p + simple_size v u in
        stored_append (simple_code v to u) (part_code v to d l) ∙ ap₂ max (simple_stored u f.0) (part_stored d l f.1)
    part_stored p (when c x l) f =
        let b = p + asking v c in
        let z = b + size v x in
        stored_append (asking_code v p c z) _
        ∙ ap₂ max (asking_stored p c z)
        (stored_append (part_code v to b x) (part_code v to z l) ∙ ap₂ max (part_stored b x f.2) (part_stored z l f.3))
    part_stored p (either c x y l) f =
        let b = p + asking v c in
        let d = b + size v x + 1 in
        let z = d + size v y in
        let seconds = part_code v to d y ++ part_code v to z l in
        let over : largest_stored v (Skip z ∷ seconds) ≡ largest_stored v seconds = omega arith in
        stored_append (asking_code v p c d) _
        ∙ ap₂ max (asking_stored p c d)
        (stored_append (part_code v to b x) (Skip z ∷ seconds)
        ∙ ap₂ max (part_stored b x f.3)
        (over
        ∙ stored_append (part_code v to d y) (part_code v to z l)
        ∙ ap₂ max (part_stored d y f.4) (part_stored z l f.5)))

-- "T is the most that any statement uses."
pub temporaries_stored : (s : Sheet) → Formed s → largest_stored (variables s) (translation s) ≡ sheet_temporaries s
unfolding largest_stored
temporaries_stored (sheet v x) f =
    let all = stored_append v (part_code v (first_order v x) 0 x) (Stop ∷ []) in
    let most = part_stored v (count x) (first_order v x) 0 x f in
    omega (arith, all, most)
