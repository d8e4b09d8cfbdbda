-- The tree of a chain, link by link from the left. On the way the chain read so far is an operand of the highest level inside
-- a term of the middle level inside a sum of the lowest level.
use Prim.Native.Nat.{ℕ}
use mathlib.Core.Path.{◌≡◌, refl, sym, ap, ◌∙◌}
use mathlib.Core.List.{List, [], ◌∷◌}
use native.Mathlib.Omega.{arith}
use borrow.Author.Tests.{eq-eqb, ne_eqb}
use Rattle.base.proofs.Cases.{pick_yes, pick_no}
use Rattle.sheet.specs.declared.Operator.{Operator}
use Rattle.sheet.specs.declared.Operator.TheVariants.{Plus, Minus, Times, Over, Power, Left, Right, And, Or, Unlike}
use Rattle.sheet.specs.Sheet.{Expression, negated, binary}
use Rattle.source.specs.Grammar.{level, Link, link, Chain, chain, before, joined, joined_chain, first_operand, tree}
use Rattle.source.specs.Grammar.{Lead, bare, minus, invert, highest, lowest}

-- what stands in front of an operand: nothing, a leading minus, or a left operand and an operator
pub data Front : Type 0 where
  nothing : Front
  negation : Front
  left_of : Operator → Expression → Front

abbrev pub behind_front : Front → Expression → Expression
behind_front nothing e = e
behind_front negation e = negated e
behind_front (left_of o l) e = binary o l e

abbrev pub on_first : Front → Chain → Chain
on_first u (chain e ls) = chain (behind_front u e) ls

-- the tree of a chain that begins with e, behind a front of the middle level and one of the lowest
pub tree_from : Front → Front → Expression → List Link → Expression
tree_from u w e ls = first_operand (joined_chain 1 (on_first u (joined_chain 2 (on_first w (joined 3 e ls)))))

joined_here : (n : ℕ) (e r : Expression) (o : Operator) (ls : List Link) → level o ≡ n
    → joined n e (link o r ∷ ls) ≡ joined n (binary o e r) ls
unfolding joined
joined_here n e r o ls h = sym (pick_yes _ _ _ _ (eq-eqb _ _ h) refl)

joined_past : (n : ℕ) (e r : Expression) (o : Operator) (ls : List Link) → (level o ≡ n → ⊥)
    → joined n e (link o r ∷ ls) ≡ before e o (joined n r ls)
unfolding joined
joined_past n e r o ls h = sym (pick_no _ _ _ _ (ne_eqb _ _ h) refl)

pub tree_end : (u w : Front) (e : Expression) → tree_from u w e [] ≡ behind_front u (behind_front w e)
unfolding tree_from joined
tree_end u w e = refl

-- an operator of the highest level takes the operand before it
pub tree_high : (u w : Front) (e r : Expression) (o : Operator) (ls : List Link) → level o ≡ 3
    → tree_from u w e (link o r ∷ ls) ≡ tree_from u w (binary o e r) ls
unfolding tree_from
tree_high u w e r o ls h =
    ap (λ c. first_operand (joined_chain 1 (on_first u (joined_chain 2 (on_first w c))))) (joined_here 3 e r o ls h)

-- one of the middle level takes the term before it
pub tree_middle : (u w : Front) (e r : Expression) (o : Operator) (ls : List Link) → level o ≡ 2
    → tree_from u w e (link o r ∷ ls) ≡ tree_from u (left_of o (behind_front w e)) r ls
unfolding tree_from
tree_middle u w e r o ls h =
    ap (λ c. first_operand (joined_chain 1 (on_first u (joined_chain 2 (on_first w c)))))
    (joined_past 3 e r o ls (λ k. absurd (omega (arith, h, k))))
    ∙ ap (λ c. first_operand (joined_chain 1 (on_first u c))) (second (joined 3 r ls))
  where
    second : (c : Chain) → joined_chain 2 (on_first w (before e o c)) ≡ joined_chain 2 (on_first (left_of o (behind_front w e)) c)
    second (chain s ms) = joined_here 2 (behind_front w e) s o ms h

-- one of the lowest level takes all before it
pub tree_low : (u w : Front) (e r : Expression) (o : Operator) (ls : List Link) → level o ≡ 1
    → tree_from u w e (link o r ∷ ls) ≡ tree_from (left_of o (behind_front u (behind_front w e))) nothing r ls
unfolding tree_from
tree_low u w e r o ls h =
    ap (λ c. first_operand (joined_chain 1 (on_first u (joined_chain 2 (on_first w c)))))
    (joined_past 3 e r o ls (λ k. absurd (omega (arith, h, k))))
    ∙ ap (λ c. first_operand (joined_chain 1 (on_first u c))) (second (joined 3 r ls))
    ∙ ap first_operand (third (joined_chain 2 (on_first nothing (joined 3 r ls))))
  where
    second : (c : Chain)
        → joined_chain 2 (on_first w (before e o c)) ≡ before (behind_front w e) o (joined_chain 2 (on_first nothing c))
    second (chain s ms) = joined_past 2 (behind_front w e) s o ms (λ k. absurd (omega (arith, h, k)))

    third : (c : Chain)
        → joined_chain 1 (on_first u (before (behind_front w e) o c))
        ≡ joined_chain 1 (on_first (left_of o (behind_front u (behind_front w e))) c)
    third (chain s ms) = joined_here 1 (behind_front u (behind_front w e)) s o ms h

-- what a leading sign is to the chain behind it
abbrev pub lead_front : Lead → Front
lead_front bare = nothing
lead_front minus = negation
lead_front invert = nothing

-- a chain as the definitions have it
pub tree_whole : (l : Lead) (e : Expression) (ls : List Link) → tree l e ls ≡ tree_from (lead_front l) nothing (highest l e) ls
unfolding tree_from
tree_whole l e ls =
    ap (λ c. first_operand (joined_chain 1 (lowest l (joined_chain 2 c)))) (sym (same (joined 3 (highest l e) ls)))
    ∙ ap (λ c. first_operand (joined_chain 1 c)) (front l (joined_chain 2 (on_first nothing (joined 3 (highest l e) ls))))
  where
    same : (c : Chain) → on_first nothing c ≡ c
    same (chain s ms) = refl

    front : (m : Lead) (c : Chain) → lowest m c ≡ on_first (lead_front m) c
    front bare c = sym (same c)
    front minus (chain s ms) = refl
    front invert c = sym (same c)

-- an operator is of one of three levels
pub by_level : {P : Type 0} (o : Operator) → (level o ≡ 1 → P) → (level o ≡ 2 → P) → (level o ≡ 3 → P) → P
by_level Plus a b c = a refl
by_level Minus a b c = a refl
by_level Times a b c = b refl
by_level Over a b c = b refl
by_level Power a b c = c refl
by_level Left a b c = c refl
by_level Right a b c = c refl
by_level And a b c = b refl
by_level Or a b c = a refl
by_level Unlike a b c = a refl
