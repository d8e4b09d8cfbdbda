-- The levels of specs/Syntax against chains: what is of a level is a sign, an operand and links, of which it is the tree; and
-- the tree of every such chain is an expression.
use Prim.Native.Nat.{ℕ, suc, ◌≤◌}
use mathlib.Core.Path.{◌≡◌, sym, ap, subst, ◌∙◌}
use mathlib.Core.List.{List, [], ◌∷◌, ◌++◌, append_assoc, append-nil}
use native.Mathlib.Omega.{arith}
use Rattle.sheet.specs.declared.Operator.{Operator}
use Rattle.sheet.specs.declared.Operator.TheVariants.{Minus}
use Rattle.sheet.specs.Sheet.{Expression, negated, inverted, binary}
use Rattle.source.specs.declared.Token.{Token}
use Rattle.source.specs.declared.Token.TheVariants.{Binary, Mark}
use Rattle.source.specs.Tokens.{mark_invert}
use Rattle.source.specs.Grammar.{level, Link, link, Lead, bare, minus, invert, tree}
use Rattle.source.specs.Syntax.{Place, first, later, Operand, Level, operand, inverse, higher, operation, minus as negative}
use Rattle.source.proofs.Joining.{Front, nothing, negation, left_of, behind_front, tree_from, tree_end, tree_high}
use Rattle.source.proofs.Joining.{tree_middle, tree_low, tree_whole, by_level}
use Rattle.source.proofs.Chains.{From, empty, more, alone, last_of_lowest, leading_not, minus_takes, minus_taken}

-- operators and the operands behind them
pub data Links : List Token → List Link → Type 0 where
  none : Links [] []
  linked : (o : Operator) {ts us : List Token} {e : Expression} {ls : List Link} → Operand ts e → Links us ls
      → Links (Binary o ∷ (ts ++ us)) (link o e ∷ ls)

abbrev pub lead_tokens : Lead → List Token
lead_tokens bare = []
lead_tokens minus = Binary Minus ∷ []
lead_tokens invert = Mark mark_invert ∷ []

-- where a sign may stand: only a beginning has one, and a minus is of level 1
pub data Begins : Place → ℕ → Lead → Type 0 where
  unsigned : {p : Place} {n : ℕ} → Begins p n bare
  by_minus : {n : ℕ} → n ≤ 1 → Begins first n minus
  by_invert : {n : ℕ} → Begins first n invert

pub data Chained : Place → ℕ → List Token → Expression → Type 0 where
  chained : {p : Place} {n : ℕ} (l : Lead) {ts us : List Token} {e : Expression} {ls : List Link}
      → Begins p n l → Operand ts e → Links us ls → From n ls → Chained p n (lead_tokens l ++ (ts ++ us)) (tree l e ls)

-- ---- from levels to chains

from_lower : (n : ℕ) (ls : List Link) → From (suc n) ls → From n ls
from_lower n [] empty = empty
from_lower n (link o r ∷ ls) (more h m) = more {o = o} (omega (arith, h)) (from_lower n ls m)

from_append : (o : Operator) (e : Expression) (xs ys : List Link) → From (level o) xs → From (suc (level o)) ys
    → From (level o) (xs ++ link o e ∷ ys)
from_append o e [] ys empty g = more {o = o} (omega arith) (from_lower (level o) ys g)
from_append o e (link q r ∷ xs) ys (more h f) g = more h (from_append o e xs ys f g)

links_append : (o : Operator) {xs ts us : List Token} {e : Expression} {ks ls : List Link} → Links xs ks → Operand ts e → Links us ls
    → Links (xs ++ Binary o ∷ (ts ++ us)) (ks ++ link o e ∷ ls)
links_append o none x l = linked o x l
links_append o {ts = vs} {us = ws} (linked q {ts = ts} {us = us} y k) x l =
    rw (append_assoc ts us (Binary o ∷ (vs ++ ws))) (linked q y (links_append o k x l))

begins_lower : {p : Place} {n : ℕ} {l : Lead} → Begins p (suc n) l → Begins p n l
begins_lower unsigned = unsigned
begins_lower {n = n} (by_minus h) = by_minus {n = n} (omega (arith, h))
begins_lower by_invert = by_invert

-- a last operator of the lowest level, behind any sign
sign_root : {p : Place} {l : Lead} (o : Operator) (e y : Expression) (xs ys : List Link) → Begins p (level o) l
    → From (level o) xs → From (suc (level o)) ys → tree l e (xs ++ link o y ∷ ys) ≡ binary o (tree l e xs) (tree bare y ys)
sign_root o e y xs ys unsigned f g = last_of_lowest o e y xs ys f g
sign_root o e y xs ys by_invert f g =
    leading_not e (xs ++ link o y ∷ ys)
    ∙ last_of_lowest o (inverted e) y xs ys f g
    ∙ ap (λ l. binary o l (tree bare y ys)) (sym (leading_not e xs))
sign_root o e y xs ys (by_minus h) f g =
    by_level o
    (λ k. minus_taken o e y xs ys k (rw k at g))
    (λ k. absurd (omega (arith, h, k)))
    (λ k. absurd (omega (arith, h, k)))

chain_higher : {p : Place} {n : ℕ} {ts : List Token} {e : Expression} → Chained p (suc n) ts e → Chained p n ts e
chain_higher {n = n} (chained l {ls = ls} b x k f) = chained l (begins_lower b) x k (from_lower n ls f)

chain_operation : {p : Place} {ts us : List Token} {e r : Expression} (o : Operator) → Chained p (level o) ts e
    → Chained later (suc (level o)) us r → Chained p (level o) (ts ++ Binary o ∷ us) (binary o e r)
chain_operation o (chained l {ts = ts} {us = us} {e = e} {ls = xs} b x k f) (chained bare {ts = vs} {us = ws} {e = y} {ls = ys} unsigned z m g) =
    rw (append_assoc (lead_tokens l) (ts ++ us) (Binary o ∷ (vs ++ ws)), append_assoc ts us (Binary o ∷ (vs ++ ws)), ← sign_root o e y xs ys b f g)
    (chained l b x (links_append o k z m) (from_append o y xs ys f g))
chain_operation {p = p} o (chained l {ts = ts} {us = us} {e = e} {ls = xs} b x k f) (chained minus {ts = vs} {us = ws} {e = y} {ls = ys} x20 z m g) = elim x20 [ ]
chain_operation {p = p} o (chained l {ts = ts} {us = us} {e = e} {ls = xs} b x k f) (chained invert {ts = vs} {us = ws} {e = y} {ls = ys} x21 z m g) = elim x21 [ ]

chain_minus : {ts : List Token} {e : Expression} → Chained later 2 ts e → Chained first 1 (Binary Minus ∷ ts) (negated e)
chain_minus (chained bare {e = e} {ls = ls} unsigned x k f) =
    rw (← minus_takes e ls f) (chained minus (by_minus {n = 1} (omega arith)) x k (from_lower 1 ls f))
chain_minus (chained minus {ts = ts} {us = us} {e = e} {ls = ls} x12 x k f) = elim x12 [ ]
chain_minus (chained invert {ts = ts} {us = us} {e = e} {ls = ls} x13 x k f) = elim x13 [ ]

chain_operand : {p : Place} {l : Lead} {ts : List Token} {e f : Expression} → Begins p 4 l → Operand ts e → tree l e [] ≡ f
    → Chained p 4 (lead_tokens l ++ ts) f
chain_operand {p} {l} {ts} {e} b x t =
    subst (Chained p 4 (lead_tokens l ++ ts)) t
    (subst (λ us. Chained p 4 (lead_tokens l ++ us) (tree l e [])) (append-nil ts) (chained l b x none empty))

pub level_chain : {p : Place} {n : ℕ} {ts : List Token} {e : Expression} → Level p n ts e → Chained p n ts e
level_chain (operand {e = e} x) = chain_operand unsigned x (alone e)
level_chain (inverse {e = e} x) = chain_operand by_invert x (leading_not e [] ∙ alone (inverted e))
level_chain (higher d) = chain_higher (level_chain d)
level_chain (operation o d c) = chain_operation o (level_chain d) (level_chain c)
level_chain (negative d) = chain_minus (level_chain d)

-- ---- from chains to levels

-- two of a level that is told as a number
pub operation_at : {p : Place} {n : ℕ} {ts us : List Token} {l r : Expression} (o : Operator) → level o ≡ n → Level p n ts l
    → Level later (suc n) us r → Level p n (ts ++ Binary o ∷ us) (binary o l r)
operation_at {p} {n} {ts} {us} {l} {r} o k =
    subst (λ m. Level p m ts l → Level later (suc m) us r → Level p m (ts ++ Binary o ∷ us) (binary o l r)) k (operation o)

-- what stands at a place before an operand at another place: nothing, a leading minus, or a left operand and an operator
data Before : Place → Place → ℕ → List Token → Front → Type 0 where
  none_before : {p : Place} {n : ℕ} → Before p p n [] nothing
  minus_before : Before first later 1 (Binary Minus ∷ []) negation
  left_before : {p : Place} {n : ℕ} {ts : List Token} {l : Expression} (o : Operator) → level o ≡ n → Level p n ts l
      → Before p later n (ts ++ Binary o ∷ []) (left_of o l)

behind : {p q : Place} {n : ℕ} {ts us : List Token} {u : Front} {e : Expression} → Before p q n ts u → Level q (suc n) us e
    → Level p n (ts ++ us) (behind_front u e)
behind none_before d = higher d
behind minus_before d = negative d
behind {us = us} (left_before {ts = ts} o k c) d = rw (append_assoc ts (Binary o ∷ []) us) (operation_at o k c d)

chain_level : {p q s : Place} {ts us vs xs : List Token} {u w : Front} {e : Expression} {ls : List Link}
    → Before p q 1 ts u → Before q s 2 us w → Level s 3 vs e → Links xs ls → Level p 1 (ts ++ (us ++ (vs ++ xs))) (tree_from u w e ls)
chain_level {vs = vs} {u = u} {w = w} {e = e} a b d none = rw (append-nil vs, tree_end u w e) (behind a (behind b d))
chain_level {u = u} {w = w} {e = e} a b d (linked o {e = r} {ls = ls} x k) =
    by_level o
    (λ h. rw (tree_low u w e r o ls h)
    (simp append_assoc at (chain_level (left_before o h (behind a (behind b d))) none_before (higher (operand x)) k)))
    (λ h. rw (tree_middle u w e r o ls h)
    (simp append_assoc at (chain_level a (left_before o h (behind b d)) (higher (operand x)) k)))
    (λ h. rw (tree_high u w e r o ls h)
    (simp append_assoc at (chain_level a b (operation_at o h d (operand x)) k)))

-- the tree of a chain without a sign, wherever it stands, and behind each sign
pub bare_level : (p : Place) {ts us : List Token} {e : Expression} {ls : List Link} → Operand ts e → Links us ls
    → Level p 1 (ts ++ us) (tree bare e ls)
bare_level p {e = e} {ls = ls} x k = rw (tree_whole bare e ls) (chain_level none_before none_before (higher (operand x)) k)

pub sign_level : (l : Lead) {ts us : List Token} {e : Expression} {ls : List Link} → Operand ts e → Links us ls
    → Level first 1 (lead_tokens l ++ (ts ++ us)) (tree l e ls)
sign_level bare x k = bare_level first x k
sign_level minus {e = e} {ls = ls} x k = rw (tree_whole minus e ls) (chain_level minus_before none_before (higher (operand x)) k)
sign_level invert {e = e} {ls = ls} x k = rw (tree_whole invert e ls) (chain_level none_before none_before (higher (inverse x)) k)
