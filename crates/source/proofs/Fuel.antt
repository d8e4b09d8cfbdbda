-- The fuel of `expression_in` decides nothing once it is the number of tokens; and a leading plus does not matter.
use Prim.Native.Nat.{ℕ, zero, suc, ◌+◌, ◌<◌, ◌≤◌}
use mathlib.Core.Path.{◌≡◌, refl, sym, ap, ◌∙◌}
use mathlib.Core.Bool.{Bool, true, false}
use mathlib.Core.List.{List, [], ◌∷◌, ◌++◌}
use native.Mathlib.Omega.{arith}
use lib.Dec.{eqb}
use lib.ListN.{length, length-append}
use borrow.Author.Tests.{ne_eqb}
use Rattle.base.specs.Choice.{pick}
use Rattle.base.proofs.Cases.{pick_no}
use Rattle.sheet.specs.declared.Operator.TheVariants.{Plus, Minus, Times, Over, Power, Left, Right, And, Or, Unlike}
use Rattle.sheet.specs.Sheet.{Expression}
use Rattle.source.specs.declared.Token.{Token}
use Rattle.source.specs.declared.Token.TheVariants.{Name, Number, Quoted, Binary, Compare, Mark}
use Rattle.source.specs.Tokens.{mark_open, mark_close, mark_invert}
use Rattle.source.specs.Grammar.{Read, read, none, next, past, operand_by, links_by, chain_by, link}
use Rattle.source.specs.Grammar.{expression_in, expression, Start, start, start_of, bare, invert, tree}
use Rattle.source.specs.Syntax.{Operand, Expressed}
use Rattle.source.proofs.ExpressionsRead.{operand_some}
use Rattle.source.proofs.ReadSyntax.{Taken, taken, nothing, operand_taken, in_taken}

-- ---- what is read is taken from the front

-- fewer tokens are left
abbrev Shorter : {A : Type 0} → List Token → Read A → Type 0
Shorter ts (read a rest) = length rest < length ts
Shorter ts none = Unit {0}

-- what follows agrees where it agrees on fewer tokens
next_same : {A B : Type 0} (ts : List Token) (x y : Read A) (f g : A → List Token → Read B) → x ≡ y → Shorter ts x
    → ((a : A) (rest : List Token) → length rest < length ts → f a rest ≡ g a rest) → next x f ≡ next y g
unfolding next
next_same ts none y f g e h s = rw (← e) refl
next_same ts (read a rest) y f g e h s = rw (← e) (s a rest h)

operand_shorter : {ts : List Token} {x : Read Expression} → Taken Operand ts x → Shorter ts x
operand_shorter (taken {ts = us} x rest) =
    let size : length (us ++ rest) ≡ length us + length rest = length-append us rest in
    let some : 1 ≤ length us = operand_some x in
    omega (arith, size, some)
operand_shorter nothing = tt

-- the tokens behind what an expression begins with
abbrev behind_start : Start → List Token
behind_start (start l ts) = ts

start_shorter : (ts : List Token) → length (behind_start (start_of ts)) ≤ length ts
unfolding start_of pick
start_shorter [] = omega arith
start_shorter (Name w ∷ ts) = omega arith
start_shorter (Number n ∷ ts) = omega arith
start_shorter (Quoted n ∷ ts) = omega arith
start_shorter (Compare r ∷ ts) = omega arith
start_shorter (Binary Plus ∷ ts) = omega arith
start_shorter (Binary Minus ∷ ts) = omega arith
start_shorter (Binary Times ∷ ts) = omega arith
start_shorter (Binary Over ∷ ts) = omega arith
start_shorter (Binary Power ∷ ts) = omega arith
start_shorter (Binary Left ∷ ts) = omega arith
start_shorter (Binary Right ∷ ts) = omega arith
start_shorter (Binary And ∷ ts) = omega arith
start_shorter (Binary Or ∷ ts) = omega arith
start_shorter (Binary Unlike ∷ ts) = omega arith
start_shorter (Mark m ∷ ts) = go (eqb m mark_invert)
  where
    go : (b : Bool) → length (behind_start (pick b (start invert ts) (start bare (Mark m ∷ ts)))) ≤ suc (length ts)
    go true = omega arith
    go false = omega arith

-- ---- two readers of brackets that agree on m tokens

module _ (inner other : List Token → Read Expression) (inner_taken : (ts : List Token) → Taken Expressed ts (inner ts)) (m : ℕ)
    (same : (ts : List Token) → length ts ≤ m → inner ts ≡ other ts) where
  operand_same : (ts : List Token) → length ts ≤ suc m → operand_by inner ts ≡ operand_by other ts
  unfolding operand_by
  operand_same [] h = refl
  operand_same (Name w ∷ ts) h = refl
  operand_same (Number n ∷ ts) h = refl
  operand_same (Quoted n ∷ ts) h = refl
  operand_same (Binary o ∷ ts) h = refl
  operand_same (Compare r ∷ ts) h = refl
  operand_same (Mark n ∷ ts) h =
      ap (λ x. pick (eqb n mark_open) (next x (λ e rest. past mark_close rest (λ l. read e l))) none)
      (same ts (omega (arith, h)))

  links_same : (p q : ℕ) (ts : List Token) → length ts < p → length ts < q → length ts ≤ suc (suc m)
      → links_by inner p ts ≡ links_by other q ts
  unfolding links_by
  links_same zero q ts f g h = absurd (omega (arith, f))
  links_same (suc p) zero ts f g h = absurd (omega (arith, g))
  links_same (suc p) (suc q) [] f g h = refl
  links_same (suc p) (suc q) (Name w ∷ ts) f g h = refl
  links_same (suc p) (suc q) (Number n ∷ ts) f g h = refl
  links_same (suc p) (suc q) (Quoted n ∷ ts) f g h = refl
  links_same (suc p) (suc q) (Compare r ∷ ts) f g h = refl
  links_same (suc p) (suc q) (Mark n ∷ ts) f g h = refl
  links_same (suc p) (suc q) (Binary o ∷ ts) f g h =
      next_same ts (operand_by inner ts) (operand_by other ts) _ _ (operand_same ts (omega (arith, h)))
      (operand_shorter (operand_taken inner inner_taken ts))
      (λ e rest s. ap (λ y. next y (λ ls l. read (link o e ∷ ls) l))
      (links_same p q rest (omega (arith, s, f)) (omega (arith, s, g)) (omega (arith, s, h))))

  chain_same : (p q : ℕ) (s : Start) → length (behind_start s) ≤ suc m → length (behind_start s) ≤ p
      → length (behind_start s) ≤ q → chain_by inner p s ≡ chain_by other q s
  chain_same p q (start l ts) h f g =
      next_same ts (operand_by inner ts) (operand_by other ts) _ _ (operand_same ts h) (operand_shorter (operand_taken inner inner_taken ts))
      (λ e rest s. ap (λ y. next y (λ ls others. read (tree l e ls) others))
      (links_same p q rest (omega (arith, s, f)) (omega (arith, s, g)) (omega (arith, s, h))))

no_tokens : (k : ℕ) → expression_in k [] ≡ none
unfolding expression_in start_of operand_by next
no_tokens zero = refl
no_tokens (suc k) = refl

abbrev StableAt : ℕ → Type 0
StableAt m =
    (ts : List Token) → length ts ≤ m → (k j : ℕ) → length ts ≤ k → length ts ≤ j → expression_in k ts ≡ expression_in j ts

stable_none : StableAt 0
stable_none [] h k j f g = no_tokens k ∙ sym (no_tokens j)
stable_none (t ∷ ts) h k j f g = absurd (omega (arith, h))

stable_more : (m : ℕ) → StableAt m → StableAt (suc m)
unfolding expression_in
stable_more m ih [] h k j f g = no_tokens k ∙ sym (no_tokens j)
stable_more m ih (t ∷ ts) h zero j f g = absurd (omega (arith, f))
stable_more m ih (t ∷ ts) h (suc k) zero f g = absurd (omega (arith, g))
stable_more m ih (t ∷ ts) h (suc k) (suc j) f g =
    let s : length (behind_start (start_of (t ∷ ts))) ≤ suc (length ts) = start_shorter (t ∷ ts) in
    chain_same (expression_in k) (expression_in j) (in_taken k) (length ts)
    (λ us i. ih us (omega (arith, h, i)) k j (omega (arith, f, i)) (omega (arith, g, i)))
    (suc k) (suc j) (start_of (t ∷ ts)) s (omega (arith, s, f)) (omega (arith, s, g))

stable : (m : ℕ) → StableAt m
stable zero = stable_none
stable (suc m) = stable_more m (stable m)

-- ---- the statements

-- any fuel that is enough gives the same
pub enough_fuel : (k : ℕ) (ts : List Token) → length ts ≤ k → expression_in k ts ≡ expression ts
enough_fuel k ts h = stable (length ts) ts (omega arith) k (length ts) h (omega arith)

-- no +, - or \ stands at the front
abbrev pub Unsigned : List Token → Type 0
Unsigned [] = Unit {0}
Unsigned (Name w ∷ ts) = Unit {0}
Unsigned (Number n ∷ ts) = Unit {0}
Unsigned (Quoted n ∷ ts) = Unit {0}
Unsigned (Binary o ∷ ts) = (o ≡ Plus → ⊥) × (o ≡ Minus → ⊥)
Unsigned (Compare r ∷ ts) = Unit {0}
Unsigned (Mark m ∷ ts) = m ≡ mark_invert → ⊥

unsigned_start : (ts : List Token) → Unsigned ts → start_of ts ≡ start bare ts
unfolding start_of
unsigned_start [] h = refl
unsigned_start (Name w ∷ ts) h = refl
unsigned_start (Number n ∷ ts) h = refl
unsigned_start (Quoted n ∷ ts) h = refl
unsigned_start (Binary Plus ∷ ts) h = absurd (h.0 refl)
unsigned_start (Binary Minus ∷ ts) h = absurd (h.1 refl)
unsigned_start (Binary Times ∷ ts) h = refl
unsigned_start (Binary Over ∷ ts) h = refl
unsigned_start (Binary Power ∷ ts) h = refl
unsigned_start (Binary Left ∷ ts) h = refl
unsigned_start (Binary Right ∷ ts) h = refl
unsigned_start (Binary And ∷ ts) h = refl
unsigned_start (Binary Or ∷ ts) h = refl
unsigned_start (Binary Unlike ∷ ts) h = refl
unsigned_start (Compare r ∷ ts) h = refl
unsigned_start (Mark m ∷ ts) h = sym (pick_no _ _ _ _ (ne_eqb m mark_invert h) refl)

-- "a leading plus left out"
pub leading_plus : (ts : List Token) → Unsigned ts → expression (Binary Plus ∷ ts) ≡ expression ts
unfolding expression_in start_of
leading_plus ts h =
    ap (chain_by (expression_in (length ts)) (suc (length ts))) (sym (unsigned_start ts h))
    ∙ enough_fuel (suc (length ts)) ts (omega arith)
