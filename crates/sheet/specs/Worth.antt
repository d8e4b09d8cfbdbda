-- What expressions, comparisons and the instructions that are no IF come to, document 01: "laid down on its instructions and the
-- word arithmetic, never by running orders. It counts, for each instruction done, the orders of the path it takes, .. and in a
-- faulting one the orders before the fault." Comments in quotes are document 01's words.
use Rattle.std.specs.Prelude.{ℕ, ◌+◌, Bool, List, [], ◌∷◌, ◌++◌, ltb, length, get_or, set as put}
use Rattle.base.specs.Choice.{pick}
use Rattle.word.specs.declared.Relation.{Relation}
use Rattle.word.specs.Word.{Outcome, value, fault, sum, difference, product, negation, quotient, power, shift_left, shift_right}
use Rattle.word.specs.Word.{and_bits, or_bits, xor_bits, not_bits, related}
use Rattle.sheet.specs.declared.Operator.{Operator}
use Rattle.sheet.specs.declared.Operator.TheVariants.{Plus, Minus, Times, Over, Power, Left, Right, And, Or, Unlike}
use Rattle.sheet.specs.Sheet.{Expression, word, constant, negated, inverted, binary, Simple, set, send, goto}
use Rattle.sheet.specs.Sheet.{Operand, in_word, itself, worked_out, operand}

-- ---- what is worked out, with the count of its orders

-- what it comes to, and the orders of the path taken; or the fault, and the orders before it
pub data Counted (A : Type 0) : Type 0 where
  gives : A → ℕ → Counted A
  faults : ℕ → ℕ → Counted A

-- k orders before it
abbrev pub behind : {A : Type 0} → ℕ → Counted A → Counted A
behind k (gives a j) = gives a (k + j)
behind k (faults n j) = faults n (k + j)

-- one thing, then what follows from it
abbrev pub and_then : {A B : Type 0} → Counted A → (A → Counted B) → Counted B
and_then (gives a k) f = behind k (f a)
and_then (faults n k) f = faults n k

-- one order, which may be the one that faults
abbrev pub by_order : Outcome → Counted ℕ
by_order (value a) = gives a 1
by_order (fault n) = faults n 0

-- ---- expressions: `ws` gives the value of each word by its number

abbrev pub apply : Operator → ℕ → ℕ → Outcome
apply Plus a b = value (sum a b)
apply Minus a b = value (difference a b)
apply Times a b = value (product a b)
apply Over a b = quotient a b
apply Power a b = power a b
apply Left a b = shift_left a b
apply Right a b = shift_right a b
apply And a b = value (and_bits a b)
apply Or a b = value (or_bits a b)
apply Unlike a b = value (xor_bits a b)

-- "Operands are worked out left first." A plain right operand takes no order of its own; another one takes an order that
-- keeps the left operand, its own orders, and two that bring both together
abbrev pub both : {A : Type 0} → (ℕ → ℕ → Counted A) → List ℕ → Operand → Counted ℕ → Counted ℕ → Counted A
both f ws (in_word w) left right = and_then left (λ a. f a (get_or ws w 0))
both f ws (itself n) left right = and_then left (λ a. f a n)
both f ws worked_out left right = and_then left (λ a. and_then (behind 1 right) (λ b. behind 2 (f a b)))

unfoldable pub worth : List ℕ → Expression → Counted ℕ
worth ws (word w) = gives (get_or ws w 0) 1
worth ws (constant n) = gives n 1
worth ws (negated e) = and_then (worth ws e) (λ a. gives (negation a) 1)
worth ws (inverted e) = and_then (worth ws e) (λ a. gives (not_bits a) 1)
worth ws (binary o l r) = both (λ a b. by_order (apply o a b)) ws (operand r) (worth ws l) (worth ws r)

-- a comparison: whether the relation holds. Its orders are one that compares and one that branches
abbrev pub holds : List ℕ → Relation → Expression → Expression → Counted Bool
holds ws r a b = both (λ x y. gives (related r x y) 2) ws (operand b) (worth ws a) (worth ws b)

-- ---- instructions

-- the variables by their words ("Words 0 and 1 of the frame are the link words"), and the numbers sent
pub record Store : Type 0 where
  pub words : List ℕ
  pub sent : List ℕ

-- where it goes on: at the instruction behind, or at instruction s
pub data Next : Type 0 where
  onward : Store → Next
  at : ℕ → Store → Next

-- "Faults: .. 4 SEND with the output full": the output has room for that many numbers
unfoldable pub sending : ℕ → Store → ℕ → Counted Next
sending room m a =
    pick
    (ltb (length m.sent) room)
    (gives (onward (record { words = m.words; sent = m.sent ++ a ∷ [] })) 1)
    (faults 4 0)

abbrev pub do_simple : ℕ → Store → Simple → Counted Next
do_simple room m (set w e) =
    and_then (worth m.words e) (λ a. gives (onward (record { words = put m.words w a; sent = m.sent })) 1)
do_simple room m (send e) = and_then (worth m.words e) (λ a. sending room m a)
do_simple room m (goto s) = gives (at s m) 1
