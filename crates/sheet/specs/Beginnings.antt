-- Which orders of a translation are the first of an instruction, told from the orders alone. proofs/Beginnings.antt shows that these
-- are `starts`.
use Rattle.std.specs.Prelude.{ℕ, suc, ◌+◌, ◌-◌, Bool, true, false, List, [], ◌∷◌, ltb, eqb}
use Rattle.base.specs.Choice.{pick}
use Rattle.order.specs.declared.Order.{Order}
use Rattle.order.specs.declared.Order.TheVariants.{Word, Number, Store, Neg, Not, Jump, Skip, Branch, Cond, Send, Stop}

-- how many branches are yet to come that do not end their IF, where there were so many before the order: COND tells the branches of
-- the IF that begins with it
abbrev pub inner : ℕ → Order → ℕ
inner k (Word f w) = k
inner k (Number f n) = k
inner k (Store w) = k
inner k Neg = k
inner k Not = k
inner k (Jump a) = k
inner k (Skip a) = k
inner k (Branch r a) = k - 1
inner k (Cond n) = n - 1
inner k Send = k
inner k Stop = k

-- behind such an order an instruction begins: STR of a variable, not of a temporary, a jump, SKIP, an IF's last branch and SEND
abbrev pub is_last : ℕ → ℕ → Order → Bool
is_last v k (Word f w) = false
is_last v k (Number f n) = false
is_last v k (Store w) = ltb w (v + 2)
is_last v k Neg = false
is_last v k Not = false
is_last v k (Jump a) = true
is_last v k (Skip a) = true
is_last v k (Branch r a) = eqb k 0
is_last v k (Cond n) = false
is_last v k Send = true
is_last v k Stop = false

-- SKIP and STOP are of no instruction
abbrev pub of_instruction : Order → Bool
of_instruction (Word f w) = true
of_instruction (Number f n) = true
of_instruction (Store w) = true
of_instruction Neg = true
of_instruction Not = true
of_instruction (Jump a) = true
of_instruction (Skip a) = false
of_instruction (Branch r a) = true
of_instruction (Cond n) = true
of_instruction Send = true
of_instruction Stop = false

-- those among orders from order p on; `here` says whether an instruction begins with the next, if that is an instruction's, and k
-- branches are to come that do not end their IF
unfoldable pub beginnings : ℕ → Bool → ℕ → ℕ → List Order → List ℕ
beginnings v here k p [] = []
beginnings v here k p (o ∷ os) =
    pick
    (pick here (of_instruction o) false)
    (p ∷ beginnings v (is_last v k o) (inner k o) (suc p) os)
    (beginnings v (is_last v k o) (inner k o) (suc p) os)
