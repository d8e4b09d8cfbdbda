-- The temporaries that orders store to, of V variables. proofs/Temporaries.antt shows that the largest of a translation is
-- its T: "T is the most that any statement uses".
use Rattle.std.specs.Prelude.{ℕ, suc, ◌+◌, ◌-◌, max, List, [], ◌∷◌}
use Rattle.order.specs.declared.Order.{Order}
use Rattle.order.specs.declared.Order.TheVariants.{Word, Number, Store, Neg, Not, Jump, Skip, Branch, Cond, Send, Stop}

-- which temporary word w is, counted from 1; 0 where it is none: "Variables follow from 2 .., V of them; then T temporaries"
abbrev pub temporary_of : ℕ → ℕ → ℕ
temporary_of v w = suc w - (v + 2)

-- the temporary that an order stores to; 0 where there is none
abbrev pub stored_to : ℕ → Order → ℕ
stored_to v (Word f w) = 0
stored_to v (Number f n) = 0
stored_to v (Store w) = temporary_of v w
stored_to v Neg = 0
stored_to v Not = 0
stored_to v (Jump a) = 0
stored_to v (Skip a) = 0
stored_to v (Branch r a) = 0
stored_to v (Cond n) = 0
stored_to v Send = 0
stored_to v Stop = 0

-- the largest of them
unfoldable pub largest_stored : ℕ → List Order → ℕ
largest_stored v [] = 0
largest_stored v (o ∷ l) = max (stored_to v o) (largest_stored v l)
