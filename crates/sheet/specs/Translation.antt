-- The translation of a sheet into orders, document 01 ("Translation") and 02, L1. Comments in quotes are their words.
use Rattle.std.specs.Prelude.{ℕ, ◌+◌, ◌-◌, max, List, [], ◌∷◌, ◌++◌, get_or}
use Rattle.order.specs.declared.Order.{Order}
use Rattle.order.specs.declared.Order.TheVariants.{Skip, Stop}
use Rattle.order.specs.Object.{text}
use Rattle.sheet.specs.Sheet.{Part, end, plain, when, either, Sheet, sheet, variables}
use Rattle.sheet.specs.Orders.{simple_code, simple_size, simple_temporaries}
use Rattle.sheet.specs.Condition.{asking, asking_code, condition_temporaries}

-- ---- how many orders, and which are the first of the instructions

-- of all the instructions; "the jump over an ELSE" is one order
unfoldable pub size : ℕ → Part → ℕ
size v end = 0
size v (plain u l) = simple_size v u + size v l
size v (when c x l) = asking v c + size v x + size v l
size v (either c x y l) = asking v c + size v x + 1 + size v y + size v l

-- the first order of each instruction, in the order of their numbers; that of the part is order p
unfoldable pub starts : ℕ → ℕ → Part → List ℕ
starts v p end = []
starts v p (plain u l) = p ∷ starts v (p + simple_size v u) l
starts v p (when c x l) = p ∷ (starts v (p + asking v c) x ++ starts v (p + asking v c + size v x) l)
starts v p (either c x y l) =
    p
    ∷ (starts v (p + asking v c) x
    ++ (starts v (p + asking v c + size v x + 1) y ++ starts v (p + asking v c + size v x + 1 + size v y) l))

-- "GOTO s leads to the first order of s, or to the order after the last instruction"; s counts from 1
abbrev pub first_order : ℕ → Part → ℕ → ℕ
first_order v x s = get_or (starts v 0 x) (s - 1) (size v x)

-- ---- the orders

-- the orders of instructions, the first of which is order p; `to` gives the address that GOTO s leads to. "Branches and SKIPs lead
-- to the order right after their part."
unfoldable pub part_code : ℕ → (ℕ → ℕ) → ℕ → Part → List Order
part_code v to p end = []
part_code v to p (plain u l) = simple_code v to u ++ part_code v to (p + simple_size v u) l
part_code v to p (when c x l) =
    asking_code v p c (p + asking v c + size v x)
    ++ (part_code v to (p + asking v c) x ++ part_code v to (p + asking v c + size v x) l)
part_code v to p (either c x y l) =
    asking_code v p c (p + asking v c + size v x + 1)
    ++ (part_code v to (p + asking v c) x
    ++ Skip (p + asking v c + size v x + 1 + size v y)
    ∷ (part_code v to (p + asking v c + size v x + 1) y ++ part_code v to (p + asking v c + size v x + 1 + size v y) l))

-- "and STOP closes the program"
abbrev pub translation : Sheet → List Order
translation (sheet v x) = part_code v (first_order v x) 0 x ++ Stop ∷ []

-- ---- "T is the most that any statement uses"

unfoldable pub temporaries_of : Part → ℕ
temporaries_of end = 0
temporaries_of (plain u l) = max (simple_temporaries u) (temporaries_of l)
temporaries_of (when c x l) = max (condition_temporaries c) (max (temporaries_of x) (temporaries_of l))
temporaries_of (either c x y l) =
    max (condition_temporaries c) (max (temporaries_of x) (max (temporaries_of y) (temporaries_of l)))

abbrev pub sheet_temporaries : Sheet → ℕ
sheet_temporaries (sheet v x) = temporaries_of x

-- ---- "A source's object is its sheet's translation": its text, with V and T

abbrev pub object_text : Sheet → List ℕ
object_text s = text (variables s) (sheet_temporaries s) (translation s)
