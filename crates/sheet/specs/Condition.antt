-- What an IF asks: its orders, the temporaries that it uses, which conditions there are, and what it comes to, document 01
-- ("Translation") and 02, L1 and L5. Comments in quotes are their words.
use Rattle.std.specs.Prelude.{ℕ, ◌+◌, ◌≤◌, max, ◌≡◌, Bool, true, false, List, [], ◌∷◌, ◌++◌, length}
use Rattle.base.specs.Choice.{pick}
use Rattle.word.specs.declared.Relation.{Relation}
use Rattle.order.specs.declared.Order.{Order}
use Rattle.order.specs.declared.Order.TheVariants.{Branch, Cond}
use Rattle.sheet.specs.declared.Joining.{Joining}
use Rattle.sheet.specs.declared.Joining.TheVariants.{And, Or}
use Rattle.sheet.specs.Sheet.{Condition, compares, joins}
use Rattle.sheet.specs.Orders.{comparison_code, opposite, comparison_temporaries}
use Rattle.sheet.specs.Formed.{Expressed}
use Rattle.sheet.specs.Worth.{Counted, gives, behind, and_then, holds}

unfoldable pub comparisons : Condition → ℕ
comparisons (compares r a b) = 1
comparisons (joins w a b) = comparisons a + comparisons b

-- ---- which conditions a sheet has

abbrev pub same_word : Joining → Joining → Bool
same_word And And = true
same_word And Or = false
same_word Or And = false
same_word Or Or = true

-- whether a condition is a run of the word w
abbrev pub is_run : Joining → Condition → Bool
is_run w (compares r a b) = false
is_run w (joins u a b) = same_word w u

-- "A sheet, by its definition, merges nested runs of the same joining word": no member is a run of the word that joins it
unfoldable pub Merged : Condition → Type 0
Merged (compares r a b) = Unit {0}
Merged (joins w a b) = (is_run w a ≡ false) × Merged a × Merged b

unfoldable pub AllExpressed : ℕ → Condition → Type 0
AllExpressed v (compares r a b) = Expressed v a × Expressed v b
AllExpressed v (joins w a b) = AllExpressed v a × AllExpressed v b

-- "up to 16 comparisons"
abbrev pub most_comparisons : ℕ
most_comparisons = 16

abbrev pub ConditionFormed : ℕ → Condition → Type 0
ConditionFormed v c = AllExpressed v c × Merged c × (comparisons c ≤ most_comparisons)

-- each comparison starts with no temporary in use
unfoldable pub condition_temporaries : Condition → ℕ
condition_temporaries (compares r a b) = comparison_temporaries a b
condition_temporaries (joins w a b) = max (condition_temporaries a) (condition_temporaries b)

-- ---- its orders

-- how many orders try it
unfoldable pub trying : ℕ → Condition → ℕ
trying v (compares r a b) = length (comparison_code v a b) + 1
trying v (joins w a b) = trying v a + trying v b

-- the relation that the branch asks for, where this answer "falls through"
abbrev pub leaving : Bool → Relation → Relation
leaving true r = opposite r
leaving false r = r

-- The orders that try it, the first of which is order p: a yes leads to order yes-at, a no to order no-at. One of these is the
-- order behind, and `falls` is the answer that leads there: "After a comparison one branch goes straight to the next that matters,
-- to the part's first instruction or past the part; the other answer falls through."
unfoldable pub try_code : ℕ → ℕ → Bool → ℕ → ℕ → Condition → List Order
try_code v p falls yes_at no_at (compares r a b) =
    comparison_code v a b ++ Branch (leaving falls r) (pick falls no_at yes_at) ∷ []
try_code v p falls yes_at no_at (joins And a b) =
    try_code v p true (p + trying v a) no_at a ++ try_code v (p + trying v a) falls yes_at no_at b
try_code v p falls yes_at no_at (joins Or a b) =
    try_code v p false yes_at (p + trying v a) a ++ try_code v (p + trying v a) falls yes_at no_at b

-- how many orders it has in all
unfoldable pub asking : ℕ → Condition → ℕ
asking v (compares r a b) = trying v (compares r a b)
asking v (joins w a b) = 1 + trying v (joins w a b)

-- "A condition of two or more begins with a new order COND, kind K, whose number is the count of comparisons". The first order is
-- order p; a no leads to order d, and a yes goes on behind them
unfoldable pub asking_code : ℕ → ℕ → Condition → ℕ → List Order
asking_code v p (compares r a b) d = try_code v p true (p + asking v (compares r a b)) d (compares r a b)
asking_code v p (joins w a b) d =
    Cond (comparisons (joins w a b)) ∷ try_code v (p + 1) true (p + asking v (joins w a b)) d (joins w a b)

-- ---- what it comes to

-- "Comparisons are tried left to right and only while the answer is open."
unfoldable pub tried : List ℕ → Condition → Counted Bool
tried ws (compares r a b) = holds ws r a b
tried ws (joins And a b) = and_then (tried ws a) (λ yes_so. pick yes_so (tried ws b) (gives false 0))
tried ws (joins Or a b) = and_then (tried ws a) (λ yes_so. pick yes_so (gives true 0) (tried ws b))

-- the answer, with the count of its orders: COND "does nothing", and is one of them
abbrev pub answer : List ℕ → Condition → Counted Bool
answer ws (compares r a b) = tried ws (compares r a b)
answer ws (joins w a b) = behind 1 (tried ws (joins w a b))
