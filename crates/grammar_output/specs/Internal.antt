-- What the functions do with fields and places. A reader of the promises needs none of it.
use Rattle.std.specs.Prelude.{ℕ, ◌+◌, ◌*◌, ◌<◌, ◌≤◌, ◌≡◌, Option, IfSome, List, ◌∷◌, ◌++◌, eqb, length, take, drop}
use Rattle.base.specs.Choice.{pick}
use Rattle.sheet.specs.declared.Operator.{Operator}
use Rattle.sheet.specs.declared.Field.{Field}
use Rattle.source.specs.Limits.{most_cells}
use Rattle.source.specs.Grammar.{Read, read, none, level}
use Rattle.grammar_output.specs.declared.Step.{Step}
use Rattle.grammar_output.specs.declared.Places.{Places}

-- a field at place p; those from there on move up by one
unfoldable pub insert_at : ℕ → Field → List Field → List Field
insert_at p f fs = take p fs ++ f ∷ drop p fs

-- the fields of what is read, behind others
unfoldable pub written : {A : Type 0} → (A → List Field) → List Field → Read A → Read (List Field)
written g fs (read a rest) = read (fs ++ g a) rest
written g fs none = none

-- the tokens from place `at` on are read, of n, and the fields are written from place `out` on
pub record Ready (n at out : ℕ) (fs : List ℕ) : Type 0 where
  pub short : n ≤ most_cells
  pub inside : at ≤ n
  pub fewer : out ≤ at
  pub room : n ≤ length fs

-- at least d tokens were read, and no more fields written than tokens read
abbrev pub Moved : ℕ → ℕ → ℕ → ℕ → Option Step → Type 0
Moved d n at out r = IfSome r (λ s. (at + d ≤ s.at) × (s.at ≤ n) × (out ≤ s.out) × (s.out + at ≤ s.at + out))

-- places among the cells of a statement, and the number that holds them
pub record Small (p : Places) : Type 0 where
  pub low_small : p.low < most_cells
  pub middle_small : p.middle < most_cells
  pub high_small : p.high < most_cells

abbrev pub places_word : Places → ℕ
places_word p = p.low + (p.middle + p.high * most_cells) * most_cells

abbrev pub HeldBy : ℕ → Places → Type 0
HeldBy w q = (p : Places) → Small p → w ≡ places_word p → q ≡ p

-- an operator goes to the place where the left operand of its level starts
abbrev pub place_for : Places → Operator → ℕ
place_for p o = pick (eqb (level o) 1) p.low (pick (eqb (level o) 2) p.middle p.high)

-- and the operands of the higher levels start behind it, at the next place that is free
abbrev pub places_after : Places → Operator → ℕ → Places
places_after p o free =
    pick
    (eqb (level o) 1)
    (record { low = p.low; middle = free; high = free })
    (pick (eqb (level o) 2) (record { low = p.low; middle = p.middle; high = free }) p)
