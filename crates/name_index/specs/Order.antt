-- The order of the names in the index: the shorter first; of two of one length, the last letter in which they differ decides.
use Rattle.std.specs.Prelude.{ℕ, List, [], ◌∷◌}
use Rattle.std.specs.declared.cmp.Ordering.{Ordering}
use Rattle.std.specs.declared.cmp.Ordering.TheVariants.{Less, Equal, Greater}
use Rattle.std.specs.Ordering.{nat_cmp, ordering_then}

-- where a name stands against another
unfoldable pub side_of : List ℕ → List ℕ → Ordering
side_of [] [] = Equal
side_of [] (d ∷ ds) = Less
side_of (c ∷ cs) [] = Greater
side_of (c ∷ cs) (d ∷ ds) = ordering_then (side_of cs ds) (nat_cmp c d)
