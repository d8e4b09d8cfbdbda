-- A fixed string at the front of a text.
use Prim.Native.Nat.{ℕ}
use mathlib.Core.Path.{◌≡◌, refl, ap₂}
use mathlib.Core.List.{List, [], ◌∷◌, ◌++◌}
use borrow.Author.Tests.{eq-eqb, eqb-true}
use lib.Dec.{eqb}
use Rattle.base.specs.Choice.{pick}
use Rattle.base.specs.Front.{found}
use Rattle.base.proofs.Fronts.{never, let_through}
use Rattle.text.specs.Pieces.{fixed}

pub fixed_front : (cs rest : List ℕ) → fixed cs (cs ++ rest) ≡ found [] rest
unfolding fixed pick
fixed_front [] rest = refl
fixed_front (c ∷ cs) rest = rw (eq-eqb c c refl) (fixed_front cs rest)

pub front_fixed : (cs l rest x : List ℕ) → fixed cs l ≡ found x rest → l ≡ cs ++ rest
unfolding fixed
front_fixed [] l rest x e = cc
front_fixed (c ∷ cs) [] rest x e = never e
front_fixed (c ∷ cs) (b ∷ l) rest x e =
    let matched = let_through (eqb b c) _ e in
    ap₂ ◌∷◌ (eqb-true b c matched.0) (front_fixed cs l rest x matched.1)
