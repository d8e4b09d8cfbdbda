-- One reading, then what follows.
use mathlib.Core.Path.{◌≡◌, refl}
use mathlib.Core.List.{List}
use Rattle.source.specs.declared.Token.{Token}
use Rattle.source.specs.Grammar.{Read, read, none, next}

module _ {A B : Type 0} (p : Read A) (k : A → List Token → Read B) where
  pub then_found : (a : A) (rest : List Token) (r : Read B) → read a rest ≡ p → r ≡ k a rest → r ≡ next p k
  unfolding next
  then_found a rest r e f = rw (← e) f

  pub then_missing : none ≡ p → none ≡ next p k
  unfolding next
  then_missing e = rw (← e) refl
