-- Whether the array that is lent for the fields is fit for them.
use mathlib.Core.Path.{◌≡◌, refl}
use mathlib.Core.List.{List}
use Prim.Native.Nat.{ℕ}
use borrow.Author.Tests.{eq-eqb, ne_eqb}
use lib.ListN.{length}
use Rattle.base.specs.Choice.{pick}
use Rattle.sheet_field.specs.Memory.{most_fields}
use Rattle.source.specs.Source.{answer}
use Rattle.front_end.specs.Answers.{answered, unfit, answered_in}

module _ (source fs : List ℕ) where
  pub not_fit : (length fs ≡ most_fields → ⊥) → answered_in source fs ≡ unfit
  unfolding answered_in pick
  not_fit n = rw (ne_eqb (length fs) most_fields n) refl

  pub is_fit : length fs ≡ most_fields → answered_in source fs ≡ answered (answer source)
  unfolding answered_in pick
  is_fit e = rw (eq-eqb (length fs) most_fields e) refl
