-- What single bytes make of the cells held: lemmas of Spelling.antt.
use Prim.Native.Nat.{ℕ, ◌+◌, ◌-◌, ◌<◌, ◌≤◌}
use mathlib.Core.Path.{◌≡◌, refl, ap, sym, ◌∙◌}
use mathlib.Core.Bool.{true, false}
use mathlib.Core.List.{List, [], ◌∷◌, ◌++◌}
use native.Mathlib.Omega.{arith}
use borrow.Author.Tests.{leb-true, le-leb, lt-leb, lt-ltb}
use lib.Dec.{leb}
use lib.ListN.{length, length-append}
use lib.Seq.{take_at, get_or_at}
use Rattle.base.specs.Choice.{pick}
use Rattle.base.proofs.Cases.{by_test, both_yes}
use Rattle.source.specs.declared.Mode.{Mode}
use Rattle.source.specs.declared.Mode.TheVariants.{Plain, Keyword}
use Rattle.source.specs.Limits.{most_cells}
use Rattle.source.specs.Cells.{goes_on, kept, newline, is_capital, is_small, capital, small, outside, turn}

-- ---- letters

letter : (c : ℕ) (m : Mode) (b : ℕ) (cells : List ℕ) → pick (is_capital b) true (is_small b) ≡ true → outside c m b cells ≡ kept c m cells
unfolding outside pick
letter c m b cells e = rw e refl

not_small : (b : ℕ) → is_small b ≡ false → capital b ≡ b
unfolding pick
not_small b e = rw e refl

module _ (b : ℕ) (is_small_law : is_small b ≡ true) where
  least : 97 ≤ b
  least = leb-true 97 b (both_yes (leb 97 b) (leb b 122) is_small_law).0

  most : b ≤ 122
  most = leb-true b 122 (both_yes (leb 97 b) (leb b 122) is_small_law).1

  is_capital_law : capital b ≡ b - 32
  unfolding pick
  is_capital_law = rw is_small_law refl

  capital_is_capital : is_capital (b - 32) ≡ true
  unfolding pick
  capital_is_capital = rw (le-leb 65 (b - 32) (omega (arith, least)), le-leb (b - 32) 90 (omega (arith, most))) refl

  capital_not_small : is_small (b - 32) ≡ false
  unfolding pick
  capital_not_small = rw (lt-leb 97 (b - 32) (omega (arith, most))) refl

  small_not_capital : is_capital b ≡ false
  unfolding pick
  small_not_capital = rw (le-leb 65 b (omega (arith, least)), lt-leb b 90 (omega (arith, least))) refl

  small_is_letter : pick (is_capital b) true (is_small b) ≡ true
  unfolding pick
  small_is_letter = rw (small_not_capital, is_small_law) refl

  capital_is_letter : pick (is_capital (b - 32)) true (is_small (b - 32)) ≡ true
  unfolding pick
  capital_is_letter = rw capital_is_capital refl

  small_again : small (b - 32) ≡ b
  unfolding pick
  small_again = rw capital_is_capital (omega (arith, least))

  small_stays : small b ≡ b
  unfolding pick
  small_stays = rw small_not_capital refl

  module _ (cells : List ℕ) where
    plain_letter : turn Plain b cells ≡ turn Plain (b - 32) cells
    unfolding turn
    plain_letter =
        letter (capital b) Plain b cells small_is_letter
        ∙ ap (λ c. kept c Plain cells) (is_capital_law ∙ sym (not_small (b - 32) capital_not_small))
        ∙ sym (letter (capital (b - 32)) Plain (b - 32) cells capital_is_letter)

    keyword_letter : turn Keyword b cells ≡ turn Keyword (b - 32) cells
    unfolding turn
    keyword_letter =
        letter (small b) Keyword b cells small_is_letter
        ∙ ap (λ c. kept c Keyword cells) (small_stays ∙ sym small_again)
        ∙ sym (letter (small (b - 32)) Keyword (b - 32) cells capital_is_letter)

module _ (b : ℕ) (cells : List ℕ) where
  pub plain_capital : turn Plain b cells ≡ turn Plain (capital b) cells
  plain_capital =
      by_test (is_small b)
      (λ y. plain_letter b y cells ∙ ap (λ c. turn Plain c cells) (sym (is_capital_law b y)))
      (λ n. ap (λ c. turn Plain c cells) (sym (not_small b n)))

  pub keyword_capital : turn Keyword b cells ≡ turn Keyword (capital b) cells
  keyword_capital =
      by_test (is_small b)
      (λ y. keyword_letter b y cells ∙ ap (λ c. turn Keyword c cells) (sym (is_capital_law b y)))
      (λ n. ap (λ c. turn Keyword c cells) (sym (not_small b n)))

-- ---- a continuation

module _ (cells : List ℕ) (room : length cells + 1 < most_cells) where
  pub keeps_c : kept 99 Keyword cells ≡ goes_on Keyword (cells ++ 99 ∷ [])
  unfolding pick
  keeps_c = rw (lt-ltb (length cells) most_cells (omega arith)) refl

  longer : length (cells ++ 99 ∷ []) ≡ length cells + 1
  longer = length-append cells (99 ∷ [])

  pub drops_c : newline (cells ++ 99 ∷ []) ≡ goes_on Plain cells
  unfolding pick
  drops_c =
      let last : length cells + 1 - 1 ≡ length cells = omega arith in
      rw (
        longer,
        last,
        get_or_at cells 99 [] 0 (length cells) refl,
        lt-ltb (length cells + 1) most_cells room,
        take_at cells (99 ∷ []) (length cells) refl,
      )
      refl
