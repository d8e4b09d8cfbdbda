-- Which kind of token stands at a place, by its first cell.
use Prim.Native.Nat.{ℕ, ◌+◌, ◌-◌, ◌*◌, ◌<◌, ◌≤◌}
use mathlib.Core.Path.{◌≡◌, refl, ap, ◌∙◌}
use mathlib.Core.Bool.{true, false}
use mathlib.Core.List.{List, ◌∷◌}
use Rattle.std.proofs.Common.{Result, Ok, Err}
use native.Mathlib.Omega.{arith}
use borrow.Author.Tests.{leb-true, le-leb, eq-eqb, ne_eqb}
use lib.Dec.{leb}
use lib.ListN.{length, get_or, take, drop}
use Rattle.base.specs.Choice.{pick}
use Rattle.base.proofs.Cases.{both_yes, by_test}
use Rattle.base.proofs.Lists.{drop_more}
use Rattle.source.specs.Cells.{is_capital, is_small}
use Rattle.source.specs.Tokens.{One, is_digit, in_name, run, past_run, decimal_value, name_at, keyword_at, decimal_at, text_at, constant_of, sign_at, lexeme}
use Rattle.source.specs.declared.Refusal.{Refusal}
use Rattle.tokens_fixed.specs.declared.One.{One as Answer}
use Rattle.tokens_fixed.specs.declared.One.TheVariants.{Token as TokenAt, Name}
use Rattle.tokens_fixed.specs.Answers.{Is}
use Rattle.tokens_constant.specs.Answers.{Constant, decimal_from}
use Rattle.tokens.proofs.Names.{name_is}

pub digit_from : (c : ℕ) → is_digit c ≡ true → 48 ≤ c
digit_from c e = leb-true 48 c (both_yes _ _ e).0

-- a range of characters, and what is outside it
between : (low high c : ℕ) → low ≤ c → c ≤ high → pick (leb low c) (leb c high) false ≡ true
unfolding pick
between low high c from to = rw (le-leb low c from, le-leb c high to)

not_between : (low high c : ℕ) → (low ≤ c → c ≤ high → ⊥) → pick (leb low c) (leb c high) false ≡ false
unfolding pick
not_between low high c out =
    by_test (leb low c)
    (λ e. by_test (leb c high) (λ f. absurd (out (leb-true low c e) (leb-true c high f))) (λ f. rw (e, f)))
    (λ e. rw e)

-- a constant that is read from its second cell on
constant_is : (cells : List ℕ) (at : ℕ) (r : Result Answer Refusal) (o : One) → Constant cells (at + 1) r o → Is cells at r o
constant_is cells at (Ok (TokenAt t q)) o k =
    let on : at + 1 ≤ q = k.sound.0 in record { same = k.same; sound = (omega arith, k.sound.1) }
constant_is cells at (Ok (Name q)) o k = absurd k.sound
constant_is cells at (Err n) o k = record { same = k.same; sound = tt }

run_digit : (c : ℕ) (l : List ℕ) → is_digit c ≡ true → run is_digit (c ∷ l) ≡ c ∷ run is_digit l
unfolding run pick
run_digit c l e = rw e refl

past_digit : (c : ℕ) (l : List ℕ) → is_digit c ≡ true → past_run is_digit (c ∷ l) ≡ past_run is_digit l
unfolding past_run pick
past_digit c l e = rw e refl

first_value : (c : ℕ) (l : List ℕ) → decimal_value 0 (c ∷ l) ≡ decimal_value (c - 48) l
unfolding decimal_value
first_value c l = let value : 0 * 10 + (c - 48) ≡ c - 48 = omega arith in ap (λ v. decimal_value v l) value

first_digit : (c : ℕ) (l : List ℕ) → is_digit c ≡ true → decimal_from (c - 48) l ≡ decimal_at (c ∷ l)
unfolding decimal_from
first_digit c l e = rw (run_digit c l e, past_digit c l e, first_value c (run is_digit l)) refl

module _ (c : ℕ) (l : List ℕ) where
  small_one : is_small c ≡ true → keyword_at (c ∷ l) ≡ lexeme c l
  unfolding lexeme pick
  small_one e = rw e refl

  module _ (s : is_small c ≡ false) where
    capital_one : is_capital c ≡ true → name_at (c ∷ l) ≡ lexeme c l
    unfolding lexeme pick
    capital_one e = rw (s, e) refl

    module _ (n : is_capital c ≡ false) where
      digit_one : is_digit c ≡ true → decimal_at (c ∷ l) ≡ lexeme c l
      unfolding lexeme pick
      digit_one e = rw (s, n, e) refl

      module _ (d : is_digit c ≡ false) where
        quote_one : c ≡ 39 → constant_of (text_at l) ≡ lexeme c l
        unfolding lexeme pick
        quote_one e = rw (s, n, d, eq-eqb c 39 e) refl

        other_one : (c ≡ 39 → ⊥) → sign_at c l ≡ lexeme c l
        unfolding lexeme pick
        other_one e = rw (s, n, d, ne_eqb c 39 e) refl

is_as : (cells : List ℕ) (at : ℕ) (r : Result Answer Refusal) (o p : One) → o ≡ p → Is cells at r o → Is cells at r p
is_as cells at r o p e is = rw e at is

module _ (cells : List ℕ) (at : ℕ) (h : at < length cells) where
  abbrev first : ℕ
  first = get_or cells at 0

  abbrev rest : List ℕ
  rest = drop (at + 1) cells

  pub keyword_here : (r : Result Answer Refusal) → 97 ≤ first → first ≤ 122 → Is cells at r (keyword_at (drop at cells)) → Is cells at r (lexeme first rest)
  keyword_here r low high is =
      is_as cells at r _ _ (ap keyword_at (drop_more cells at 0 h) ∙ small_one first rest (between 97 122 first low high)) is

  pub name_here : (n : ℕ) → 65 ≤ first → first ≤ 90 → n ≡ length (run in_name (take (length cells - (at + 1)) rest)) → Is cells at (Ok (Name (at + 1 + n))) (lexeme first rest)
  name_here n low high count =
      let capital = between 65 90 first low high in
      is_as cells at (Ok (Name (at + 1 + n))) _ _
      (capital_one first rest (not_between 97 122 first (λ a b. omega arith)) capital)
      (name_is cells at n h capital count)

  pub decimal_here : (r : Result Answer Refusal) → 48 ≤ first → first ≤ 57 → Constant cells (at + 1) r (decimal_from (first - 48) rest)
      → Is cells at r (lexeme first rest)
  decimal_here r low high k =
      let digit = between 48 57 first low high in
      is_as cells at r _ _
      (first_digit first rest digit
      ∙ digit_one first rest (not_between 97 122 first (λ a b. omega arith)) (not_between 65 90 first (λ a b. omega arith)) digit)
      (constant_is cells at r _ k)

  pub quoted_here : (r : Result Answer Refusal) → first ≡ 39 → Constant cells (at + 1) r (constant_of (text_at rest)) → Is cells at r (lexeme first rest)
  quoted_here r e k =
      is_as cells at r _ _
      (quote_one first rest (not_between 97 122 first (λ a b. omega arith)) (not_between 65 90 first (λ a b. omega arith))
      (not_between 48 57 first (λ a b. omega arith)) e)
      (constant_is cells at r _ k)

  pub sign_here : (r : Result Answer Refusal) → (97 ≤ first → first ≤ 122 → ⊥) → (65 ≤ first → first ≤ 90 → ⊥) → (48 ≤ first → first ≤ 57 → ⊥)
      → (first ≡ 39 → ⊥) → Is cells at r (sign_at first rest) → Is cells at r (lexeme first rest)
  sign_here r small capital digit quote is =
      is_as cells at r _ _
      (other_one first rest (not_between 97 122 first small) (not_between 65 90 first capital) (not_between 48 57 first digit) quote)
      is
