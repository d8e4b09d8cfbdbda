-- The turns of the loops over the digits of a decimal constant and over the characters of a quoted one.
use Prim.Native.Nat.{ℕ, zero, suc, ◌+◌, ◌-◌, ◌*◌, ◌^◌, ◌<◌, ◌≤◌}
use mathlib.Core.Path.{◌≡◌, refl, sym, ap, ◌∙◌}
use mathlib.Core.Bool.{true, false}
use mathlib.Core.List.{List, [], ◌∷◌}
use Rattle.std.proofs.Common.{◌⊎◌, inl, inr, Some, None, Ok, Err}
use native.Mathlib.Omega.{arith}
use native.Mathlib.Nat.{le_trans, pow-suc, add-zero}
use native.Mathlib.Numerals.{add-one}
use borrow.Author.Tests.{lt-ltb, le-ltb, le-leb, lt-leb, eq-eqb, ne_eqb}
use lib.Dec.{ltb, leb, eqb}
use lib.ListN.{length, get_or, drop, drop_of_length-le, get_or-eq_default}
use lib.Seq.{get_or-drop}
use Rattle.base.specs.Choice.{pick}
use Rattle.base.proofs.Cases.{by_less, by_test}
use Rattle.base.proofs.Lists.{drop_more}
use Rattle.source.specs.declared.Refusal.TheVariants.{Constant as Refused}
use Rattle.source.specs.declared.Token.TheVariants.{Number, Quoted}
use Rattle.source.specs.Limits.{greatest_constant}
use Rattle.source.specs.Tokens.{One, one, wrong, token, is_digit, run, past_run, decimal_value, Text, text, unclosed, longer, text_at, packed, constant_of}
use Rattle.tokens_fixed.specs.declared.One.TheVariants.{Token as TokenAt}
use Rattle.tokens_constant.specs.declared.Character.TheVariants.{Plain, Close}
use Rattle.tokens_constant.specs.Answers.{Constant, decimal_from}
use Rattle.tokens_constant.specs.Internal.{CharacterIs}

-- ---- decimal constants

pub digit_yes : (c : ℕ) → (48 ≤ c) × (c ≤ 57) → is_digit c ≡ true
unfolding pick
digit_yes c digit = rw (le-leb 48 c digit.0, le-leb c 57 digit.1)

pub digit_no : (c : ℕ) → (c < 48) ⊎ (57 < c) → is_digit c ≡ false
unfolding pick
digit_no c (inl low) = rw (lt-leb 48 c low)
digit_no c (inr high) = by_test (leb 48 c) (λ e. rw (e, lt-leb c 57 high)) (λ e. rw e)

-- digits never make a value less
grows : (v : ℕ) (l : List ℕ) → v ≤ decimal_value v l
unfolding decimal_value
grows v [] = omega arith
grows v (c ∷ l) = le_trans (omega arith) (grows (v * 10 + (c - 48)) l)

too_great : (v : ℕ) (l : List ℕ) → greatest_constant < v → wrong 6 ≡ decimal_from v l
unfolding decimal_from pick
too_great v l h =
    let more : v ≤ decimal_value v (run is_digit l) = grows v (run is_digit l) in
    rw (lt-ltb greatest_constant (decimal_value v (run is_digit l)) (omega arith))

-- where no digit follows
stops : (c : ℕ) (l : List ℕ) → is_digit c ≡ false → (run is_digit (c ∷ l) ≡ []) × (past_run is_digit (c ∷ l) ≡ c ∷ l)
unfolding run past_run pick
stops c l e = (rw e refl, rw e refl)

no_digits : (v : ℕ) (l : List ℕ) → v ≤ greatest_constant → run is_digit l ≡ [] → past_run is_digit l ≡ l → one (token (Number v)) l ≡ decimal_from v l
unfolding decimal_from decimal_value pick
no_digits v l small none past = rw (none, past, le-ltb greatest_constant v small) refl

-- what holds before each digit
pub record Digits (cells : List ℕ) (at first i v : ℕ) : Type 0 where
  pub same : decimal_from v (drop i cells) ≡ decimal_from first (drop at cells)
  pub small : v ≤ greatest_constant
  pub forward : at ≤ i
  pub inside : i ≤ length cells + (at - length cells)

module _ (cells : List ℕ) (at first i v : ℕ) (digits : Digits cells at first i v) where
  module _ (h : i < length cells) where
    one_digit : (48 ≤ get_or cells i 0) × (get_or cells i 0 ≤ 57)
        → decimal_from (v * 10 + (get_or cells i 0 - 48)) (drop (i + 1) cells) ≡ decimal_from v (drop i cells)
    unfolding decimal_from run past_run decimal_value pick
    one_digit digit = rw (drop_more cells i 0 h, digit_yes (get_or cells i 0) digit) refl

    pub digits_turn : (48 ≤ get_or cells i 0) × (get_or cells i 0 ≤ 57) → v * 10 + (get_or cells i 0 - 48) ≤ greatest_constant
        → Digits cells at first (i + 1) (v * 10 + (get_or cells i 0 - 48))
    digits_turn digit small =
        let from : at ≤ i = digits.forward in
        record { same = one_digit digit ∙ digits.same; small = small; forward = omega arith; inside = omega arith }

    pub digits_over : (48 ≤ get_or cells i 0) × (get_or cells i 0 ≤ 57) → greatest_constant < v * 10 + (get_or cells i 0 - 48)
        → Constant cells at (Err Refused) (decimal_from first (drop at cells))
    digits_over digit great =
        record { same = too_great _ (drop (i + 1) cells) great ∙ one_digit digit ∙ digits.same; sound = tt }

    pub digits_stop : (get_or cells i 0 < 48) ⊎ (57 < get_or cells i 0) → Constant cells at (Ok (TokenAt (Number v) i)) (decimal_from first (drop at cells))
    digits_stop other =
        record {
          same = no_digits v (drop i cells) digits.small none past ∙ digits.same;
          sound = (digits.forward, omega arith);
        }
      where
        none : run is_digit (drop i cells) ≡ []
        none = rw (drop_more cells i 0 h) (stops (get_or cells i 0) (drop (i + 1) cells) (digit_no _ other)).0

        past : past_run is_digit (drop i cells) ≡ drop i cells
        past = rw (drop_more cells i 0 h) (stops (get_or cells i 0) (drop (i + 1) cells) (digit_no _ other)).1

  pub digits_end : (q : ℕ) → length cells ≤ i → i ≡ q → Constant cells at (Ok (TokenAt (Number v) q)) (decimal_from first (drop at cells))
  digits_end q h e =
      record {
        same = rw (← e) (no_digits v (drop i cells) digits.small none past ∙ digits.same);
        sound = rw (← e) (digits.forward, omega arith);
      }
    where
      none : run is_digit (drop i cells) ≡ []
      none = rw (drop_of_length-le cells h) (unfold run in refl)

      past : past_run is_digit (drop i cells) ≡ drop i cells
      past = rw (drop_of_length-le cells h) (unfold past_run in refl)

-- ---- a character of a quoted constant

plain_text : (c : ℕ) (l : List ℕ) → (c ≡ 39 → ⊥) → longer c (text_at l) ≡ text_at (c ∷ l)
unfolding text_at pick
plain_text c [] n = rw (ne_eqb c 39 n)
plain_text c (d ∷ l) n = rw (ne_eqb c 39 n)

close_text : (l : List ℕ) → (get_or l 0 0 ≡ 39 → ⊥) → text [] l ≡ text_at (39 ∷ l)
unfolding text_at pick
close_text [] n = refl
close_text (d ∷ l) n = rw (ne_eqb d 39 n)

double_text : (l : List ℕ) → longer 39 (text_at l) ≡ text_at (39 ∷ 39 ∷ l)
unfolding text_at pick
double_text l = refl

module _ (cells : List ℕ) (at : ℕ) where
  pub no_character : length cells ≤ at → CharacterIs cells at None
  unfolding text_at
  no_character h = record { same = rw (drop_of_length-le cells h); onward = tt }

  module _ (h : at < length cells) where
    pub plain_character : (get_or cells at 0 ≡ 39 → ⊥) → get_or cells at 0 < 256 → CharacterIs cells at (Some (Plain (get_or cells at 0) (at + 1)))
    plain_character n small =
        record {
          same = rw (drop_more cells at 0 h) (plain_text (get_or cells at 0) (drop (at + 1) cells) n);
          onward = (omega arith, small);
        }

    pub double_character : get_or cells at 0 ≡ 39 → get_or cells (at + 1) 0 ≡ 39 → CharacterIs cells at (Some (Plain 39 (at + 2)))
    double_character e f =
        by_less (at + 1) (length cells)
        (λ g. let two : at + 1 + 1 ≡ at + 2 = omega arith in
        record {
          same = rw (drop_more cells at 0 h, e, drop_more cells (at + 1) 0 g, f, two) (double_text (drop (at + 2) cells));
          onward = (omega arith, omega arith);
        })
        (λ g. let none : get_or cells (at + 1) 0 ≡ 0 = get_or-eq_default cells 0 {n = at + 1} g in absurd (omega arith))

    pub close_character : get_or cells at 0 ≡ 39 → (get_or cells (at + 1) 0 ≡ 39 → ⊥) → CharacterIs cells at (Some (Close (at + 1)))
    close_character e n =
        let next : get_or (drop (at + 1) cells) 0 0 ≡ get_or cells (at + 1) 0 =
        get_or-drop (at + 1) cells 0 0 ∙ ap (λ k. get_or cells k 0) (add-zero (at + 1)) in
        record {
          same = rw (drop_more cells at 0 h, e) (close_text (drop (at + 1) cells) (λ f. n (sym next ∙ f)));
          onward = omega arith;
        }

-- ---- quoted constants

-- the constant of a text behind `count` characters that make v
unfoldable pub constant_from : ℕ → ℕ → Text → One
constant_from v count unclosed = wrong 6
constant_from v count (text cs rest) =
    pick
    (eqb (count + length cs) 0)
    (wrong 6)
    (pick (ltb 4 (count + length cs)) (wrong 6) (one (token (Quoted (packed v cs))) rest))

constant_first : (t : Text) → constant_from 0 0 t ≡ constant_of t
unfolding constant_from
constant_first unclosed = refl
constant_first (text cs rest) = let same : 0 + length cs ≡ length cs = omega arith in rw same

constant_longer : (v count c : ℕ) (t : Text) → constant_from (v * 256 + c) (count + 1) t ≡ constant_from v count (longer c t)
unfolding constant_from packed
constant_longer v count c unclosed = refl
constant_longer v count c (text cs rest) =
    let more : count + 1 + length cs ≡ count + suc (length cs) = omega arith in rw more

constant_long : (v count : ℕ) (t : Text) → 5 ≤ count → wrong 6 ≡ constant_from v count t
unfolding constant_from pick
constant_long v count unclosed h = refl
constant_long v count (text cs rest) h =
    rw (ne_eqb (count + length cs) 0 (λ e. omega arith), lt-ltb 4 (count + length cs) (omega arith))

constant_empty : (v count : ℕ) (rest : List ℕ) → count ≡ 0 → wrong 6 ≡ constant_from v count (text [] rest)
unfolding constant_from pick
constant_empty v count rest e = rw (eq-eqb (count + 0) 0 (omega arith))

constant_closed : (v count : ℕ) (rest : List ℕ) → (count ≡ 0 → ⊥) → count < 5
    → one (token (Quoted v)) rest ≡ constant_from v count (text [] rest)
unfolding constant_from packed pick
constant_closed v count rest some few =
    rw (ne_eqb (count + 0) 0 (λ e. some (omega arith)), le-ltb 4 (count + 0) (omega arith))

-- four characters fill a word
fourth_power : (k : ℕ) → k < 5 → 256 ^ k ≤ 4294967296
fourth_power zero h = omega arith
fourth_power (suc zero) h = omega arith
fourth_power (suc (suc zero)) h = omega arith
fourth_power (suc (suc (suc zero))) h = omega arith
fourth_power (suc (suc (suc (suc zero)))) h = omega arith
fourth_power (suc (suc (suc (suc (suc k))))) h = absurd (omega arith)

-- what holds before each character
pub record Characters (cells : List ℕ) (at i v count : ℕ) : Type 0 where
  pub same : constant_from v count (text_at (drop i cells)) ≡ constant_of (text_at (drop at cells))
  pub fits : v < 256 ^ count
  pub forward : at ≤ i

pub characters_first : (cells : List ℕ) (at : ℕ) → Characters cells at at 0 0
characters_first cells at = record { same = constant_first (text_at (drop at cells)); fits = omega arith; forward = omega arith }

module _ (cells : List ℕ) (at i v count : ℕ) (chars : Characters cells at i v count) where
  pub word_fits : count < 5 → v < 4294967296
  word_fits few = let fits : v < 256 ^ count = chars.fits in let most = fourth_power count few in omega arith

  pub characters_turn : (c q : ℕ) → CharacterIs cells i (Some (Plain c q)) → Characters cells at q (v * 256 + c) (count + 1)
  characters_turn c q is =
      let from : at ≤ i = chars.forward in
      let on : i < q = is.onward.0 in
      let small : c < 256 = is.onward.1 in
      let fits : v < 256 ^ count = chars.fits in
      record {
        same = constant_longer v count c (text_at (drop q cells)) ∙ ap (constant_from v count) is.same ∙ chars.same;
        fits = rw (add-one count, pow-suc 256 count) (omega arith);
        forward = omega arith;
      }

  pub characters_closed : (q : ℕ) → CharacterIs cells i (Some (Close q)) → (count ≡ 0 → ⊥) → count < 5
      → Constant cells at (Ok (TokenAt (Quoted v) q)) (constant_of (text_at (drop at cells)))
  characters_closed q is some few =
      let from : at ≤ i = chars.forward in
      let on : i < q = is.onward in
      record {
        same = constant_closed v count (drop q cells) some few ∙ ap (constant_from v count) is.same ∙ chars.same;
        sound = (omega arith, omega arith);
      }

  pub characters_none : (q : ℕ) → CharacterIs cells i (Some (Close q)) → count ≡ 0 → Constant cells at (Err Refused) (constant_of (text_at (drop at cells)))
  characters_none q is none =
      record { same = constant_empty v count (drop q cells) none ∙ ap (constant_from v count) is.same ∙ chars.same; sound = tt }

  pub characters_unclosed : CharacterIs cells i None → Constant cells at (Err Refused) (constant_of (text_at (drop at cells)))
  unfolding constant_from
  characters_unclosed is = record { same = ap (constant_from v count) is.same ∙ chars.same; sound = tt }

  pub characters_many : 5 ≤ count → Constant cells at (Err Refused) (constant_of (text_at (drop at cells)))
  characters_many h = record { same = constant_long v count (text_at (drop i cells)) h ∙ chars.same; sound = tt }
