-- The tokens of a statement whose cells are below 128: their words are those of names, and their constants fit.
use Prim.Native.Nat.{ℕ, zero, suc, ◌+◌, ◌<◌, ◌≤◌}
use mathlib.Core.Bool.{Bool}
use mathlib.Core.List.{List, [], ◌∷◌, map}
use native.Mathlib.Omega.{arith}
use borrow.Author.Tests.{ltb-false}
use lib.Dec.{ltb, eqb}
use lib.ListN.{length}
use Rattle.base.specs.Text.{bytes}
use Rattle.base.specs.Front.{found, missing, on_front}
use Rattle.base.proofs.Cases.{either_part}
use Rattle.text.specs.Pieces.{Front, fixed}
use Rattle.source.proofs.Each.{Each}
use Rattle.source.specs.declared.Token.{Token}
use Rattle.source.specs.declared.Token.TheVariants.{Name, Number, Quoted, Binary, Compare, Mark}
use Rattle.source.specs.Limits.{greatest_constant}
use Rattle.source.specs.Cells.{is_capital, is_small}
use Rattle.source.specs.Tokens.{Sign, sign, keywords, pairs, singles, first_of, Lexeme, name, token, One, one, wrong, run, past_run}
use Rattle.source.specs.Tokens.{is_digit, in_name, keyword_at, decimal_value, decimal_at, Text, text, unclosed, longer, text_at}
use Rattle.source.specs.Tokens.{packed, constant_of, sign_at, lexeme, Lexed, lexed, refused, behind, on_one, lexemes_in, lexemes}
use Rattle.source.specs.Grammar.{send_word}
use Rattle.source.specs.Program.{same_name, word_from, word_of, looked_up}
use Rattle.source.proofs.SmallCells.{Small}

-- a token with a word of v variables or below them, or a constant that fits
abbrev pub Fine : ℕ → Token → Type 0
Fine v (Name w) = w < v + 2
Fine v (Number n) = n ≤ greatest_constant
Fine v (Quoted n) = n ≤ greatest_constant
Fine v (Binary o) = Unit {0}
Fine v (Compare r) = Unit {0}
Fine v (Mark m) = Unit {0}

-- ---- a quoted constant: four characters below 128

abbrev TextSmall : Text → Type 0
TextSmall (text cs rest) = Each Small cs × Each Small rest
TextSmall unclosed = Unit {0}

longer_small : (c : ℕ) (t : Text) → Small c → TextSmall t → TextSmall (longer c t)
longer_small c (text cs rest) h k = ((h, k.0), k.1)
longer_small c unclosed h k = tt

text_small : (cells : List ℕ) → Each Small cells → TextSmall (text_at cells)
unfolding text_at
text_small [] h = tt
text_small (c ∷ []) h = either_part TextSmall (eqb c 39) (text [] []) unclosed (λ y. (tt, tt)) (λ n. tt)
text_small (c ∷ d ∷ cells) h =
    let both = text_small cells h.1.1 in
    let behind_c = text_small (d ∷ cells) h.1 in
    either_part TextSmall (eqb c 39) _ _
    (λ y. either_part TextSmall (eqb d 39) _ _
    (λ y. longer_small 39 (text_at cells) (omega arith) both)
    (λ n. (tt, h.1)))
    (λ n. longer_small c (text_at (d ∷ cells)) h.0 behind_c)

packed_fits : (cs : List ℕ) → Each Small cs → length cs ≤ 4 → packed 0 cs ≤ greatest_constant
unfolding packed
packed_fits [] h few = omega arith
packed_fits (a ∷ []) h few = omega arith
packed_fits (a ∷ b ∷ []) h few = omega arith
packed_fits (a ∷ b ∷ c ∷ []) h few = omega arith
packed_fits (a ∷ b ∷ c ∷ d ∷ []) h few = omega arith
packed_fits (a ∷ b ∷ c ∷ d ∷ e ∷ cs) h few = absurd (omega arith)

-- ---- one token

module _ (v : ℕ) where
  abbrev pub LexemeFine : Lexeme → Type 0
  LexemeFine (name n) = Unit {0}
  LexemeFine (token t) = Fine v t

  abbrev OneFine : One → Type 0
  OneFine (one x rest) = LexemeFine x × Each Small rest
  OneFine (wrong n) = Unit {0}

  abbrev SignFine : Sign → Type 0
  SignFine (sign s t) = Fine v t

  abbrev FrontFine : Front Token → Type 0
  FrontFine (found t rest) = Fine v t × Each Small rest
  FrontFine missing = Unit {0}

  abbrev FixedSmall : Front (List ℕ) → Type 0
  FixedSmall (found s rest) = Each Small rest
  FixedSmall missing = Unit {0}

  fixed_small : (cs l : List ℕ) → Each Small l → FixedSmall (fixed cs l)
  unfolding fixed
  fixed_small [] l h = h
  fixed_small (c ∷ cs) [] h = tt
  fixed_small (c ∷ cs) (b ∷ l) h =
      let more = fixed_small cs l h.1 in
      either_part FixedSmall (eqb b c) (fixed cs l) missing (λ y. more) (λ n. tt)

  on_fixed : (f : Front (List ℕ)) (t : Token) (others : Front Token) → FixedSmall f → Fine v t → FrontFine others
      → FrontFine (on_front f (λ b rest. found t rest) others)
  unfolding on_front
  on_fixed (found s rest) t others h k o = (k, h)
  on_fixed missing t others h k o = o

  first_fine : (signs : List Sign) → Each SignFine signs → (cells : List ℕ) → Each Small cells → FrontFine (first_of signs cells)
  unfolding first_of
  first_fine [] s cells h = tt
  first_fine (sign q t ∷ signs) s cells h =
      on_fixed (fixed (bytes q) cells) t (first_of signs cells) (fixed_small (bytes q) cells h) s.0
      (first_fine signs s.1 cells h)

  on_front_law : (f : Front Token) (others : One) → FrontFine f → OneFine others → OneFine (on_front f (λ t rest. one (token t) rest) others)
  unfolding on_front
  on_front_law (found t rest) others h o = h
  on_front_law missing others h o = o

  past_small : (test : ℕ → Bool) (cells : List ℕ) → Each Small cells → Each Small (past_run test cells)
  unfolding past_run
  past_small test [] h = tt
  past_small test (c ∷ cells) h =
      let more = past_small test cells h.1 in
      either_part (Each Small) (test c) (past_run test cells) (c ∷ cells) (λ y. more) (λ n. h)

  constant_fine : (t : Text) → TextSmall t → OneFine (constant_of t)
  constant_fine unclosed h = tt
  constant_fine (text cs rest) h =
      either_part OneFine (eqb (length cs) 0) _ _
      (λ y. tt)
      (λ n. either_part OneFine (ltb 4 (length cs)) _ _
      (λ y. tt)
      (λ n. (packed_fits cs h.0 (ltb-false 4 (length cs) n), h.1)))

  module _ (c : ℕ) (cells : List ℕ) (h : Each Small (c ∷ cells)) where
    keyword_fine : OneFine (keyword_at (c ∷ cells))
    keyword_fine =
        on_front_law (first_of keywords (c ∷ cells)) (wrong 5)
        (first_fine keywords (tt, (tt, (tt, (tt, (tt, (tt, (tt, (tt, (tt, (tt, tt)))))))))) (c ∷ cells) h)
        tt

    decimal_fine : OneFine (decimal_at (c ∷ cells))
    decimal_fine =
        let n = decimal_value 0 (run is_digit (c ∷ cells)) in
        either_part OneFine (ltb greatest_constant n) _ _
        (λ y. tt)
        (λ few. (ltb-false greatest_constant n few, past_small is_digit (c ∷ cells) h))

    sign_fine : OneFine (sign_at c cells)
    sign_fine =
        on_front_law (first_of pairs (c ∷ cells)) _
        (first_fine pairs (tt, (tt, (tt, (tt, (tt, (tt, (tt, tt))))))) (c ∷ cells) h)
        (on_front_law (first_of singles (c ∷ cells)) (one (token (Mark c)) cells)
        (first_fine singles (tt, (tt, (tt, (tt, (tt, (tt, (tt, (tt, (tt, (tt, tt)))))))))) (c ∷ cells) h)
        (tt, h.1))

    lexeme_fine : OneFine (lexeme c cells)
    unfolding lexeme
    lexeme_fine =
        either_part OneFine (is_small c) _ _
        (λ y. keyword_fine)
        (λ n. either_part OneFine (is_capital c) _ _
        (λ y. (tt, past_small in_name (c ∷ cells) h))
        (λ n. either_part OneFine (is_digit c) _ _
        (λ y. decimal_fine)
        (λ n. either_part OneFine (eqb c 39) _ _
        (λ y. constant_fine (text_at cells) (text_small cells h.1))
        (λ n. sign_fine))))

  -- ---- all cells

  abbrev pub LexedFine : Lexed → Type 0
  LexedFine (lexed xs) = Each LexemeFine xs
  LexedFine (refused n) = Unit {0}

  behind_fine : (x : Lexeme) (l : Lexed) → LexemeFine x → LexedFine l → LexedFine (behind x l)
  behind_fine x (lexed xs) h k = (h, k)
  behind_fine x (refused n) h k = tt

  on_one_law : (o : One) (others : List ℕ → Lexed) → OneFine o → ((rest : List ℕ) → Each Small rest → LexedFine (others rest))
      → LexedFine (on_one o others)
  unfolding on_one
  on_one_law (one x rest) others h k = behind_fine x (others rest) h.0 (k rest h.1)
  on_one_law (wrong n) others h k = tt

  in_fine : (k : ℕ) (cells : List ℕ) → Each Small cells → LexedFine (lexemes_in k cells)
  unfolding lexemes_in
  in_fine zero cells h = tt
  in_fine (suc k) [] h = tt
  in_fine (suc k) (c ∷ cells) h =
      on_one_law (lexeme c cells) (λ rest. lexemes_in k rest) (lexeme_fine c cells h) (λ rest small_rest. in_fine k rest small_rest)

  pub lexemes_fine : (cells : List ℕ) → Each Small cells → LexedFine (lexemes cells)
  lexemes_fine cells h = in_fine _ cells h

-- ---- names looked up

word_from_law : (w : ℕ) (ms : List (List ℕ)) (n : List ℕ) → 1 ≤ w → word_from w ms n < w + length ms
unfolding word_from
word_from_law w [] n h = omega arith
word_from_law w (m ∷ ms) n h =
    let more = word_from_law (suc w) ms n (omega arith) in
    either_part (λ k. k < w + suc (length ms)) (same_name m n) w (word_from (suc w) ms n) (λ y. omega arith) (λ n. omega (arith, more))

word_of_law : (ms : List (List ℕ)) (n : List ℕ) → word_of ms n < length ms + 2
word_of_law ms n =
    let from = word_from_law 2 ms n (omega arith) in
    either_part (λ k. k < length ms + 2) (same_name (bytes "SEND") n) send_word (word_from 2 ms n) (λ y. omega arith) (λ n. omega (arith, from))

pub looked_up_law : (ms : List (List ℕ)) (xs : List Lexeme) → Each (LexemeFine (length ms)) xs → Each (Fine (length ms)) (map (looked_up ms) xs)
looked_up_law ms [] h = tt
looked_up_law ms (name n ∷ xs) h = (word_of_law ms n, looked_up_law ms xs h.1)
looked_up_law ms (token t ∷ xs) h = (h.0, looked_up_law ms xs h.1)
