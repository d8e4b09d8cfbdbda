-- No cell of a statement is dropped: each token takes its first cell and some behind it, and the next token begins where it
-- ends. So the bound of `lexemes_in` decides nothing, and `lexemes` is what it would be without one.
use Prim.Native.Nat.{ℕ, zero, suc, ◌≤◌}
use mathlib.Core.Path.{◌≡◌, refl, ap, subst}
use mathlib.Core.Bool.{Bool, true}
use mathlib.Core.List.{List, [], ◌∷◌, ◌++◌}
use native.Mathlib.Omega.{arith}
use lib.Dec.{eqb, ltb}
use lib.ListN.{length}
use Rattle.base.specs.Choice.{pick}
use Rattle.base.specs.Text.{bytes}
use Rattle.base.specs.Front.{found, missing, on_front}
use Rattle.base.proofs.Cases.{either_part}
use Rattle.text.specs.Pieces.{Front, fixed}
use Rattle.source.proofs.Each.{Each}
use Rattle.source.specs.declared.Token.{Token}
use Rattle.source.specs.Limits.{greatest_constant}
use Rattle.source.specs.Cells.{is_capital, is_small}
use Rattle.source.specs.Tokens.{Sign, sign, keywords, pairs, singles, first_of, Lexeme, token, One, one, wrong, run, past_run}
use Rattle.source.specs.Tokens.{is_digit, in_name, keyword_at, decimal_value, Text, text, unclosed, longer, text_at}
use Rattle.source.specs.Tokens.{constant_of, sign_at, lexeme, Lexed, lexed, behind, on_one, lexemes_in, lexemes}

-- the last cells of others
pub data Rest : List ℕ → List ℕ → Type 0 where
  all : {cells : List ℕ} → Rest cells cells
  past : {c : ℕ} {cells rest : List ℕ} → Rest cells rest → Rest (c ∷ cells) rest

front_of : {cells rest : List ℕ} → Rest cells rest → (front : List ℕ) × (front ++ rest ≡ cells)
front_of all = ([], refl)
front_of (past {c = c} r) = let f = front_of r in (c ∷ f.0, ap (λ l. c ∷ l) f.1)

-- ---- one token

abbrev TextLeaves : List ℕ → Text → Type 0
TextLeaves cells (text cs rest) = Rest cells rest
TextLeaves cells unclosed = Unit {0}

longer_leaves : (c d : ℕ) (cells : List ℕ) (t : Text) → TextLeaves cells t → TextLeaves (c ∷ cells) (longer d t)
longer_leaves c d cells (text cs rest) r = past r
longer_leaves c d cells unclosed r = tt

further_leaves : (c : ℕ) (cells : List ℕ) (t : Text) → TextLeaves cells t → TextLeaves (c ∷ cells) t
further_leaves c cells (text cs rest) r = past r
further_leaves c cells unclosed r = tt

text_leaves : (cells : List ℕ) → TextLeaves cells (text_at cells)
unfolding text_at
text_leaves [] = tt
text_leaves (c ∷ []) = either_part (TextLeaves (c ∷ [])) (eqb c 39) (text [] []) unclosed (λ y. past all) (λ n. tt)
text_leaves (c ∷ d ∷ cells) =
    let both = text_leaves cells in
    let behind_c = text_leaves (d ∷ cells) in
    either_part (TextLeaves (c ∷ d ∷ cells)) (eqb c 39) _ _
    (λ y. either_part (TextLeaves (c ∷ d ∷ cells)) (eqb d 39) _ _
    (λ z. further_leaves c (d ∷ cells) (longer 39 (text_at cells)) (longer_leaves d 39 cells (text_at cells) both))
    (λ n. past all))
    (λ n. longer_leaves c c (d ∷ cells) (text_at (d ∷ cells)) behind_c)

module _ (cells : List ℕ) where
  abbrev pub Leaves : One → Type 0
  Leaves (one x rest) = Rest cells rest
  Leaves (wrong n) = Unit {0}

  abbrev FrontLeaves : {A : Type 0} → Front A → Type 0
  FrontLeaves (found t rest) = Rest cells rest
  FrontLeaves missing = Unit {0}

past_rest : (test : ℕ → Bool) (cells : List ℕ) → Rest cells (past_run test cells)
unfolding past_run
past_rest test [] = all
past_rest test (c ∷ cells) =
    let more = past_rest test cells in
    either_part (Rest (c ∷ cells)) (test c) (past_run test cells) (c ∷ cells) (λ y. past more) (λ n. all)

run_leaves : (test : ℕ → Bool) (c : ℕ) (cells : List ℕ) → test c ≡ true → Rest cells (past_run test (c ∷ cells))
unfolding past_run pick
run_leaves test c cells y = rw y (past_rest test cells)

further_front : {A : Type 0} (c : ℕ) (cells : List ℕ) (f : Front A) → FrontLeaves cells f → FrontLeaves (c ∷ cells) f
further_front c cells (found a rest) r = past r
further_front c cells missing r = tt

fixed_rest : (cs cells : List ℕ) → FrontLeaves cells (fixed cs cells)
unfolding fixed
fixed_rest [] cells = all
fixed_rest (c ∷ cs) [] = tt
fixed_rest (c ∷ cs) (b ∷ cells) =
    let more = fixed_rest cs cells in
    either_part (FrontLeaves (b ∷ cells)) (eqb b c) (fixed cs cells) missing (λ y. further_front b cells (fixed cs cells) more) (λ n. tt)

-- a string of one character at least takes the first cell
abbrev Some : List ℕ → Type 0
Some [] = ⊥
Some (c ∷ cs) = Unit {0}

abbrev SomeSign : Sign → Type 0
SomeSign (sign s t) = Some (bytes s)

fixed_leaves : (cs : List ℕ) → Some cs → (c : ℕ) (cells : List ℕ) → FrontLeaves cells (fixed cs (c ∷ cells))
unfolding fixed
fixed_leaves [] h c cells = absurd h
fixed_leaves (b ∷ cs) h c cells =
    either_part (FrontLeaves cells) (eqb c b) (fixed cs cells) missing (λ y. fixed_rest cs cells) (λ n. tt)

module _ (c : ℕ) (cells : List ℕ) where
  on_fixed : (f : Front (List ℕ)) (t : Token) (others : Front Token) → FrontLeaves cells f → FrontLeaves cells others
      → FrontLeaves cells (on_front f (λ b rest. found t rest) others)
  unfolding on_front
  on_fixed (found s rest) t others h o = h
  on_fixed missing t others h o = o

  first_leaves : (signs : List Sign) → Each SomeSign signs → FrontLeaves cells (first_of signs (c ∷ cells))
  unfolding first_of
  first_leaves [] h = tt
  first_leaves (sign s t ∷ signs) h =
      on_fixed (fixed (bytes s) (c ∷ cells)) t (first_of signs (c ∷ cells)) (fixed_leaves (bytes s) h.0 c cells) (first_leaves signs h.1)

  on_front_law : (f : Front Token) (others : One) → FrontLeaves cells f → Leaves cells others
      → Leaves cells (on_front f (λ t rest. one (token t) rest) others)
  unfolding on_front
  on_front_law (found t rest) others h o = h
  on_front_law missing others h o = o

  keyword_leaves : Leaves cells (keyword_at (c ∷ cells))
  unfolding bytes
  keyword_leaves =
      on_front_law (first_of keywords (c ∷ cells)) (wrong 5) (first_leaves keywords (tt, (tt, (tt, (tt, (tt, (tt, (tt, (tt, (tt, (tt, tt))))))))))) tt

  sign_leaves : Leaves cells (sign_at c cells)
  unfolding bytes
  sign_leaves =
      on_front_law (first_of pairs (c ∷ cells)) _ (first_leaves pairs (tt, (tt, (tt, (tt, (tt, (tt, (tt, tt))))))))
      (on_front_law (first_of singles (c ∷ cells)) _ (first_leaves singles (tt, (tt, (tt, (tt, (tt, (tt, (tt, (tt, (tt, (tt, tt)))))))))))
      all)

  constant_leaves : (t : Text) → TextLeaves cells t → Leaves cells (constant_of t)
  constant_leaves unclosed h = tt
  constant_leaves (text cs rest) h =
      either_part (Leaves cells) (eqb (length cs) 0) _ _
      (λ y. tt)
      (λ n. either_part (Leaves cells) (ltb 4 (length cs)) _ _ (λ y. tt) (λ few. h))

  in_name_law : is_capital c ≡ true → in_name c ≡ true
  unfolding pick
  in_name_law y = rw y refl

  pub leaves : Leaves cells (lexeme c cells)
  unfolding lexeme
  leaves =
      either_part (Leaves cells) (is_small c) _ _
      (λ y. keyword_leaves)
      (λ n. either_part (Leaves cells) (is_capital c) _ _
      (λ y. run_leaves in_name c cells (in_name_law y))
      (λ m. either_part (Leaves cells) (is_digit c) _ _
      (λ y. either_part (Leaves cells) (ltb greatest_constant (decimal_value 0 (run is_digit (c ∷ cells)))) _ _
      (λ over. tt)
      (λ few. run_leaves is_digit c cells y))
      (λ o. either_part (Leaves cells) (eqb c 39) _ _
      (λ y. constant_leaves (text_at cells) (text_leaves cells))
      (λ q. sign_leaves))))

  -- a token is the first cell and those behind it up to the cells that are left
  pub cells_taken : (x : Lexeme) (rest : List ℕ) → lexeme c cells ≡ one x rest → (front : List ℕ) × (front ++ rest ≡ cells)
  cells_taken x rest e = front_of (subst (Leaves cells) e leaves)

-- ---- all cells

pub rest_shorter : {cells rest : List ℕ} → Rest cells rest → length rest ≤ length cells
rest_shorter all = omega arith
rest_shorter (past r) = let h = rest_shorter r in omega (arith, h)

-- others that agree on fewer cells
on_one_law : (cells : List ℕ) (o : One) (f g : List ℕ → Lexed) → Leaves cells o → ((rest : List ℕ) → length rest ≤ length cells → f rest ≡ g rest)
    → on_one o f ≡ on_one o g
unfolding on_one
on_one_law cells (one x rest) f g r h = ap (behind x) (h rest (rest_shorter r))
on_one_law cells (wrong n) f g r h = refl

same_tokens : (j k : ℕ) (cells : List ℕ) → length cells ≤ j → length cells ≤ k → lexemes_in j cells ≡ lexemes_in k cells
unfolding lexemes_in
same_tokens zero zero cells f g = refl
same_tokens zero (suc k) [] f g = refl
same_tokens zero (suc k) (c ∷ cells) f g = absurd (omega (arith, f))
same_tokens (suc j) zero [] f g = refl
same_tokens (suc j) zero (c ∷ cells) f g = absurd (omega (arith, g))
same_tokens (suc j) (suc k) [] f g = refl
same_tokens (suc j) (suc k) (c ∷ cells) f g =
    on_one_law cells (lexeme c cells) (lexemes_in j) (lexemes_in k) (leaves c cells)
    (λ rest h. same_tokens j k rest (omega (arith, f, h)) (omega (arith, g, h)))

-- ---- the statements

-- any bound that is enough gives the same
pub enough_bound : (k : ℕ) (cells : List ℕ) → length cells ≤ k → lexemes_in k cells ≡ lexemes cells
enough_bound k cells h = same_tokens k (length cells) cells h (omega arith)

-- so no bound is there: no cells have no tokens, and others have the first token and those of the cells that it leaves
pub no_cells : lexemes [] ≡ lexed []
unfolding lexemes_in
no_cells = refl

pub first_and_others : (c : ℕ) (cells : List ℕ) → lexemes (c ∷ cells) ≡ on_one (lexeme c cells) lexemes
unfolding lexemes_in
first_and_others c cells =
    on_one_law cells (lexeme c cells) (lexemes_in (length cells)) lexemes (leaves c cells) (λ rest h. enough_bound (length cells) rest h)
