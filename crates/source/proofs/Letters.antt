-- The names that a program declares have no more letters than its statements have cells: each name has cells of its own, and
-- only a declaration adds names.
use Prim.Native.Nat.{ℕ, zero, suc, ◌+◌, ◌≤◌}
use mathlib.Core.Path.{◌≡◌, refl, subst}
use mathlib.Core.Bool.{Bool}
use mathlib.Core.List.{List, [], ◌∷◌, ◌++◌, map}
use native.Mathlib.Omega.{arith}
use lib.ListN.{length}
use Rattle.base.specs.Choice.{pick}
use Rattle.base.specs.Front.{found, missing, on_front}
use Rattle.base.proofs.Cases.{by_test, either_part}
use Rattle.text.specs.Pieces.{Front}
use Rattle.source.specs.declared.Token.{Token}
use Rattle.source.specs.Tokens.{Lexeme, name, token, One, one, wrong, run, past_run, in_name, keywords, pairs, singles, first_of}
use Rattle.source.specs.Tokens.{Text, text, unclosed, text_at, constant_of, lexeme, Lexed, lexed, behind, on_one, lexemes_in, lexemes}
use Rattle.source.specs.Tokens.{refused as lex_refused}
use Rattle.source.specs.Grammar.{Instruction, Form, beginning, declaration, ending, labels, instruction, finish, finish_else, no_form, form}
use Rattle.source.specs.Program.{Stage, nothing, declarations, instructions, Group, first, second, Program, Outcome, refused, further, given}
use Rattle.source.specs.Program.{looked_up, names_in, declare, labelling, instructing, finishing, alternating}
use Rattle.source.specs.Program.{Unset, unset, all_set, first_unset, finished, closed, concluding, in_order, on_lexed, statement}
use Rattle.source.specs.Memory.{letters_in}
use Rattle.source.proofs.EveryCell.{Leaves, leaves, rest_shorter}

pub letters_append : (ms ns : List (List ℕ)) → letters_in (ms ++ ns) ≡ letters_in ms + letters_in ns
unfolding letters_in
letters_append [] ns = omega arith
letters_append (m ∷ ms) ns = let more = letters_append ms ns in omega (arith, more)

-- ---- one token

run_and_past : (test : ℕ → Bool) (cells : List ℕ) → length (run test cells) + length (past_run test cells) ≡ length cells
unfolding run past_run pick
run_and_past test [] = refl
run_and_past test (c ∷ cells) =
    let more = run_and_past test cells in
    by_test (test c) (λ y. rw y (omega (arith, more))) (λ n. rw n (omega arith))

-- a name and the cells behind it are no more than some cells
abbrev NameFits : List ℕ → One → Type 0
NameFits cells (one (name n) rest) = length n + length rest ≤ length cells
NameFits cells (one (token t) rest) = Unit {0}
NameFits cells (wrong n) = Unit {0}

module _ (cells : List ℕ) where
  front_fits : (f : Front Token) (others : One) → NameFits cells others → NameFits cells (on_front f (λ t rest. one (token t) rest) others)
  unfolding on_front
  front_fits (found t rest) others h = tt
  front_fits missing others h = h

  constant_fits : (t : Text) → NameFits cells (constant_of t)
  constant_fits unclosed = tt
  constant_fits (text cs rest) =
      either_part (NameFits cells) _ _ _ (λ y. tt) (λ n. either_part (NameFits cells) _ _ _ (λ y. tt) (λ n. tt))

name_fits : (c : ℕ) (cells : List ℕ) → NameFits (c ∷ cells) (lexeme c cells)
unfolding lexeme
name_fits c cells =
    let whole = run_and_past in_name (c ∷ cells) in
    either_part (NameFits (c ∷ cells)) _ _ _
    (λ y. front_fits (c ∷ cells) (first_of keywords (c ∷ cells)) (wrong 5) tt)
    (λ n. either_part (NameFits (c ∷ cells)) _ _ _
    (λ y. omega (arith, whole))
    (λ n. either_part (NameFits (c ∷ cells)) _ _ _
    (λ y. either_part (NameFits (c ∷ cells)) _ _ _ (λ y. tt) (λ n. tt))
    (λ n. either_part (NameFits (c ∷ cells)) _ _ _
    (λ y. constant_fits (c ∷ cells) (text_at cells))
    (λ n. front_fits (c ∷ cells) (first_of pairs (c ∷ cells)) _ (front_fits (c ∷ cells) (first_of singles (c ∷ cells)) _ tt)))))

-- ---- all tokens

-- the names have so many letters at most
abbrev LexedFits : ℕ → Lexed → Type 0
LexedFits most (lexed xs) = letters_in (names_in xs) ≤ most
LexedFits most (lex_refused n) = Unit {0}

name_behind : (n : List ℕ) (l : Lexed) (k most : ℕ) → length n + k ≤ most → LexedFits k l → LexedFits most (behind (name n) l)
unfolding names_in letters_in
name_behind n (lexed xs) k most h f = omega (arith, h, f)
name_behind n (lex_refused m) k most h f = tt

token_behind : (t : Token) (l : Lexed) (k most : ℕ) → k ≤ most → LexedFits k l → LexedFits most (behind (token t) l)
unfolding names_in
token_behind t (lexed xs) k most h f = omega (arith, h, f)
token_behind t (lex_refused m) k most h f = tt

one_fits : (c : ℕ) (cells : List ℕ) (o : One) (others : List ℕ → Lexed) → Leaves cells o → NameFits (c ∷ cells) o
    → ((rest : List ℕ) → LexedFits (length rest) (others rest)) → LexedFits (length (c ∷ cells)) (on_one o others)
unfolding on_one
one_fits c cells (one (name n) rest) others left fits more = name_behind n (others rest) (length rest) _ fits (more rest)
one_fits c cells (one (token t) rest) others left fits more =
    let shorter = rest_shorter left in
    token_behind t (others rest) (length rest) _ (omega (arith, shorter)) (more rest)
one_fits c cells (wrong n) others left fits more = tt

lexemes_fit : (k : ℕ) (cells : List ℕ) → LexedFits (length cells) (lexemes_in k cells)
unfolding lexemes_in names_in letters_in
lexemes_fit zero cells = omega arith
lexemes_fit (suc k) [] = omega arith
lexemes_fit (suc k) (c ∷ cells) =
    one_fits c cells (lexeme c cells) (λ rest. lexemes_in k rest) (leaves c cells) (name_fits c cells) (λ rest. lexemes_fit k rest)

-- the names of a statement have no more letters than it has cells
pub letters_few : (cells : List ℕ) (xs : List Lexeme) → lexemes cells ≡ lexed xs → letters_in (names_in xs) ≤ length cells
letters_few cells xs e = subst (LexedFits (length cells)) e (lexemes_fit (length cells) cells)

-- ---- a statement

-- the names declared so far have so many letters at most
abbrev LettersWithin : ℕ → Outcome → Type 0
LettersWithin most (refused n place) = Unit {0}
LettersWithin most (further p) = letters_in p.names ≤ most
LettersWithin most (given s) = Unit {0}

module _ (p : Program) (k most : ℕ) (same : letters_in p.names ≤ most) where
  finished_letters : (u : Unset) → LettersWithin most (finished p u)
  finished_letters (unset j) = tt
  finished_letters all_set = tt

  closed_letters : (gs : List Group) (o : Outcome) → LettersWithin most o → LettersWithin most (closed gs o)
  unfolding closed
  closed_letters [] o h = h
  closed_letters (g ∷ []) o h = tt
  closed_letters (g ∷ i ∷ gs) o h = closed_letters (i ∷ gs) o h

  concluding_letters : LettersWithin most (concluding p)
  concluding_letters = closed_letters p.groups _ (finished_letters (first_unset p.set p.jumps))

  labelling_letters : (ls : List ℕ) → LettersWithin most (labelling p k ls)
  labelling_letters ls =
      either_part (LettersWithin most) _ _ _ (λ y. either_part (LettersWithin most) _ _ _ (λ y. tt) (λ n. same)) (λ n. tt)

  instructing_letters : (ls : List ℕ) (i : Instruction) → LettersWithin most (instructing p k ls i)
  instructing_letters ls i =
      either_part (LettersWithin most) _ _ _
      (λ y. either_part (LettersWithin most) _ _ _
      (λ y. either_part (LettersWithin most) _ _ _
      (λ y. either_part (LettersWithin most) _ _ _
      (λ y. tt)
      (λ n. either_part (LettersWithin most) _ _ _
      (λ y. tt)
      (λ n. either_part (LettersWithin most) _ _ _
      (λ y. tt)
      (λ n. either_part (LettersWithin most) _ _ _
      (λ y. tt)
      (λ n. either_part (LettersWithin most) _ _ _ (λ y. tt) (λ n. same))))))
      (λ n. tt))
      (λ n. tt))
      (λ n. tt)

  finishing_letters : (gs : List Group) → LettersWithin most (finishing p k gs)
  finishing_letters [] = tt
  finishing_letters (first j x c ∷ gs) = either_part (LettersWithin most) _ _ _ (λ y. tt) (λ n. same)
  finishing_letters (second j x c y ∷ gs) = either_part (LettersWithin most) _ _ _ (λ y. tt) (λ n. same)

  alternating_letters : (gs : List Group) → LettersWithin most (alternating p k gs)
  alternating_letters [] = tt
  alternating_letters (first j x c ∷ gs) =
      either_part (LettersWithin most) _ _ _ (λ y. tt) (λ n. either_part (LettersWithin most) _ _ _ (λ y. tt) (λ n. same))
  alternating_letters (second j x c y ∷ gs) = tt

  -- only a declaration adds names
  declare_letters : (ns : List (List ℕ)) → letters_in p.names + letters_in ns ≤ most → LettersWithin most (declare p k ns)
  declare_letters ns h =
      let together = letters_append p.names ns in
      either_part (LettersWithin most) _ _ _
      (λ y. either_part (LettersWithin most) _ _ _ (λ y. tt) (λ n. omega (arith, together, h)))
      (λ n. tt)

  module _ (xs : List Lexeme) (more : letters_in p.names + letters_in (names_in xs) ≤ most) where
    order_letters : (q : Stage) (f : Form) → LettersWithin most (in_order p q k xs f)
    order_letters nothing beginning = same
    order_letters nothing declaration = tt
    order_letters nothing ending = tt
    order_letters nothing (labels ls) = tt
    order_letters nothing (instruction ls i) = tt
    order_letters nothing finish = tt
    order_letters nothing finish_else = tt
    order_letters nothing no_form = tt
    order_letters declarations beginning = tt
    order_letters declarations declaration = declare_letters (names_in xs) more
    order_letters declarations ending = concluding_letters
    order_letters declarations (labels ls) = labelling_letters ls
    order_letters declarations (instruction ls i) = instructing_letters ls i
    order_letters declarations finish = finishing_letters p.groups
    order_letters declarations finish_else = alternating_letters p.groups
    order_letters declarations no_form = tt
    order_letters instructions beginning = tt
    order_letters instructions declaration = tt
    order_letters instructions ending = concluding_letters
    order_letters instructions (labels ls) = labelling_letters ls
    order_letters instructions (instruction ls i) = instructing_letters ls i
    order_letters instructions finish = finishing_letters p.groups
    order_letters instructions finish_else = alternating_letters p.groups
    order_letters instructions no_form = tt

lexed_letters : (p : Program) (k room : ℕ) (l : Lexed) → LexedFits room l → LettersWithin (letters_in p.names + room) (on_lexed p k l)
lexed_letters p k room (lex_refused n) h = tt
lexed_letters p k room (lexed xs) h =
    order_letters p k _ (omega arith) xs (omega (arith, h)) p.stage (form (map (looked_up p.names) xs))

-- a statement adds no more letters of names than it has cells
pub statement_letters : (p q : Program) (k : ℕ) (cells : List ℕ) → statement p k cells ≡ further q
    → letters_in q.names ≤ letters_in p.names + length cells
unfolding statement
statement_letters p q k cells e =
    subst (LettersWithin (letters_in p.names + length cells)) e
    (lexed_letters p k (length cells) (lexemes cells) (lexemes_fit (length cells) cells))
