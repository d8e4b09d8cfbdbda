-- The refusals of a source: their numbers are 1 to 11 and 13, and their places are offsets or statements, no more than the bytes of
-- a source and one.
use Prim.Native.Nat.{ℕ, zero, suc, ◌+◌, ◌≤◌}
use mathlib.Core.Path.{◌≡◌, subst}
use mathlib.Core.List.{List, [], ◌∷◌, map}
use native.Mathlib.Omega.{arith}
use borrow.Author.Tests.{ltb-false}
use lib.Dec.{ltb}
use lib.ListN.{length}
use Rattle.base.specs.Front.{found, missing, on_front}
use Rattle.base.proofs.Cases.{either_part}
use Rattle.text.specs.Pieces.{Front}
use Rattle.source.specs.declared.Mode.{Mode}
use Rattle.source.specs.declared.Mode.TheVariants.{Plain, Keyword, Quoted, Comment}
use Rattle.source.specs.declared.Token.{Token}
use Rattle.source.specs.Limits.{most_bytes}
use Rattle.source.specs.Cells.{Turn, goes_on, ends, over, turn, Statements, ended, cut, ◌then◌, newline, at_last, source_end, on_turn, statements_from, statements}
use Rattle.source.specs.Tokens.{Lexeme, token, One, one, wrong, keywords, pairs, singles, first_of, Text, text, unclosed, text_at, constant_of, lexeme}
use Rattle.source.specs.Tokens.{Lexed, lexed, behind, on_one, lexemes_in, lexemes}
use Rattle.source.specs.Tokens.{refused as lex_refused}
use Rattle.source.specs.Grammar.{Instruction, simple, if_then, if_else, if_start}
use Rattle.source.specs.Grammar.{Form, beginning, declaration, ending, labels, instruction, finish, finish_else, no_form, form}
use Rattle.source.specs.Program.{Stage, nothing, declarations, instructions, Jump, jump, Group, first, second, Program, nothing_read, Outcome, refused, further, given}
use Rattle.source.specs.Program.{looked_up, names_in, declare, jumps_in, placed, groups_of, labelling, instructing, finishing, alternating, statement_of}
use Rattle.source.specs.Program.{Unset, unset, all_set, first_unset, finished, closed, concluding, in_order, on_lexed, statement}
use Rattle.source.specs.Source.{Answer, accepted, refusal, on_outcome, program, NotAllowed, offset, all_allowed, not_allowed, on_allowed, answer}
use Rattle.source.proofs.Each.{Each, each_append}

-- ---- 5 and 6

abbrev LexNumber : ℕ → Type 0
LexNumber n = (5 ≤ n) × (n ≤ 6)

abbrev OneNumbered : One → Type 0
OneNumbered (one x rest) = Unit {0}
OneNumbered (wrong n) = LexNumber n

abbrev LexedNumbered : Lexed → Type 0
LexedNumbered (lexed xs) = Unit {0}
LexedNumbered (lex_refused n) = LexNumber n

front_numbered : (f : Front Token) (others : One) → OneNumbered others → OneNumbered (on_front f (λ t rest. one (token t) rest) others)
unfolding on_front
front_numbered (found t rest) others h = tt
front_numbered missing others h = h

constant_numbered : (t : Text) → OneNumbered (constant_of t)
constant_numbered unclosed = (omega arith, omega arith)
constant_numbered (text cs rest) =
    either_part OneNumbered _ _ _
    (λ y. (omega arith, omega arith))
    (λ n. either_part OneNumbered _ _ _ (λ y. (omega arith, omega arith)) (λ n. tt))

lexeme_numbered : (c : ℕ) (cells : List ℕ) → OneNumbered (lexeme c cells)
unfolding lexeme
lexeme_numbered c cells =
    either_part OneNumbered _ _ _
    (λ y. front_numbered (first_of keywords (c ∷ cells)) (wrong 5) (omega arith, omega arith))
    (λ n. either_part OneNumbered _ _ _
    (λ y. tt)
    (λ n. either_part OneNumbered _ _ _
    (λ y. either_part OneNumbered _ _ _ (λ y. (omega arith, omega arith)) (λ n. tt))
    (λ n. either_part OneNumbered _ _ _
    (λ y. constant_numbered (text_at cells))
    (λ n. front_numbered (first_of pairs (c ∷ cells)) _ (front_numbered (first_of singles (c ∷ cells)) _ tt)))))

behind_numbered : (x : Lexeme) (l : Lexed) → LexedNumbered l → LexedNumbered (behind x l)
behind_numbered x (lexed xs) h = tt
behind_numbered x (lex_refused n) h = h

one_numbered : (o : One) (others : List ℕ → Lexed) → OneNumbered o → ((rest : List ℕ) → LexedNumbered (others rest)) → LexedNumbered (on_one o others)
unfolding on_one
one_numbered (one x rest) others h k = behind_numbered x (others rest) (k rest)
one_numbered (wrong n) others h k = h

lexemes_numbered : (k : ℕ) (cells : List ℕ) → LexedNumbered (lexemes_in k cells)
unfolding lexemes_in
lexemes_numbered zero cells = tt
lexemes_numbered (suc k) [] = tt
lexemes_numbered (suc k) (c ∷ cells) = one_numbered (lexeme c cells) (λ rest. lexemes_in k rest) (lexeme_numbered c cells) (λ rest. lexemes_numbered k rest)

-- ---- a statement

-- a number of document 01 or of 02, and a place that is k at most
abbrev Bounded : ℕ → ℕ → ℕ → Type 0
Bounded k n place = (1 ≤ n) × (n ≤ 13) × (n ≡ 12 → ⊥) × (place ≤ k)

abbrev JumpEarly : ℕ → Jump → Type 0
JumpEarly k (jump j l) = j ≤ k

abbrev GroupEarly : ℕ → Group → Type 0
GroupEarly k g = statement_of g ≤ k

-- jumps and groups are of statements up to k
abbrev Early : ℕ → Program → Type 0
Early k p = Each (JumpEarly k) p.jumps × Each (GroupEarly k) p.groups

abbrev OutcomeBounded : ℕ → Outcome → Type 0
OutcomeBounded k (refused n place) = Bounded k n place
OutcomeBounded k (further p) = Early k p
OutcomeBounded k (given s) = Unit {0}

here : (k n : ℕ) → 1 ≤ n → n ≤ 11 → Bounded k n k
here k n low high = (low, omega arith, (λ e. omega arith), omega arith)

-- 13
no_group : (k j : ℕ) → j ≤ k → Bounded k 13 j
no_group k j h = (omega arith, omega arith, (λ e. omega arith), h)

abbrev UnsetBounded : ℕ → Unset → Type 0
UnsetBounded k (unset j) = j ≤ k
UnsetBounded k all_set = Unit {0}

unset_early : (p : Program) (k : ℕ) (js : List Jump) → Each (JumpEarly k) js → UnsetBounded k (first_unset p.set js)
unfolding first_unset
unset_early p k [] h = tt
unset_early p k (jump j l ∷ js) h =
    let more = unset_early p k js h.1 in
    either_part (UnsetBounded k) _ _ _ (λ y. more) (λ n. h.0)

finished_bounded : (p : Program) (k : ℕ) (u : Unset) → UnsetBounded k u → OutcomeBounded k (finished p u)
finished_bounded p k (unset j) h = (omega arith, omega arith, (λ e. omega arith), h)
finished_bounded p k all_set h = tt

closed_bounded : (k : ℕ) (gs : List Group) (o : Outcome) → Each (GroupEarly k) gs → OutcomeBounded k o → OutcomeBounded k (closed gs o)
unfolding closed
closed_bounded k [] o h b = b
closed_bounded k (g ∷ []) o h b = no_group k (statement_of g) h.0
closed_bounded k (g ∷ i ∷ gs) o h b = closed_bounded k (i ∷ gs) o h.1 b

-- those of statement k too
jumps_early : (k : ℕ) (ls : List ℕ) → Each (JumpEarly k) (map (jump k) ls)
jumps_early k [] = tt
jumps_early k (l ∷ ls) = (omega arith, jumps_early k ls)

module _ (p : Program) (k : ℕ) (early : Early k p) where
  placed_early : (i : Instruction) → Each (GroupEarly k) (groups_of (placed k p.groups p.here i))
  placed_early (simple u) = early.1
  placed_early (if_then c u) = early.1
  placed_early (if_else c u w) = early.1
  placed_early (if_start c) = (omega arith, early.1)

  labelling_bounded : (ls : List ℕ) → OutcomeBounded k (labelling p k ls)
  labelling_bounded ls =
      either_part (OutcomeBounded k) _ _ _
      (λ y. either_part (OutcomeBounded k) _ _ _ (λ y. here k 11 (omega arith) (omega arith)) (λ n. early))
      (λ n. here k 9 (omega arith) (omega arith))

  instructing_bounded : (ls : List ℕ) (i : Instruction) → OutcomeBounded k (instructing p k ls i)
  instructing_bounded ls i =
      either_part (OutcomeBounded k) _ _ _
      (λ y. either_part (OutcomeBounded k) _ _ _
      (λ y. either_part (OutcomeBounded k) _ _ _
      (λ y. either_part (OutcomeBounded k) _ _ _
      (λ y. here k 11 (omega arith) (omega arith))
      (λ n. either_part (OutcomeBounded k) _ _ _
      (λ y. here k 11 (omega arith) (omega arith))
      (λ n. either_part (OutcomeBounded k) _ _ _
      (λ y. here k 11 (omega arith) (omega arith))
      (λ n. either_part (OutcomeBounded k) _ _ _
      (λ y. here k 11 (omega arith) (omega arith))
      (λ n. either_part (OutcomeBounded k) _ _ _
      (λ y. here k 11 (omega arith) (omega arith))
      (λ n. (each_append (JumpEarly k) p.jumps (map (jump k) (jumps_in i)) early.0 (jumps_early k (jumps_in i)), placed_early i)))))))
      (λ n. here k 9 (omega arith) (omega arith)))
      (λ n. here k 9 (omega arith) (omega arith)))
      (λ n. here k 8 (omega arith) (omega arith))

  declare_bounded : (ns : List (List ℕ)) → OutcomeBounded k (declare p k ns)
  declare_bounded ns =
      either_part (OutcomeBounded k) _ _ _
      (λ y. either_part (OutcomeBounded k) _ _ _ (λ y. here k 11 (omega arith) (omega arith)) (λ n. early))
      (λ n. here k 8 (omega arith) (omega arith))

  wrong_form : OutcomeBounded k (refused 7 k)
  wrong_form = here k 7 (omega arith) (omega arith)

  finishing_bounded : (gs : List Group) → Each (GroupEarly k) gs → OutcomeBounded k (finishing p k gs)
  finishing_bounded [] h = no_group k k (omega arith)
  finishing_bounded (first j x c ∷ gs) h = either_part (OutcomeBounded k) _ _ _ (λ y. wrong_form) (λ n. (early.0, h.1))
  finishing_bounded (second j x c y ∷ gs) h = either_part (OutcomeBounded k) _ _ _ (λ y. wrong_form) (λ n. (early.0, h.1))

  alternating_bounded : (gs : List Group) → Each (GroupEarly k) gs → OutcomeBounded k (alternating p k gs)
  alternating_bounded [] h = no_group k k (omega arith)
  alternating_bounded (first j x c ∷ gs) h =
      either_part (OutcomeBounded k) _ _ _
      (λ y. wrong_form)
      (λ n. either_part (OutcomeBounded k) _ _ _ (λ y. here k 11 (omega arith) (omega arith)) (λ n. (early.0, (omega arith, h.1))))
  alternating_bounded (second j x c y ∷ gs) h = wrong_form

  concluding_bounded : OutcomeBounded k (concluding p)
  concluding_bounded =
      closed_bounded k p.groups _ early.1
      (finished_bounded p k (first_unset p.set p.jumps) (unset_early p k p.jumps early.0))

  order_bounded : (q : Stage) (xs : List Lexeme) (f : Form) → OutcomeBounded k (in_order p q k xs f)
  order_bounded nothing xs beginning = early
  order_bounded nothing xs declaration = wrong_form
  order_bounded nothing xs ending = wrong_form
  order_bounded nothing xs (labels ls) = wrong_form
  order_bounded nothing xs (instruction ls i) = wrong_form
  order_bounded nothing xs finish = wrong_form
  order_bounded nothing xs finish_else = wrong_form
  order_bounded nothing xs no_form = wrong_form
  order_bounded declarations xs beginning = wrong_form
  order_bounded declarations xs declaration = declare_bounded (names_in xs)
  order_bounded declarations xs ending = concluding_bounded
  order_bounded declarations xs (labels ls) = labelling_bounded ls
  order_bounded declarations xs (instruction ls i) = instructing_bounded ls i
  order_bounded declarations xs finish = finishing_bounded p.groups early.1
  order_bounded declarations xs finish_else = alternating_bounded p.groups early.1
  order_bounded declarations xs no_form = wrong_form
  order_bounded instructions xs beginning = wrong_form
  order_bounded instructions xs declaration = wrong_form
  order_bounded instructions xs ending = concluding_bounded
  order_bounded instructions xs (labels ls) = labelling_bounded ls
  order_bounded instructions xs (instruction ls i) = instructing_bounded ls i
  order_bounded instructions xs finish = finishing_bounded p.groups early.1
  order_bounded instructions xs finish_else = alternating_bounded p.groups early.1
  order_bounded instructions xs no_form = wrong_form

  lexed_bounded : (l : Lexed) → LexedNumbered l → OutcomeBounded k (on_lexed p k l)
  lexed_bounded (lex_refused n) h = here k n (omega (arith, h.0)) (omega (arith, h.1))
  lexed_bounded (lexed xs) h = order_bounded p.stage xs (form (map (looked_up p.names) xs))

  statement_bounded : (cells : List ℕ) → OutcomeBounded k (statement p k cells)
  unfolding statement
  statement_bounded cells = lexed_bounded (lexemes cells) (lexemes_numbered (length cells) cells)

-- ---- the statements of a source: no more than it has bytes, and one

unfoldable count : Statements → ℕ
count ended = 0
count (cut n) = 1
count (cells then l) = suc (count l)

abbrev Cuts : Statements → Type 0
Cuts ended = Unit {0}
Cuts (cut n) = (3 ≤ n) × (n ≤ 4)
Cuts (cells then l) = Cuts l

last_few : (t : Turn) → (count (at_last t) ≤ 1) × Cuts (at_last t)
unfolding count
last_few (goes_on m cells) = (omega arith, tt)
last_few (ends cells) = (omega arith, tt)
last_few over = (omega arith, (omega arith, omega arith))

end_few : (m : Mode) (cells : List ℕ) → (count (source_end m cells) ≤ 1) × Cuts (source_end m cells)
unfolding source_end count
end_few Plain cells = either_part (λ l. (count l ≤ 1) × Cuts l) _ _ _ (λ y. (omega arith, (omega arith, omega arith))) (λ n. last_few (newline cells))
end_few Keyword cells = either_part (λ l. (count l ≤ 1) × Cuts l) _ _ _ (λ y. (omega arith, (omega arith, omega arith))) (λ n. last_few (newline cells))
end_few Quoted cells = (omega arith, (omega arith, omega arith))
end_few Comment cells = (omega arith, tt)

turn_few : (t : Turn) (rest : Mode → List ℕ → Statements) (n : ℕ) → ((m : Mode) (cells : List ℕ) → (count (rest m cells) ≤ n) × Cuts (rest m cells))
    → (count (on_turn t rest) ≤ suc n) × Cuts (on_turn t rest)
unfolding on_turn count
turn_few (goes_on m cells) rest n h = (omega (arith, (h m cells).0), (h m cells).1)
turn_few (ends cells) rest n h = (omega (arith, (h Plain []).0), (h Plain []).1)
turn_few over rest n h = (omega arith, (omega arith, omega arith))

statements_few : (m : Mode) (cells source : List ℕ) → (count (statements_from m cells source) ≤ suc (length source)) × Cuts (statements_from m cells source)
unfolding statements_from
statements_few m cells [] = end_few m cells
statements_few m cells (b ∷ bs) = turn_few (turn m b cells) (λ n held. statements_from n held bs) (suc (length bs)) (λ n held. statements_few n held bs)

-- ---- the source

abbrev AnswerBounded : ℕ → Answer → Type 0
AnswerBounded k (accepted s) = Unit {0}
AnswerBounded k (refusal n place) = Bounded k n place

jumps_wider : (j k : ℕ) → j ≤ k → (js : List Jump) → Each (JumpEarly j) js → Each (JumpEarly k) js
jumps_wider j k h [] e = tt
jumps_wider j k h (jump i l ∷ js) e = (omega (arith, e.0), jumps_wider j k h js e.1)

groups_wider : (j k : ℕ) → j ≤ k → (gs : List Group) → Each (GroupEarly j) gs → Each (GroupEarly k) gs
groups_wider j k h [] e = tt
groups_wider j k h (g ∷ gs) e = (omega (arith, e.0), groups_wider j k h gs e.1)

outcome_bounded :
    (k most : ℕ) (o : Outcome) (rest : Program → Answer)
    → k ≤ most
    → OutcomeBounded k o
    → ((q : Program) → Early k q → AnswerBounded most (rest q))
    → AnswerBounded most (on_outcome o rest)
unfolding on_outcome
outcome_bounded k most (refused n place) rest h b more = (b.0, b.1, b.2, omega (arith, b.3))
outcome_bounded k most (further p) rest h b more = more p b
outcome_bounded k most (given s) rest h b more = tt

program_bounded : (p : Program) (k most : ℕ) (l : Statements) → k + count l ≤ most → Cuts l → Early k p → AnswerBounded most (program p k l)
unfolding program count
program_bounded p k most ended few c early = (omega arith, omega arith, (λ e. omega arith), omega arith)
program_bounded p k most (cut n) few c early =
    let least = c.0 in
    let greatest = c.1 in
    (omega arith, omega arith, (λ e. omega arith), omega arith)
program_bounded p k most (cells then l) few c early =
    let wide : Early (suc k) p = (jumps_wider k (suc k) (omega arith) p.jumps early.0, groups_wider k (suc k) (omega arith) p.groups early.1) in
    outcome_bounded (suc k) most (statement p (suc k) cells) (λ q. program q (suc k) l) (omega arith)
    (statement_bounded p (suc k) wide cells)
    (λ q later. program_bounded q (suc k) most l (omega arith) c later)

abbrev OffsetWithin : ℕ → NotAllowed → Type 0
OffsetWithin most (offset j) = j ≤ most
OffsetWithin most all_allowed = Unit {0}

offset_within : (i most : ℕ) (source : List ℕ) → i + length source ≤ most → OffsetWithin most (not_allowed i source)
unfolding not_allowed
offset_within i most [] h = tt
offset_within i most (b ∷ bs) h =
    let more = offset_within (suc i) most bs (omega (arith, h)) in
    either_part (OffsetWithin most) _ _ _ (λ y. more) (λ n. omega (arith, h))

allowed_bounded : (source : List ℕ) (a : NotAllowed) → OffsetWithin (length source + 1) a → AnswerBounded (length source + 1) (on_allowed a source)
allowed_bounded source (offset j) h = (omega arith, omega arith, (λ e. omega arith), h)
allowed_bounded source all_allowed h =
    let few = statements_few Plain [] source in
    program_bounded nothing_read 0 (length source + 1) (statements source) (omega (arith, few.0)) few.1 (tt, tt)

wider_answer : (j k : ℕ) (a : Answer) → j ≤ k → AnswerBounded j a → AnswerBounded k a
wider_answer j k (accepted s) h b = tt
wider_answer j k (refusal n place) h b = (b.0, b.1, b.2, omega (arith, b.3))

answer_bounded : (source : List ℕ) → AnswerBounded (most_bytes + 1) (answer source)
answer_bounded source =
    either_part (AnswerBounded (most_bytes + 1)) (ltb most_bytes (length source)) _ _
    (λ y. (omega arith, omega arith, (λ e. omega arith), omega arith))
    (λ n. let few = ltb-false most_bytes (length source) n in
    wider_answer (length source + 1) (most_bytes + 1) (on_allowed (not_allowed 0 source) source) (omega (arith, few))
    (allowed_bounded source (not_allowed 0 source) (offset_within 0 (length source + 1) source (omega arith))))

-- the numbers and places of refusals
pub refusal_bounded : (source : List ℕ) (n place : ℕ) → answer source ≡ refusal n place
    → (1 ≤ n) × (n ≤ 13) × (n ≡ 12 → ⊥) × (place ≤ most_bytes + 1)
refusal_bounded source n place e = subst (AnswerBounded (most_bytes + 1)) e (answer_bounded source)
