-- A statement's form, read off what the grammar tells of it.
use Prim.Native.Nat.{ℕ, zero, suc, ◌+◌, ◌*◌, ◌<◌, ◌≤◌, min}
use mathlib.Core.Bool.{Bool, true, false}
use mathlib.Core.Path.{◌≡◌, refl, sym, ap, ◌∙◌}
use mathlib.Core.List.{List, [], ◌∷◌, map}
use native.Mathlib.Omega.{arith}
use lib.ListN.{length, length-map, take, length-take}
use Rattle.base.specs.Choice.{pick}
use Rattle.base.specs.Places.{each}
use Rattle.base.proofs.Cases.{both_yes, by_test}
use Rattle.base.proofs.Places.{each_length}
use Rattle.sheet.specs.declared.Field.{Field}
use Rattle.sheet.specs.Sheet.{Sheet}
use Rattle.sheet_field.specs.Memory.{fields_from}
use Rattle.sheet_field.proofs.Stored.{fields_front}
use Rattle.source.specs.declared.Token.{Token}
use Rattle.source.specs.declared.Token.TheVariants.{Name, Number, Quoted, Binary, Compare, Mark}
use Rattle.source.specs.declared.Statement.{Statement}
use Rattle.source.specs.Limits.{most_cells}
use Rattle.source.specs.Tokens.{Lexeme, name, token, Lexed, lexed, mark_integer, mark_begin, mark_end, mark_comma, mark_finish, mark_else, mark_start, lexemes, refused as wrong}
use Rattle.source.specs.Grammar.{Instruction as Instructing, simple, if_then, if_else, if_start}
use Rattle.source.specs.Grammar.{Form, beginning, declaration, ending, labels, instruction, finish, finish_else, no_form, behind_first, opens, is_name, is_mark, is_name_list}
use Rattle.source.specs.Grammar.{form, only, finishing, Labelled, labelled as labelled_tokens, labelled_form, labels_at as labels_before, entire, instruction_at}
use Rattle.source.specs.Grammar.{Read, read, none}
use Rattle.source.specs.Fields.{instruction_fields}
use Rattle.source.specs.Memory.{tokens_from, lexeme_of, lexemes_from, held, letters_in, most_listed}
use Rattle.source.specs.Program.{looked_up, names_in, Program, Stage, nothing, declarations, instructions, in_order, refused, statement, Outcome, on_lexed}
use Rattle.source.proofs.Stored.{lexemes_each}
use Rattle.source.proofs.Letters.{letters_few}
use Rattle.std.proofs.Common.{Result, Ok, Err}
use Rattle.source.specs.declared.Refusal.{Refusal}
use Rattle.source.specs.declared.Refusal.TheVariants.{Form as BadForm}
use Rattle.source.specs.Refusals.{refusal_number}
use Rattle.tokens.specs.declared.Failure.{Failure as NotLexed}
use Rattle.tokens.specs.declared.Failure.TheVariants.{Refused as Wrong, Unfit as NotFit}
use Rattle.tokens.specs.Answers.{Told as ToldTokens, told as told_tokens, unfit as unfit_tokens, lexed_in, lexed_of}
use Rattle.tokens.proofs.Scanning.{lexed_fit, told_short}
use Rattle.grammar.specs.declared.Form.{Form as Answer}
use Rattle.grammar.specs.declared.Form.TheVariants.{Begin, Declaration, End, Labels, Instruction, Opening, Finish, FinishElse}
use Rattle.grammar.specs.declared.Failure.{Failure as NotFormed}
use Rattle.grammar.specs.declared.Failure.TheVariants.{NoForm, Unfit as NotGrammar}
use Rattle.grammar.specs.Answers.{Few, told, Told, begins, declares, ends, labels as labelled, instruction as instructs, opening, finishes, goes_on as goes_further, refusal as no_told, unfit, fields_of}
use Rattle.grammar.specs.Answers.{labels_in}
use Rattle.labels.specs.Memory.{labels_at, label_here}
use Rattle.front_end_forms.specs.declared.Progress.{Progress}
use Rattle.front_end_forms.specs.declared.Step.TheVariants.{Further, Given}
use Rattle.front_end_forms.specs.declared.Failure.{Failure}
use Rattle.front_end_forms.specs.declared.Failure.TheVariants.{Refused, Unfit}
use Rattle.front_end_forms.specs.Answers.{Comes, refuses, comes, Goes, Gives, Steps, goes_on, IsInstruction as Instructed}
use Rattle.front_end_forms.proofs.Stages.{comes_refused}
use Rattle.front_end_statement.specs.Internal.{further_of, given_of, placed_of}

-- ---- which form it is

-- an instruction with these labels and fields, and whether it goes on behind a START
pub record IsInstruction (g : Form) (ls : List ℕ) (fs : List Field) (opens : Bool) : Type 0 where
  pub what : Instructing
  pub same : g ≡ instruction ls what
  pub fields_same : fs ≡ instruction_fields what
  pub opening_same : opens ≡ goes_on what

-- the form that the grammar tells of
abbrev Tells : Told → Form → Type 0
Tells begins g = g ≡ beginning
Tells declares g = g ≡ declaration
Tells ends g = g ≡ ending
Tells (labelled ls) g = g ≡ labels ls
Tells (instructs ls fs) g = IsInstruction g ls fs false
Tells (opening ls fs) g = IsInstruction g ls fs true
Tells finishes g = g ≡ finish
Tells goes_further g = g ≡ finish_else
Tells (no_told n) g = (g ≡ no_form) × (n ≡ 7)
Tells unfit g = ⊥

tells : (g : Form) → Tells (fields_of g) g
tells beginning = refl
tells declaration = refl
tells ending = refl
tells (labels ls) = refl
tells (instruction ls (simple u)) = record { what = simple u; same = refl; fields_same = refl; opening_same = refl }
tells (instruction ls (if_then c u)) = record { what = if_then c u; same = refl; fields_same = refl; opening_same = refl }
tells (instruction ls (if_else c u w)) = record { what = if_else c u w; same = refl; fields_same = refl; opening_same = refl }
tells (instruction ls (if_start c)) = record { what = if_start c; same = refl; fields_same = refl; opening_same = refl }
tells finish = refl
tells finish_else = refl
tells no_form = (refl, refl)

pub its_form : (t : Told) (g : Form) → t ≡ fields_of g → Tells t g
its_form t g e = rw e (tells g)

abbrev form_number : Form → ℕ
form_number beginning = 0
form_number declaration = 1
form_number ending = 2
form_number (labels ls) = 3
form_number (instruction ls i) = 4
form_number finish = 5
form_number finish_else = 6
form_number no_form = 7

-- ---- the labels that the tokens carry

pub labels_carried : (c j n : ℕ) (ks vs : List ℕ) → 2 * c ≤ n → labels_in c (tokens_from (j * 2) n ks vs) ≡ each (label_here ks vs) j c
unfolding labels_in tokens_from behind_first each
labels_carried zero j n ks vs h = refl
labels_carried (suc c) j zero ks vs h = absurd (omega (arith, h))
labels_carried (suc c) j (suc zero) ks vs h = absurd (omega (arith, h))
labels_carried (suc c) j (suc (suc n)) ks vs h =
    let e : suc (suc (j * 2)) ≡ suc j * 2 = omega arith in
    ap
    (λ l. label_here ks vs j ∷ l)
    (ap (λ k. labels_in c (tokens_from k n ks vs)) e ∙ labels_carried c (suc j) n ks vs (omega (arith, h)))

-- ---- a declaration has at most half as many names as tokens

unfoldable names_among : List Token → ℕ
names_among [] = 0
names_among (t ∷ ts) = pick (is_name t) 1 0 + names_among ts

one_or_none : (b : Bool) → pick b 1 0 ≤ 1
unfolding pick
one_or_none true = omega arith
one_or_none false = omega arith

names_few : (ms : List (List ℕ)) (xs : List Lexeme) → length (names_in xs) ≤ names_among (map (looked_up ms) xs)
unfolding names_in names_among pick
names_few ms [] = omega arith
names_few ms (name n ∷ xs) = let h = names_few ms xs in omega (arith, h)
names_few ms (token t ∷ xs) = let h = names_few ms xs in omega (arith, h)

-- a mark is no name
mark_no_name : (m : ℕ) (t : Token) → is_mark m t ≡ true → is_name t ≡ false
mark_no_name m (Name w) e = sym e
mark_no_name m (Number n) e = refl
mark_no_name m (Quoted n) e = refl
mark_no_name m (Binary o) e = refl
mark_no_name m (Compare r) e = refl
mark_no_name m (Mark k) e = refl

none_of_mark : (m : ℕ) (t : Token) → is_mark m t ≡ true → ◌≡◌ {A = ℕ} (pick (is_name t) 1 0) 0
unfolding pick
none_of_mark m t e = rw (mark_no_name m t e) refl

list_half : (ts : List Token) → is_name_list ts ≡ true → 2 * names_among ts ≤ length ts + 1
unfolding is_name_list names_among pick
list_half [] e = omega arith
list_half (t ∷ []) e = let h = one_or_none (is_name t) in omega (arith, h)
list_half (t ∷ u ∷ ts) e =
    let a = both_yes (is_name t) (pick (is_mark mark_comma u) (is_name_list ts) false) e in
    let b = both_yes (is_mark mark_comma u) (is_name_list ts) a.1 in
    let h = list_half ts b.1 in
    let x = one_or_none (is_name t) in
    let y = none_of_mark mark_comma u b.0 in
    omega (arith, h, x, y)

labels_form_law : (ls : List ℕ) → labels ls ≡ labelled_form (labelled_tokens ls [])
unfolding labelled_form
labels_form_law ls = refl

entire_form : (ls : List ℕ) (t : Token) (ts : List Token) → entire ls (instruction_at (t ∷ ts)) ≡ labelled_form (labelled_tokens ls (t ∷ ts))
unfolding labelled_form
entire_form ls t ts = refl

only_not : (f : Form) (l : List Token) → only f l ≡ declaration → (form_number f ≡ 1 → ⊥) → ⊥
only_not f [] z not_so = not_so (ap form_number z)
only_not f (x ∷ l) z not_so = let n : ◌≡◌ {A = ℕ} 7 1 = ap form_number z in absurd (omega arith)

finishing_not : (l : List Token) → finishing l ≡ declaration → ⊥
unfolding finishing pick
finishing_not l z =
    by_test
    (opens mark_else l)
    (λ x. by_test
    (opens mark_start (behind_first l))
    (λ y. only_not finish_else (behind_first (behind_first l)) (rw (x, y) at z) (λ n. absurd (omega (arith, n))))
    (λ y. let n : ◌≡◌ {A = ℕ} 7 1 = ap form_number (rw (x, y) at z) in absurd (omega arith)))
    (λ x. only_not finish l (rw x at z) (λ n. absurd (omega (arith, n))))

-- a choice that is a declaration was made for one
declared_list : (ts : List Token) → form ts ≡ declaration → (opens mark_integer ts ≡ true) × (is_name_list (behind_first ts) ≡ true)
unfolding form pick
declared_list ts e =
    by_test
    (opens mark_begin ts)
    (λ t. absurd (only_not beginning (behind_first ts) (rw t at e) (λ z. absurd (omega (arith, z)))))
    (λ t. by_test
    (opens mark_end ts)
    (λ u. absurd (only_not ending (behind_first ts) (rw (t, u) at e) (λ z. absurd (omega (arith, z)))))
    (λ u. by_test
    (opens mark_integer ts)
    (λ w. by_test
    (is_name_list (behind_first ts))
    (λ x. (w, x))
    (λ x. let z : ◌≡◌ {A = ℕ} 7 1 = ap form_number (rw (t, u, w, x) at e) in absurd (omega arith)))
    (λ w. by_test
    (opens mark_finish ts)
    (λ x. absurd (finishing_not (behind_first ts) (rw (t, u, w, x) at e)))
    (λ x. absurd (labelled_not (labels_before ts) (rw (t, u, w, x) at e))))))
  where
    entire_not : (ls : List ℕ) (r : Read Instructing) → entire ls r ≡ declaration → ⊥
    entire_not ls none z = let n : ◌≡◌ {A = ℕ} 7 1 = ap form_number z in absurd (omega arith)
    entire_not ls (read i []) z = let n : ◌≡◌ {A = ℕ} 4 1 = ap form_number z in absurd (omega arith)
    entire_not ls (read i (x ∷ l)) z = let n : ◌≡◌ {A = ℕ} 7 1 = ap form_number z in absurd (omega arith)

    labelled_not : (l : Labelled) → labelled_form l ≡ declaration → ⊥
    labelled_not (labelled_tokens ls []) z = let n : ◌≡◌ {A = ℕ} 3 1 = ap form_number (labels_form_law ls ∙ z) in absurd (omega arith)
    labelled_not (labelled_tokens ls (x ∷ l)) z = entire_not ls (instruction_at (x ∷ l)) (entire_form ls x l ∙ z)

mark_first : (m : ℕ) (ts : List Token) → opens m ts ≡ true → names_among ts ≡ names_among (behind_first ts)
unfolding opens behind_first names_among pick
mark_first m [] e = refl
mark_first m (t ∷ ts) e = rw (mark_no_name m t e) (let z : 0 + names_among ts ≡ names_among ts = omega arith in z)

behind_length : (m : ℕ) (ts : List Token) → opens m ts ≡ true → length (behind_first ts) + 1 ≡ length ts
unfolding opens behind_first pick
behind_length m [] e = let z : ◌≡◌ {A = ℕ} 0 1 = ap (λ b. pick {A = ℕ} b 1 0) e in absurd (omega arith)
behind_length m (t ∷ ts) e = omega arith

pub few_declared : (ms : List (List ℕ)) (xs : List Lexeme) → length xs ≤ most_cells → form (map (looked_up ms) xs) ≡ declaration → length (names_in xs) ≤ most_listed
few_declared ms xs h e =
    let d = declared_list (map (looked_up ms) xs) e in
    let a = names_few ms xs in
    let b = mark_first mark_integer (map (looked_up ms) xs) d.0 in
    let c = list_half (behind_first (map (looked_up ms) xs)) d.1 in
    let f = behind_length mark_integer (map (looked_up ms) xs) d.0 in
    let g : length (map (looked_up ms) xs) ≡ length xs = length-map xs (looked_up ms) in
    omega (arith, a, b, c, f, g, h)

-- ---- an answer of a form as that of the statement

as_step : {P : Program → Progress → Type 0} {G : Sheet → Type 0} {r : Result Progress Failure} {o : Outcome} → Comes (Goes P) r o → Comes (Steps P G) (further_of r) o
as_step (refuses e k) = refuses e k
as_step (comes p o t) = comes (Further p) o t

as_given : {P : Program → Progress → Type 0} {G : Sheet → Type 0} {r : Result (Unit {0}) Failure} {o : Outcome}
    → Comes (λ (v : Unit {0}) o. Gives G o) r o → Comes (Steps P G) (given_of r) o
as_given (refuses e k) = refuses e k
as_given (comes v o t) = comes Given o t

-- ---- a statement by its form

no_form_law : (q : Program) (k : ℕ) (xs : List Lexeme) (t : Stage) → in_order q t k xs no_form ≡ refused 7 k
no_form_law q k xs nothing = refl
no_form_law q k xs declarations = refl
no_form_law q k xs instructions = refl

module _ (q : Program) (k : ℕ) (xs : List Lexeme) (g : Form) where
  -- the number that the case has is that of the statement's refusal
  pub on_nothing : {A : Type 0} {T : A → Outcome → Type 0} → no_told 7 ≡ fields_of g → Comes T (Err (Refused BadForm k)) (in_order q q.stage k xs g)
  on_nothing e = let t = its_form (no_told 7) g e in rw t.0 (comes_refused BadForm k (no_form_law q k xs q.stage))

  module _ {P : Program → Progress → Type 0} {G : Sheet → Type 0} where
    pub on_end : {r : Result (Unit {0}) Failure} → g ≡ ending → Comes (λ (v : Unit {0}) o. Gives G o) r (in_order q q.stage k xs ending)
        → Comes (Steps P G) (given_of r) (in_order q q.stage k xs g)
    on_end e one = rw e (as_given one)

    module _ {r : Result Progress Failure} where
      pub on_form : {f : Form} → g ≡ f → Comes (Goes P) r (in_order q q.stage k xs f) → Comes (Steps P G) (further_of r) (in_order q q.stage k xs g)
      on_form e one = rw e (as_step one)

      -- the fields of an instruction are the first m of an array
      pub on_instruction : (new own : List ℕ) (m : ℕ) (opens : Bool) → m ≤ length own → IsInstruction g new (fields_from 0 m own) opens
          → ((i : Instructing) → Instructed (take m own) opens i → Comes (Goes P) r (in_order q q.stage k xs (instruction new i)))
          → Comes (Steps P G) (further_of r) (in_order q q.stage k xs g)
      on_instruction new own m opens inside i one =
          on_form i.same (one i.what (record { its_fields = sym (fields_front m own inside) ∙ i.fields_same; its_opening = i.opening_same }))

-- ---- what the grammar told, by the case of its answer

module _ (ts : List Token) (own : List ℕ) {r : Result Answer NotFormed} (g : Form) (e : told ts r own ≡ fields_of g) where
  pub told_as : (f : Answer) → r ≡ Ok f → told ts (Ok f) own ≡ fields_of g
  told_as f z = rw z at e

  pub told_none : r ≡ Err NoForm → no_told 7 ≡ fields_of g
  told_none z = rw z at e

  pub told_unfit : {A : Type 0} → r ≡ Err NotGrammar → A
  told_unfit z = let t : unfit ≡ fields_of g = rw z at e in absurd (its_form unfit g t)

module _ (n : ℕ) (ks vs own : List ℕ) {f : Answer} (g : Form) (e : told (tokens_from 0 n ks vs) (Ok f) own ≡ fields_of g) where
  pub told_begin : f ≡ Begin → g ≡ beginning
  told_begin z = its_form begins g (rw z at e)

  pub told_declaration : f ≡ Declaration → g ≡ declaration
  told_declaration z = its_form declares g (rw z at e)

  pub told_end : f ≡ End → g ≡ ending
  told_end z = its_form ends g (rw z at e)

  pub told_finish : f ≡ Finish → g ≡ finish
  told_finish z = its_form finishes g (rw z at e)

  pub told_finish_else : f ≡ FinishElse → g ≡ finish_else
  told_finish_else z = its_form goes_further g (rw z at e)

  module _ (few : Few n f) where
    pub told_labels : (c : ℕ) → f ≡ Labels c → g ≡ labels (labels_at c ks vs)
    told_labels c z =
        let h : 2 * c ≤ n = rw z at few in
        its_form (labelled (labels_at c ks vs)) g (ap labelled (sym (labels_carried c 0 n ks vs h)) ∙ (rw z at e))

    pub told_instruction : (c m : ℕ) → f ≡ Instruction c m → IsInstruction g (labels_at c ks vs) (fields_from 0 m own) false
    told_instruction c m z =
        let h : (2 * c ≤ n) × (m ≤ n) = rw z at few in
        its_form (instructs (labels_at c ks vs) (fields_from 0 m own)) g
        (ap (λ ls. instructs ls (fields_from 0 m own)) (sym (labels_carried c 0 n ks vs h.0)) ∙ (rw z at e))

    pub told_opening : (c m : ℕ) → f ≡ Opening c m → IsInstruction g (labels_at c ks vs) (fields_from 0 m own) true
    told_opening c m z =
        let h : (2 * c ≤ n) × (m ≤ n) = rw z at few in
        its_form (opening (labels_at c ks vs) (fields_from 0 m own)) g
        (ap (λ ls. opening ls (fields_from 0 m own)) (sym (labels_carried c 0 n ks vs h.0)) ∙ (rw z at e))

few_labels : (c n : ℕ) (ks vs : List ℕ) → 2 * c ≤ n → n ≤ most_cells → length (labels_at c ks vs) ≤ most_listed
few_labels c n ks vs h short = rw (each_length (label_here ks vs) 0 c) (omega (arith, h, short))

module _ (n : ℕ) {f : Answer} (few : Few n f) where
  pub own_fields : {room : ℕ} (c m : ℕ) → f ≡ Instruction c m → n ≤ room → m ≤ room
  own_fields c m z h = let g : (2 * c ≤ n) × (m ≤ n) = rw z at few in omega (arith, g.1, h)

  pub opening_fields : {room : ℕ} (c m : ℕ) → f ≡ Opening c m → n ≤ room → m ≤ room
  opening_fields c m z h = let g : (2 * c ≤ n) × (m ≤ n) = rw z at few in omega (arith, g.1, h)

  module _ (short : n ≤ most_cells) (ks vs : List ℕ) where
    pub few_labels_told : (c : ℕ) → f ≡ Labels c → length (labels_at c ks vs) ≤ most_listed
    few_labels_told c z = few_labels c n ks vs (rw z at few) short

    pub few_labels_before : (c m : ℕ) → f ≡ Instruction c m → length (labels_at c ks vs) ≤ most_listed
    few_labels_before c m z = let h : (2 * c ≤ n) × (m ≤ n) = rw z at few in few_labels c n ks vs h.0 short

    pub few_labels_opening : (c m : ℕ) → f ≡ Opening c m → length (labels_at c ks vs) ≤ most_listed
    few_labels_opening c m z = let h : (2 * c ≤ n) × (m ≤ n) = rw z at few in few_labels c n ks vs h.0 short

-- ---- a statement by its tokens

pub lexemes_count : (n : ℕ) (cells ks vs : List ℕ) → length (lexemes_from 0 n cells ks vs) ≡ n
lexemes_count n cells ks vs = rw (lexemes_each 0 n cells ks vs) (each_length (λ i. lexeme_of cells _ _) 0 n)

module _ (q : Program) (k n : ℕ) (cells ks vs ws : List ℕ) (short : n ≤ most_cells) (same : tokens_from 0 n ks ws ≡ map (looked_up q.names) (lexemes_from 0 n cells ks vs)) where
  pub few_names_told : form (tokens_from 0 n ks ws) ≡ declaration → length (names_in (lexemes_from 0 n cells ks vs)) ≤ most_listed
  few_names_told e =
      few_declared
      q.names
      (lexemes_from 0 n cells ks vs)
      (rw (lexemes_count n cells ks vs) short)
      (ap form (sym same) ∙ e)

  pub by_tokens : {A : Type 0} {T : A → Outcome → Type 0} {r : Result A Failure}
      → Comes T r (in_order q q.stage k (lexemes_from 0 n cells ks vs) (form (tokens_from 0 n ks ws)))
      → Comes T r (on_lexed q k (lexed (lexemes_from 0 n cells ks vs)))
  by_tokens one = rw (← same) one

-- the words of all tokens, where there is a place for each
pub looked_up_law : (ms : List (List ℕ)) (n room : ℕ) (cells ks vs ws : List ℕ)
    → tokens_from 0 (min n room) ks ws ≡ map (looked_up ms) (lexemes_from 0 (min n room) cells ks vs) → n ≤ room
    → tokens_from 0 n ks ws ≡ map (looked_up ms) (lexemes_from 0 n cells ks vs)
looked_up_law ms n room cells ks vs ws e h = let all : min n room ≡ n = omega (arith, h) in (rw all at e)

-- ---- a statement by its cells

abbrev lexed_told : ToldTokens → Lexed
lexed_told (told_tokens l) = l
lexed_told unfit_tokens = wrong 0

module _ (s : Statement) where
  module _ (r : Result ℕ NotLexed) (before_ks before_vs ks vs : List ℕ) (e : lexed_in (held s) r ks vs ≡ lexed_of s before_ks before_vs) where
    -- what has tokens, or is refused, is short
    pub short_tokens : (n : ℕ) → r ≡ Ok n → s.length < most_cells
    short_tokens n z = told_short s before_ks before_vs _ (rw z at e)

    pub short_refused : (f : Refusal) → r ≡ Err (Wrong f) → s.length < most_cells
    short_refused f z = told_short s before_ks before_vs _ (rw z at e)

    module _ (short : s.length < most_cells) (room : most_cells ≤ length before_ks) (other_room : most_cells ≤ length before_vs) where
      all_told : lexed_in (held s) r ks vs ≡ told_tokens (lexemes (held s))
      all_told = e ∙ lexed_fit s before_ks before_vs short room other_room

      pub tokens_fit : {A : Type 0} → r ≡ Err NotFit → A
      tokens_fit z = let n = rw z at all_told in absurd (cc)

      -- the names of a statement have no more letters than it has cells
      pub few_letters : (n : ℕ) → r ≡ Ok n → letters_in (names_in (lexemes_from 0 n (held s) ks vs)) ≤ s.length
      few_letters n z =
          let t : lexed (lexemes_from 0 n (held s) ks vs) ≡ lexemes (held s) = ap lexed_told (rw z at all_told) in
          let few = letters_few (held s) (lexemes_from 0 n (held s) ks vs) (sym t) in
          let l : length (held s) ≡ min s.length (length s.cells) = length-take s.length s.cells in
          omega (arith, few, l)

      module _ (q : Program) (k : ℕ) {A : Type 0} {T : A → Outcome → Type 0} where
        pub by_cells : (n : ℕ) {o : Result A Failure} → r ≡ Ok n → Comes T o (on_lexed q k (lexed (lexemes_from 0 n (held s) ks vs))) → Comes T o (statement q k (held s))
        unfolding statement
        by_cells n z one =
            let t : lexed (lexemes_from 0 n (held s) ks vs) ≡ lexemes (held s) = ap lexed_told (rw z at all_told) in
            rw (← t) one

        pub by_refusal : (f : Refusal) → r ≡ Err (Wrong f) → Comes T (Err (Refused f k)) (statement q k (held s))
        unfolding statement
        by_refusal f z =
            let t : wrong (refusal_number f) ≡ lexemes (held s) = ap lexed_told (rw z at all_told) in
            comes_refused f k (ap (on_lexed q k) (sym t))

        pub not_lexed : (f : NotLexed) → r ≡ Err f → Comes T (Err (placed_of k f)) (statement q k (held s))
        not_lexed (Wrong f) z = by_refusal f z
        not_lexed NotFit z = tokens_fit z

    pub long_unfit : {A : Type 0} (k : ℕ) (f : NotLexed) → r ≡ Err f → most_cells ≤ s.length → ◌≡◌ {A = Result A Failure} (Err (placed_of k f)) (Err Unfit)
    long_unfit k (Wrong f) z many = let few = short_refused f z in absurd (omega (arith, many, few))
    long_unfit k NotFit z many = refl
