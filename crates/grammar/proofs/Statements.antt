-- Labels, name lists and forms.
use Prim.Native.Nat.{ℕ, zero, suc, ◌+◌, ◌-◌, ◌*◌, ◌<◌, ◌≤◌}
use mathlib.Core.Path.{◌≡◌, refl, sym, ap, ap₂, ◌∙◌}
use mathlib.Core.Bool.{Bool, true, false}
use mathlib.Core.List.{List, [], ◌∷◌, ◌++◌, append-nil, append_assoc}
use native.Mathlib.Omega.{arith}
use native.Mathlib.Numerals.{add-one}
use borrow.Author.Tests.{leb-true, le-leb}
use lib.Dec.{leb}
use lib.ListN.{length, get_or}
use Rattle.base.specs.Choice.{pick}
use Rattle.base.proofs.Cases.{pick_yes, pick_no, both_yes}
use Rattle.sheet.specs.declared.Field.{Field}
use Rattle.source.specs.declared.Token.{Token}
use Rattle.source.specs.declared.Token.TheVariants.{Name, Number, Quoted, Binary, Compare, Mark}
use Rattle.source.specs.Limits.{most_cells}
use Rattle.source.specs.Tokens.{mark_begin, mark_end, mark_integer, mark_else, mark_start, mark_finish, mark_comma, mark_colon}
use Rattle.source.specs.Grammar.{Read, read, none, next, opens, behind_first, is_mark, is_name, is_name_list, instruction_at}
use Rattle.source.specs.Grammar.{Instruction, simple, if_then, if_else, if_start}
use Rattle.source.specs.Grammar.{Labelled, labelled, further, labels_at, labelled_form, entire, only, finishing, form, Form}
use Rattle.source.specs.Grammar.{beginning, declaration, ending, no_form}
use Rattle.source.specs.Memory.{token_carried, token_of, tokens_from}
use Rattle.grammar_look.specs.declared.Tokens.{Tokens}
use Rattle.grammar_look.specs.Internal.{token_at, ahead, first_name, first_label, is_number}
use Rattle.grammar_look.proofs.Places.{ahead_length, ahead_more, ahead_none, ahead_behind, ahead_two, ahead_one}
use Rattle.grammar_instruction.specs.Internal.{Output, whole, opening, output_of, instruction_pass}
use Rattle.grammar.specs.Answers.{begins, declares, ends, labels as labels_told, instruction as instruction_is, opening as opening_is, finishes, goes_on, refusal, unfit}
use Rattle.grammar.specs.Answers.{instruction_told, fields_of, labels_in, fit, told_of}
use Rattle.grammar.specs.Internal.{further_all, all_of, LabelsOf}

pub ahead_all : (toks : Tokens) → ahead toks 0 ≡ all_of toks
ahead_all toks = let e : toks.count - 0 ≡ toks.count = omega arith in ap (λ m. tokens_from 0 m toks.kinds.now toks.values.now) e

-- ---- name lists

no_name : (l : List Token) → first_name l ≡ false → is_name_list l ≡ false
unfolding is_name_list pick
no_name [] e = refl
no_name (t ∷ []) e = e
no_name (t ∷ u ∷ ts) e = rw e refl

one_name : (t : Token) → is_name t ≡ true → is_name_list (t ∷ []) ≡ true
unfolding is_name_list
one_name t e = e

more_names : (t u : Token) (ts : List Token) → is_name t ≡ true → is_mark mark_comma u ≡ true → is_name_list (t ∷ u ∷ ts) ≡ is_name_list ts
unfolding is_name_list pick
more_names t u ts e f = rw (e, f) refl

no_comma : (t u : Token) (ts : List Token) → is_name t ≡ true → is_mark mark_comma u ≡ false → is_name_list (t ∷ u ∷ ts) ≡ false
unfolding is_name_list pick
no_comma t u ts e f = rw (e, f) refl

module _ (toks : Tokens) (at : ℕ) where
  pub names_none : first_name (ahead toks at) ≡ false → false ≡ is_name_list (ahead toks at)
  names_none e = sym (no_name (ahead toks at) e)

  first_name_law : at < toks.count → first_name (ahead toks at) ≡ true → is_name (token_at toks at) ≡ true
  first_name_law h e = rw (ahead_more toks at h) at e

  second_mark : (m : ℕ) (b : Bool) → at + 1 < toks.count → opens m (ahead toks (at + 1)) ≡ b
      → is_mark m (token_at toks (at + 1)) ≡ b
  unfolding opens
  second_mark m b h e = rw (ahead_more toks (at + 1) h) at e

  pub names_one : at < toks.count → first_name (ahead toks at) ≡ true → toks.count - at ≡ 1 → true ≡ is_name_list (ahead toks at)
  names_one h e o = rw (ahead_one toks at h o) (sym (one_name (token_at toks at) (first_name_law h e)))

  pub names_more : at < toks.count → (toks.count - at ≡ 1 → ⊥) → first_name (ahead toks at) ≡ true
      → opens mark_comma (ahead toks (at + 1)) ≡ true → is_name_list (ahead toks at) ≡ is_name_list (ahead toks (at + 2))
  names_more h o e f =
      ap is_name_list (ahead_two toks at h o)
      ∙ more_names (token_at toks at) (token_at toks (at + 1)) (ahead toks (at + 2))
      (first_name_law h e) (second_mark mark_comma true (omega (arith, h, o)) f)

  pub names_parted : at < toks.count → (toks.count - at ≡ 1 → ⊥) → first_name (ahead toks at) ≡ true
      → opens mark_comma (ahead toks (at + 1)) ≡ false → false ≡ is_name_list (ahead toks at)
  names_parted h o e f =
      sym
      (ap is_name_list (ahead_two toks at h o)
      ∙ no_comma (token_at toks at) (token_at toks (at + 1)) (ahead toks (at + 2))
      (first_name_law h e) (second_mark mark_comma false (omega (arith, h, o)) f))

-- ---- labels

no_label : (l : List Token) → first_label l ≡ false → labels_at l ≡ labelled [] l
unfolding labels_at pick
no_label [] e = refl
no_label (Name w ∷ ts) e = refl
no_label (Number m ∷ []) e = refl
no_label (Number m ∷ u ∷ ts) e = rw e refl
no_label (Quoted m ∷ ts) e = refl
no_label (Binary o ∷ ts) e = refl
no_label (Compare r ∷ ts) e = refl
no_label (Mark m ∷ ts) e = refl

one_label : (t u : Token) (ts : List Token) → pick (is_number t) (is_mark mark_colon u) false ≡ true
    → labels_at (t ∷ u ∷ ts) ≡ further (token_carried t) (labels_at ts)
unfolding labels_at pick
one_label (Name w) u ts e = let z : ◌≡◌ {A = ℕ} 0 1 = cc in absurd (omega arith)
one_label (Number m) u ts e = rw e refl
one_label (Quoted m) u ts e = let z : ◌≡◌ {A = ℕ} 0 1 = cc in absurd (omega arith)
one_label (Binary o) u ts e = let z : ◌≡◌ {A = ℕ} 0 1 = cc in absurd (omega arith)
one_label (Compare r) u ts e = let z : ◌≡◌ {A = ℕ} 0 1 = cc in absurd (omega arith)
one_label (Mark m) u ts e = let z : ◌≡◌ {A = ℕ} 0 1 = cc in absurd (omega arith)

-- an instruction behind labels

clause : (ls : List ℕ) (t : Token) (ts : List Token)
    → labelled_form (labelled ls (t ∷ ts)) ≡ entire ls (instruction_at (t ∷ ts))
unfolding labelled_form
clause ls t ts = refl

missing_form : (ls : List ℕ) (fs : List Field) (x : Read Instruction) → none ≡ next x (λ i rest. read (output_of fs i) rest)
    → fields_of (entire ls x) ≡ refusal 7
unfolding next
missing_form ls fs none e = refl
missing_form ls fs (read i rest) e = let z : ◌≡◌ {A = ℕ} 0 1 = cc in absurd (omega arith)

told_whole : (ls : List ℕ) (gs : List Field) (i : Instruction) → output_of [] i ≡ whole gs → instruction_told ls i ≡ instruction_is ls gs
told_whole ls gs (simple u) e = cc
told_whole ls gs (if_then c u) e = cc
told_whole ls gs (if_else c u w) e = cc
told_whole ls gs (if_start c) e = let z : ◌≡◌ {A = ℕ} 0 1 = cc in absurd (omega arith)

told_opening : (ls : List ℕ) (gs : List Field) (i : Instruction) → output_of [] i ≡ opening gs → instruction_told ls i ≡ opening_is ls gs
told_opening ls gs (simple u) e = let z : ◌≡◌ {A = ℕ} 0 1 = cc in absurd (omega arith)
told_opening ls gs (if_then c u) e = let z : ◌≡◌ {A = ℕ} 0 1 = cc in absurd (omega arith)
told_opening ls gs (if_else c u w) e = let z : ◌≡◌ {A = ℕ} 0 1 = cc in absurd (omega arith)
told_opening ls gs (if_start c) e = cc

-- an instruction with nothing behind it
data Entire (o : Output) : Read Instruction → Type 0 where
  it_is : {i : Instruction} → output_of [] i ≡ o → Entire o (read i [])

entire_read : (o : Output) (rest : List Token) (x : Read Instruction) → read o rest ≡ next x (λ i l. read (output_of [] i) l) → rest ≡ []
    → Entire o x
unfolding next
entire_read o rest none e h = let z : ◌≡◌ {A = ℕ} 0 1 = cc in absurd (omega arith)
entire_read o rest (read i []) e h = let same : output_of [] i ≡ o = cc in it_is same
entire_read o rest (read i (t ∷ ts)) e h = let z : ◌≡◌ {A = ℕ} 0 1 = cc in absurd (omega arith)

whole_form : (ls : List ℕ) {gs : List Field} {x : Read Instruction} → Entire (whole gs) x → fields_of (entire ls x) ≡ instruction_is ls gs
whole_form ls {gs} (it_is {i = i} e) = told_whole ls gs i e

opening_form : (ls : List ℕ) {gs : List Field} {x : Read Instruction} → Entire (opening gs) x → fields_of (entire ls x) ≡ opening_is ls gs
opening_form ls {gs} (it_is {i = i} e) = told_opening ls gs i e

longer_form : (ls : List ℕ) (o : Output) (rest : List Token) (x : Read Instruction)
    → read o rest ≡ next x (λ i l. read (output_of [] i) l) → (t : Token) (ts : List Token) → rest ≡ t ∷ ts
    → fields_of (entire ls x) ≡ refusal 7
unfolding next
longer_form ls o rest none e t ts h = refl
longer_form ls o rest (read i []) e t ts h = let z : ◌≡◌ {A = ℕ} 0 1 = cc in absurd (omega arith)
longer_form ls o rest (read i (u ∷ us)) e t ts h = refl

-- a label more
module _ (ks vs : List ℕ) where
  labels_more : (c k m : ℕ) → 2 * c + 2 ≤ m
      → labels_in (suc c) (tokens_from k m ks vs)
      ≡ labels_in c (tokens_from k m ks vs) ++ (token_carried (token_of (get_or ks (k + 2 * c) 0) (get_or vs (k + 2 * c) 0)) ∷ [])
  unfolding labels_in tokens_from behind_first
  labels_more c k zero h = absurd (omega (arith, h))
  labels_more c k (suc zero) h = absurd (omega (arith, h))
  labels_more zero k (suc (suc m)) h = let e : k + 2 * 0 ≡ k = omega arith in rw e refl
  labels_more (suc c) k (suc (suc m)) h =
      let e : k + 2 * suc c ≡ suc (suc k) + 2 * c = omega arith in
      rw e
      (ap (λ l. token_carried (token_of (get_or ks k 0) (get_or vs k 0)) ∷ l) (labels_more c (suc (suc k)) m (omega (arith, h))))

-- the loop over them
module _ (toks : Tokens) where
  -- the loop: c labels are passed
  pub record Passed (c : ℕ) : Type 0 where
    pub inside : 2 * c ≤ toks.count
    pub same : labels_at (all_of toks)
        ≡ further_all (labels_in c (all_of toks)) (labels_at (ahead toks (2 * c)))

  pub passed_none : Passed 0
  unfolding labels_in
  passed_none =
      record {
        inside = omega arith;
        same =
            sym (none_further (labels_at (ahead toks (2 * 0))) ∙ ap labels_at (ap (λ i. ahead toks i) zeroth ∙ ahead_all toks));
      }
    where
      zeroth : 2 * 0 ≡ 0
      zeroth = omega arith

      none_further : (l : Labelled) → further_all [] l ≡ l
      none_further (labelled ls ts) = refl

  pub passed_more : (c : ℕ) → 2 * c + 1 < toks.count → first_label (ahead toks (2 * c)) ≡ true → Passed c → Passed (c + 1)
  passed_more c h e p =
      record {
        inside = omega (arith, h);
        same =
            p.same
            ∙ ap (further_all (labels_in c (all_of toks))) here
            ∙ one_further (labels_in c (all_of toks)) (token_carried first) (labels_at (ahead toks (2 * c + 2)))
            ∙ ap₂ further_all
            (sym (ap (λ j. labels_in j (all_of toks)) (add-one c) ∙ more))
            (ap (λ i. labels_at (ahead toks i)) twice);
      }
    where
      first : Token
      first = token_at toks (2 * c)

      second : Token
      second = token_at toks (2 * c + 1)

      two : ahead toks (2 * c) ≡ first ∷ second ∷ ahead toks (2 * c + 2)
      two = ahead_two toks (2 * c) (omega (arith, h)) (λ o. absurd (omega (arith, h, o)))

      here : labels_at (ahead toks (2 * c)) ≡ further (token_carried first) (labels_at (ahead toks (2 * c + 2)))
      here = ap labels_at two ∙ one_label first second (ahead toks (2 * c + 2)) (rw two at e)

      more : labels_in (suc c) (all_of toks) ≡ labels_in c (all_of toks) ++ (token_carried first ∷ [])
      more =
          let z : 0 + 2 * c ≡ 2 * c = omega arith in
          rw z at (labels_more toks.kinds.now toks.values.now c 0 toks.count (omega (arith, h)))

      twice : 2 * c + 2 ≡ 2 * (c + 1)
      twice = omega arith

      one_further : (ms : List ℕ) (m : ℕ) (l : Labelled) → further_all ms (further m l) ≡ further_all (ms ++ (m ∷ [])) l
      one_further ms m (labelled ls ts) = ap (λ x. labelled x ts) (sym (append_assoc ms (m ∷ []) ls))

  pub passed_all : (c : ℕ) → first_label (ahead toks (2 * c)) ≡ false → Passed c → LabelsOf toks c
  passed_all c e p =
      record {
        found =
            p.same
            ∙ ap (further_all (labels_in c (all_of toks))) (no_label (ahead toks (2 * c)) e)
            ∙ ap (λ x. labelled x (ahead toks (2 * c))) (append-nil (labels_in c (all_of toks)));
        inside = p.inside;
      }

  -- ---- a statement with labels, an instruction, or both

  module _ (c : ℕ) (found : LabelsOf toks c) where
    labels_form_law : labelled_form (labels_at (all_of toks)) ≡ labelled_form (labelled (labels_in c (all_of toks)) (ahead toks (2 * c)))
    labels_form_law = ap labelled_form found.found

    pub labels_alone : 2 * c ≡ toks.count
        → labels_told (labels_in c (all_of toks)) ≡ fields_of (labelled_form (labels_at (all_of toks)))
    unfolding labelled_form
    labels_alone e =
        sym
        (ap fields_of
        (labels_form_law
        ∙ ap (λ l. labelled_form (labelled (labels_in c (all_of toks)) l)) (ahead_none toks (2 * c) (omega (arith, e)))))

    instruction_form_law : (2 * c ≡ toks.count → ⊥)
        → labelled_form (labels_at (all_of toks))
        ≡ entire (labels_in c (all_of toks)) (instruction_at (ahead toks (2 * c)))
    instruction_form_law h =
        labels_form_law
        ∙ ap (λ l. labelled_form (labelled (labels_in c (all_of toks)) l)) more
        ∙ one_more_law _ _
        ∙ ap (λ l. entire (labels_in c (all_of toks)) (instruction_at l)) (sym more)
      where
        more : ahead toks (2 * c)
            ≡ token_at toks (2 * c) ∷ ahead toks (2 * c + 1)
        more = ahead_more toks (2 * c) (omega (arith, h, found.inside))

        one_more_law : (t : Token) (ts : List Token)
            → labelled_form (labelled (labels_in c (all_of toks)) (t ∷ ts))
            ≡ entire (labels_in c (all_of toks)) (instruction_at (t ∷ ts))
        one_more_law t ts = clause (labels_in c (all_of toks)) t ts

    pub no_instruction_law : (fs : List Field) → (2 * c ≡ toks.count → ⊥) → none ≡ instruction_pass fs (ahead toks (2 * c))
        → refusal 7 ≡ fields_of (labelled_form (labels_at (all_of toks)))
    no_instruction_law fs h e =
        sym
        (ap fields_of (instruction_form_law h)
        ∙ missing_form (labels_in c (all_of toks)) fs (instruction_at (ahead toks (2 * c))) e)

    module _ (a : ℕ) (h : 2 * c ≡ toks.count → ⊥) where
      module _ (i : a ≡ toks.count) where
        behind_none : (o : Output) → read o (ahead toks a) ≡ instruction_pass [] (ahead toks (2 * c))
            → Entire o (instruction_at (ahead toks (2 * c)))
        behind_none o e =
            entire_read o (ahead toks a) (instruction_at (ahead toks (2 * c))) e (ahead_none toks a (omega (arith, i)))

        pub whole_instruction : (gs : List Field) → read (whole gs) (ahead toks a) ≡ instruction_pass [] (ahead toks (2 * c))
            → instruction_is (labels_in c (all_of toks)) gs ≡ fields_of (labelled_form (labels_at (all_of toks)))
        whole_instruction gs e =
            sym
            (ap fields_of (instruction_form_law h) ∙ whole_form (labels_in c (all_of toks)) (behind_none (whole gs) e))

        pub opening_instruction : (gs : List Field) → read (opening gs) (ahead toks a) ≡ instruction_pass [] (ahead toks (2 * c))
            → opening_is (labels_in c (all_of toks)) gs ≡ fields_of (labelled_form (labels_at (all_of toks)))
        opening_instruction gs e =
            sym
            (ap fields_of (instruction_form_law h) ∙ opening_form (labels_in c (all_of toks)) (behind_none (opening gs) e))

      pub more_behind : (o : Output) → (a ≡ toks.count → ⊥) → a ≤ toks.count → read o (ahead toks a) ≡ instruction_pass [] (ahead toks (2 * c))
          → refusal 7 ≡ fields_of (labelled_form (labels_at (all_of toks)))
      more_behind o i j e =
          sym
          (ap fields_of (instruction_form_law h)
          ∙ longer_form (labels_in c (all_of toks)) o (ahead toks a) (instruction_at (ahead toks (2 * c))) e
          _ _ (ahead_more toks a (omega (arith, i, j))))

-- ---- behind %FINISH

module _ (toks : Tokens) where
  from_one : 1 < toks.count → behind_first (ahead toks 1) ≡ ahead toks 2
  from_one h = sym (ahead_behind toks 1 h)

  from_two : 2 < toks.count → behind_first (ahead toks 2) ≡ ahead toks 3
  from_two h = sym (ahead_behind toks 2 h)

  module _ (o : opens mark_else (ahead toks 1) ≡ true) (h : 1 < toks.count) where
    module _ (p : opens mark_start (ahead toks 2) ≡ true) (i : 2 < toks.count) where
      pub finish_goes_on : toks.count ≡ 3 → goes_on ≡ fields_of (finishing (ahead toks 1))
      unfolding finishing pick
      finish_goes_on e = rw (o, from_one h, p, from_two i, ahead_none toks 3 (omega (arith, e))) refl

      pub finish_else_more : (toks.count ≡ 3 → ⊥) → refusal 7 ≡ fields_of (finishing (ahead toks 1))
      unfolding finishing pick
      finish_else_more e = rw (o, from_one h, p, from_two i, ahead_more toks 3 (omega (arith, e, i))) refl

    pub finish_else_other : opens mark_start (ahead toks 2) ≡ false → refusal 7 ≡ fields_of (finishing (ahead toks 1))
    unfolding finishing pick
    finish_else_other p = rw (o, from_one h, p) refl

  module _ (o : opens mark_else (ahead toks 1) ≡ false) where
    pub finish_alone : toks.count ≡ 1 → finishes ≡ fields_of (finishing (ahead toks 1))
    unfolding finishing pick
    finish_alone e = rw (o, ahead_none toks 1 (omega (arith, e))) refl

    pub finish_more : 0 < toks.count → (toks.count ≡ 1 → ⊥) → refusal 7 ≡ fields_of (finishing (ahead toks 1))
    unfolding finishing pick
    finish_more h e = rw (o, ahead_more toks 1 (omega (arith, e, h))) refl

-- ---- forms

one_behind : (f : Form) (ts : List Token) → length ts ≡ 1 → only f (behind_first ts) ≡ f
unfolding behind_first
one_behind f [] e = absurd (omega (arith, e))
one_behind f (t ∷ []) e = refl
one_behind f (t ∷ u ∷ ts) e = absurd (omega (arith, e))

more_than_one : (f : Form) (m : ℕ) (ts : List Token) → opens m ts ≡ true → (length ts ≡ 1 → ⊥) → only f (behind_first ts) ≡ no_form
unfolding behind_first opens
more_than_one f m [] o e = let z : ◌≡◌ {A = ℕ} 0 1 = cc in absurd (omega arith)
more_than_one f m (t ∷ []) o e = absurd (e refl)
more_than_one f m (t ∷ u ∷ ts) o e = refl

module _ (toks : Tokens) where
  all : List Token
  all = all_of toks

  all_length : length all ≡ toks.count
  unfolding all
  all_length = ap length (sym (ahead_all toks)) ∙ ahead_length toks 0 ∙ same toks.count
    where
      same : (m : ℕ) → m - 0 ≡ m
      same m = omega arith

  behind_all : 0 < toks.count → ahead toks 1 ≡ behind_first all
  unfolding all
  behind_all inside =
      let one : 0 + 1 ≡ 1 = omega arith in
      ap (λ i. ahead toks i) (sym one) ∙ ahead_behind toks 0 inside ∙ ap behind_first (ahead_all toks)

  at_front : (m : ℕ) (b : Bool) → opens m (ahead toks 0) ≡ b → opens m all ≡ b
  unfolding all
  at_front m b e = rw (ahead_all toks) at e

  module _ (first : opens mark_begin (ahead toks 0) ≡ true) where
    begin_form : form all ≡ only beginning (behind_first all)
    unfolding form
    begin_form = sym (pick_yes _ _ _ _ (at_front mark_begin true first) refl)

    pub begin_alone : toks.count ≡ 1 → begins ≡ fields_of (form (all_of toks))
    unfolding all
    begin_alone e = sym (ap fields_of (begin_form ∙ one_behind beginning all (all_length ∙ e)))

    pub begin_more : (toks.count ≡ 1 → ⊥) → refusal 7 ≡ fields_of (form (all_of toks))
    unfolding all
    begin_more e =
        sym
        (ap fields_of
        (begin_form ∙ more_than_one beginning mark_begin all (at_front mark_begin true first) (λ o. e (sym all_length ∙ o))))

  module _ (first : opens mark_begin (ahead toks 0) ≡ false) where
    module _ (second : opens mark_end (ahead toks 0) ≡ true) where
      end_form : form all ≡ only ending (behind_first all)
      unfolding form
      end_form =
          sym (pick_no _ _ _ _ (at_front mark_begin false first) (pick_yes _ _ _ _ (at_front mark_end true second) refl))

      pub end_alone : toks.count ≡ 1 → ends ≡ fields_of (form (all_of toks))
      unfolding all
      end_alone e = sym (ap fields_of (end_form ∙ one_behind ending all (all_length ∙ e)))

      pub end_more : (toks.count ≡ 1 → ⊥) → refusal 7 ≡ fields_of (form (all_of toks))
      unfolding all
      end_more e =
          sym
          (ap fields_of
          (end_form ∙ more_than_one ending mark_end all (at_front mark_end true second) (λ o. e (sym all_length ∙ o))))

    module _ (second : opens mark_end (ahead toks 0) ≡ false) where
      module _ (third : opens mark_integer (ahead toks 0) ≡ true) (inside : 0 < toks.count) where
        integer_form : form all ≡ pick (is_name_list (behind_first all)) declaration no_form
        unfolding form
        integer_form =
            sym
            (pick_no _ _ _ _ (at_front mark_begin false first)
            (pick_no _ _ _ _ (at_front mark_end false second) (pick_yes _ _ _ _ (at_front mark_integer true third) refl)))

        names_behind : (b : Bool) → b ≡ is_name_list (ahead toks 1) → is_name_list (behind_first all) ≡ b
        names_behind b e = sym (e ∙ ap is_name_list (behind_all inside))

        pub integer_names : true ≡ is_name_list (ahead toks 1) → declares ≡ fields_of (form (all_of toks))
        unfolding all pick
        integer_names e = sym (ap fields_of (integer_form ∙ ap (λ b. pick b declaration no_form) (names_behind true e)))

        pub integer_more : false ≡ is_name_list (ahead toks 1) → refusal 7 ≡ fields_of (form (all_of toks))
        unfolding all pick
        integer_more e = sym (ap fields_of (integer_form ∙ ap (λ b. pick b declaration no_form) (names_behind false e)))

      module _ (third : opens mark_integer (ahead toks 0) ≡ false) where
        pub finish_form : opens mark_finish (ahead toks 0) ≡ true → 0 < toks.count → finishing (ahead toks 1) ≡ form (all_of toks)
        unfolding form all
        finish_form fourth inside =
            pick_no _ _ _ _ (at_front mark_begin false first)
            (pick_no _ _ _ _ (at_front mark_end false second)
            (pick_no _ _ _ _ (at_front mark_integer false third)
            (pick_yes _ _ _ _ (at_front mark_finish true fourth) (ap finishing (behind_all inside)))))

        pub other_form : opens mark_finish (ahead toks 0) ≡ false
            → labelled_form (labels_at (all_of toks)) ≡ form (all_of toks)
        unfolding form all
        other_form fourth =
            pick_no _ _ _ _ (at_front mark_begin false first)
            (pick_no _ _ _ _ (at_front mark_end false second)
            (pick_no _ _ _ _ (at_front mark_integer false third) (pick_no _ _ _ _ (at_front mark_finish false fourth) refl)))

-- ---- any number of tokens and any array

pub fits : (n room : ℕ) → fit n room ≡ true → (n ≤ most_cells) × (n ≤ room)
fits n room e =
    let both = both_yes (leb n most_cells) (leb n room) e in
    (leb-true n most_cells both.0, leb-true n room both.1)

module _ (n : ℕ) (fs : List ℕ) (ts : List Token) where
  pub fit_told : fit n (length fs) ≡ true → fields_of (form ts) ≡ told_of n fs ts
  unfolding told_of pick
  fit_told e = rw e refl

  pub unfit_told : fit n (length fs) ≡ false → unfit ≡ told_of n fs ts
  unfolding told_of pick
  unfit_told e = rw e refl

  -- with room for the fields
  pub form_fit : n ≤ most_cells → n ≤ length fs → told_of n fs ts ≡ fields_of (form ts)
  unfolding told_of pick
  form_fit h g = rw (le-leb n most_cells h, le-leb n (length fs) g) refl
