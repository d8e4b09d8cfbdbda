-- Brackets on a stack: what is to come of a condition, with the conditions round it, while its tokens are read.
use Prim.Native.Nat.{ℕ, zero, suc, ◌+◌, ◌-◌, ◌*◌, ◌/◌, ◌%◌, ◌<◌, ◌≤◌}
use mathlib.Core.Path.{◌≡◌, refl, sym, ap, ap₂, ◌∙◌}
use mathlib.Core.Bool.{Bool, true, false}
use mathlib.Core.List.{List, [], ◌∷◌, ◌++◌, append_assoc, append-nil}
use native.Mathlib.Omega.{arith}
use lib.ListN.{length, length-append, get_or, set}
use lib.Seq.{get_or-set_same, get_or-set_other}
use Rattle.std.specs.Prelude.{Option, Some, None}
use Rattle.base.specs.Choice.{pick}
use Rattle.word.specs.declared.Relation.{Relation}
use Rattle.sheet.specs.declared.Joining.{Joining}
use Rattle.sheet.specs.declared.Field.{Field}
use Rattle.sheet.specs.declared.Field.TheVariants.{Run}
use Rattle.sheet.specs.Sheet.{Expression, Condition, compares}
use Rattle.sheet.specs.Memory.{condition_fields}
use Rattle.sheet_field.specs.Memory.{fields_from}
use Rattle.sheet_field.proofs.Stored.{fields_length}
use Rattle.source.specs.declared.Token.{Token}
use Rattle.source.specs.Tokens.{mark_close}
use Rattle.source.specs.Grammar.{Read, read, none, next, past, opens, behind_first, expression_in, expression, relation_at, comparison_at}
use Rattle.source.specs.Grammar.{opens_condition, member_by, condition_in, condition_at}
use Rattle.grammar_look.specs.declared.Tokens.{Tokens}
use Rattle.grammar_look.specs.Internal.{ahead}
use Rattle.grammar_look.proofs.Places.{ahead_length, ahead_none, ahead_behind}
use Rattle.grammar_output.specs.Internal.{written, insert_at}
use Rattle.grammar_member.specs.declared.Reading.{Reading}
use Rattle.grammar_member.specs.Internal.{code, joining_of, word_behind, go_on, top_of, last_of, last_place}
use Rattle.grammar_member.specs.Internal.{first, behind, joint_of, add, fields_before}
use Rattle.grammar_member.specs.Internal.{Frame, resumed, beneath, Kept, begun_at, top_by, last_by, outward_from, Wanted, Reached}
use Rattle.grammar_member.proofs.Runs.{insert_behind, add_fields, add_last, add_top, join_top, last_within}
use Rattle.grammar_comparison.proofs.Relations.{opens_inside}
use Rattle.grammar_member.proofs.Words.{joining_again, code_few, go_more, go_stop, top_by_law, last_by_law}

-- ---- what is to come of the conditions round a bracket

resumed_none : (k : ℕ) (fs : List Frame) → resumed k fs none ≡ none
unfolding resumed next
resumed_none k [] = refl
resumed_none k (f ∷ fs) = resumed_none (suc k) fs

-- a condition in brackets: what is read of it, the closing bracket, and what follows it
module _ (g : Condition → List Token → Read Condition) where
  closing : (c : Condition) (rest : List Token) (b : Bool) → pick b (g c rest) none ≡ next (pick b (read c rest) none) g
  unfolding pick next
  closing c rest true = refl
  closing c rest false = refl

  inside_then : (y : Read Condition)
      → next y (λ m rest. past mark_close rest (λ l. g m l)) ≡ next (next y (λ m rest. past mark_close rest (λ l. read m l))) g
  unfolding next
  inside_then none = refl
  inside_then (read c rest) = closing c (behind_first rest) (opens mark_close rest)

bracketed_member : (inner : List Token → Read Condition) (ts : List Token) → opens_condition ts ≡ true
    → member_by inner ts ≡ next (inner (behind_first ts)) (λ c rest. past mark_close rest (λ l. read c l))
unfolding member_by pick
bracketed_member inner ts e = rw e refl

compared_member : (inner : List Token → Read Condition) (ts : List Token) → opens_condition ts ≡ false → member_by inner ts ≡ comparison_at ts
unfolding member_by pick
compared_member inner ts e = rw e refl

no_member : (inner : List Token → Read Condition) → member_by inner [] ≡ none
unfolding member_by opens_condition opens pick next expression_in
no_member inner = refl

-- the first member of a condition inside a bracket
begun_inside : (k : ℕ) (ts : List Token) (fs : List Frame)
    → resumed k fs (next (member_by (condition_in k) ts) (λ m rest. go_on (condition_in k) None (suc k) (add first m) rest))
    ≡ resumed k fs (condition_in (suc k) ts)
unfolding condition_in
begun_inside k ts fs = refl

-- ---- closing

outermost : (k : ℕ) (gs : List Frame) → length gs ≡ 0 → (base : List Field) (c : Condition) (fs : List Field) (ts : List Token)
    → fs ≡ beneath base gs ++ condition_fields c → read fs ts ≡ written condition_fields base (resumed k gs (read c ts))
unfolding resumed beneath written
outermost k [] e base c fs ts f = ap (λ l. read l ts) f
outermost k (g ∷ gs) e base c fs ts f = absurd (omega (arith, e))

unclosed_all : (k : ℕ) (gs : List Frame) → 0 < length gs → (c : Condition) (ts : List Token) → opens mark_close ts ≡ false
    → none ≡ resumed k gs (read c ts)
unfolding resumed next pick
unclosed_all k [] h c ts o = absurd (omega (arith, h))
unclosed_all k (g ∷ gs) h c ts o = rw o (sym (resumed_none (suc k) gs))

-- ---- frames in memory

-- further on they are still kept
kept_later : (n a a₁ : ℕ) (base : List Field) (ws : List ℕ) (fs : List Frame) → a ≤ a₁ → Kept n a base ws fs → Kept n a₁ base ws fs
unfolding Kept
kept_later n a a₁ base ws [] h k = tt
kept_later n a a₁ base ws (f ∷ fs) h k =
    (record { word = k.0.word; enough = omega (arith, h, k.0.enough) }, kept_later n a a₁ base ws fs h k.1)

-- and so they are where a word is put behind them
kept_set : (n a i w : ℕ) (base : List Field) (ws : List ℕ) (fs : List Frame) → length fs ≤ i → Kept n a base ws fs
    → Kept n a base (set ws i w) fs
unfolding Kept
kept_set n a i w base ws [] h k = tt
kept_set n a i w base ws (f ∷ fs) h k = (
  record { word = get_or-set_other ws i (length fs) w 0 (omega (arith, h)) ∙ k.0.word; enough = k.0.enough },
  kept_set n a i w base ws fs (omega (arith, h)) k.1,
)

-- what a word holds comes out again
start_again : (p q : ℕ) → q ≤ 2 → (p * 4 + q) / 4 ≡ p
start_again p q h = omega arith

joined_again : (p q : ℕ) → q ≤ 2 → (p * 4 + q) % 4 ≡ q
joined_again p q h = omega arith

-- ---- comparisons

-- a comparison is no run
plain_top : (b : Option Joining) (r : Relation) (x y : Expression) → join_top b (compares r x y) ≡ b
plain_top None r x y = refl
plain_top (Some w) r x y = refl

plain_last : (k : ℕ) (b : Option Joining) (r : Relation) (x y : Expression) → k + last_place b (compares r x y) ≡ k
unfolding last_of pick
plain_last k None r x y = omega arith
plain_last k (Some w) r x y = omega arith

-- a comparison that was read behind the fields of g
record Compared (x : Read Condition) (g gs : List Field) (rest : List Token) : Type 0 where
  relation : Relation
  one : Expression
  other : Expression
  found : x ≡ read (compares relation one other) rest
  fields : gs ≡ g ++ condition_fields (compares relation one other)

module _ (g gs : List Field) (rest : List Token) where
  second_compared : (r : Relation) (a : Expression) (x : Read Expression)
      → read gs rest ≡ written condition_fields g (next x (λ b others. read (compares r a b) others))
      → Compared (next x (λ b others. read (compares r a b) others)) g gs rest
  unfolding written next
  second_compared r a none e = let z : ◌≡◌ {A = ℕ} 0 1 = cc in absurd (omega arith)
  second_compared r a (read b others) e =
      let same : rest ≡ others = cc in
      let all : gs ≡ g ++ condition_fields (compares r a b) = cc in
      record { relation = r; one = a; other = b; found = rw same refl; fields = all }

  relation_compared : (a : Expression) (x : Read Relation)
      → read gs rest ≡ written condition_fields g (next x (λ r others. next (expression others) (λ b l. read (compares r a b) l)))
      → Compared (next x (λ r others. next (expression others) (λ b l. read (compares r a b) l))) g gs rest
  unfolding written next
  relation_compared a none e = let z : ◌≡◌ {A = ℕ} 0 1 = cc in absurd (omega arith)
  relation_compared a (read r others) e = second_compared r a (expression others) e

  compared : (x : Read Expression)
      → read gs rest
      ≡ written condition_fields g (next x (λ a l. next (relation_at l) (λ r others. next (expression others) (λ b m. read (compares r a b) m))))
      → Compared (next x (λ a l. next (relation_at l) (λ r others. next (expression others) (λ b m. read (compares r a b) m)))) g gs rest
  unfolding written next
  compared none e = let z : ◌≡◌ {A = ℕ} 0 1 = cc in absurd (omega arith)
  compared (read a l) e = relation_compared a (relation_at l) e

nothing_written : (g : List Field) (x : Read Condition) → none ≡ written condition_fields g x → x ≡ none
unfolding written
nothing_written g none e = refl
nothing_written g (read c rest) e = let z : ◌≡◌ {A = ℕ} 0 1 = cc in absurd (omega arith)

-- ---- from state to state

module _ (toks : Tokens) where
  -- a condition begins
  pub starts : (at out : ℕ) (fs stack : List ℕ) → at ≤ toks.count
      → Wanted toks fs stack (begun_at at out 0) (fields_from 0 out fs) (condition_at (ahead toks at))
  unfolding condition_in resumed Kept beneath next
  starts at out fs stack h = go (length (ahead toks at)) (ahead_length toks at)
    where
      go : (k : ℕ) → k ≡ toks.count - at → Wanted toks fs stack (begun_at at out 0) (fields_from 0 out fs) (condition_in k (ahead toks at))
      go zero e =
          record {
            frames = [];
            fuel = 0;
            links = 0;
            before = first;
            depth_of = refl;
            kept = tt;
            fields = sym (append-nil (fields_from 0 out fs));
            start_of = sym (fields_length 0 out fs);
            word_of_law = refl;
            enough = omega (arith, e);
            enough_links = omega (arith, e);
            same = rw (ahead_none toks at (omega (arith, e)), no_member (condition_in 0)) refl;
          }
      go (suc k) e =
          record {
            frames = [];
            fuel = k;
            links = suc k;
            before = first;
            depth_of = refl;
            kept = tt;
            fields = sym (append-nil (fields_from 0 out fs));
            start_of = sym (fields_length 0 out fs);
            word_of_law = refl;
            enough = omega (arith, e, h);
            enough_links = omega (arith, e, h);
            same = refl;
          }

  module _ (fs stack : List ℕ) (s : Reading) (base : List Field) (all : Read Condition) where
    -- a bracket: the frame of the condition round it goes on the stack
    open_reached : (k : ℕ) → opens_condition (ahead toks s.at) ≡ true → s.depth < length stack → s.at + 1 < toks.count
        → (r : Wanted toks fs stack s base all) → toks.count ≤ s.at + 1 + suc k
        → resumed (suc k) r.frames
        (next (member_by (condition_in (suc k)) (ahead toks s.at))
        (λ m rest. go_on (condition_in (suc k)) (joint_of r.before) r.links (add r.before m) rest))
        ≡ all
        → Wanted toks fs (set stack s.depth (s.start * 4 + code s.joined)) (begun_at (s.at + 1) s.out (s.depth + 1)) base all
    unfolding resumed Kept beneath
    open_reached k e room inside r enough same =
        let f : Frame = record { before = r.before; links = r.links } in
        let g : Condition → List Token → Read Condition = λ m rest. go_on (condition_in (suc k)) (joint_of r.before) r.links (add r.before m) rest in
        let inner = condition_in (suc k) (ahead toks (s.at + 1)) in
        record {
          frames = f ∷ r.frames;
          fuel = k;
          links = suc k;
          before = first;
          depth_of = omega (arith, r.depth_of);
          kept = (
            record {
              word =
                  ap (λ i. get_or (set stack s.depth (s.start * 4 + code s.joined)) i 0) r.depth_of
                  ∙ get_or-set_same stack s.depth (s.start * 4 + code s.joined) 0 room
                  ∙ ap₂ (λ p q. p * 4 + code q) r.start_of r.word_of_law;
              enough = omega (arith, r.enough_links);
            },
            kept_later toks.count s.at (s.at + 1) base _ r.frames (omega arith)
                (kept_set toks.count s.at s.depth (s.start * 4 + code s.joined) base stack r.frames (omega (arith, r.depth_of)) r.kept),
          );
          fields = r.fields ∙ sym (append-nil (beneath base r.frames ++ fields_before r.before));
          start_of = sym (fields_length 0 s.out fs) ∙ ap length r.fields;
          word_of_law = refl;
          enough = omega (arith, enough);
          enough_links = omega (arith, enough);
          same =
              begun_inside k (ahead toks (s.at + 1)) (f ∷ r.frames)
              ∙ ap (resumed (suc k) r.frames)
              (inside_then g inner
              ∙ ap (λ x. next x g)
              (ap (λ ts. next (condition_in (suc k) ts) (λ c rest. past mark_close rest (λ l. read c l))) (ahead_behind toks s.at (omega (arith, inside)))
              ∙ sym (bracketed_member (condition_in (suc k)) (ahead toks s.at) e)))
              ∙ same;
        }

    pub opened : opens_condition (ahead toks s.at) ≡ true → s.depth < length stack → Wanted toks fs stack s base all
        → Wanted toks fs (set stack s.depth (s.start * 4 + code s.joined)) (begun_at (s.at + 1) s.out (s.depth + 1)) base all
    opened e room r = go r.fuel r.enough r.same
      where
        go : (k : ℕ) → toks.count ≤ s.at + 1 + k
            → resumed k r.frames
            (next (member_by (condition_in k) (ahead toks s.at)) (λ m rest. go_on (condition_in k) (joint_of r.before) r.links (add r.before m) rest))
            ≡ all
            → Wanted toks fs (set stack s.depth (s.start * 4 + code s.joined)) (begun_at (s.at + 1) s.out (s.depth + 1)) base all
        go zero enough same = absurd (omega (arith, enough, opens_inside toks s.at e))
        go (suc k) enough same = open_reached k e room (opens_inside toks s.at e) r enough same

    -- a comparison
    compared_reached : (fs₁ : List ℕ) (a o : ℕ) → opens_condition (ahead toks s.at) ≡ false → s.at < a
        → Compared (comparison_at (ahead toks s.at)) (fields_from 0 s.out fs) (fields_from 0 o fs₁) (ahead toks a)
        → Wanted toks fs stack s base all
        → Reached toks fs₁ stack
        (record { at = a; out = o; depth = s.depth; joined = s.joined; start = s.start; top = s.joined; last = s.out }) base all
    unfolding next last_of pick
    compared_reached fs₁ a o e h x r =
        let m = compares x.relation x.one x.other in
        let b = r.before in
        let under = beneath base r.frames in
        record {
          frames = r.frames;
          fuel = r.fuel;
          links = r.links;
          joint = joint_of b;
          condition = add b m;
          depth_of = r.depth_of;
          kept = kept_later toks.count s.at a base stack r.frames (omega (arith, h)) r.kept;
          fields =
              x.fields ∙ ap (λ l. l ++ condition_fields m) r.fields ∙ append_assoc under (fields_before b) (condition_fields m)
              ∙ ap (λ l. under ++ l) (sym (add_fields b m));
          start_of = r.start_of;
          word_of_law = r.word_of_law;
          top_of_law = r.word_of_law ∙ (sym (add_top b m ∙ plain_top (joint_of b) x.relation x.one x.other));
          last_of_law =
              let size : s.out ≡ length (under ++ fields_before b) = sym (fields_length 0 s.out fs) ∙ ap length r.fields in
              let last : last_of (add b m) ≡ length (fields_before b) =
              add_last b m ∙ plain_last (length (fields_before b)) (joint_of b) x.relation x.one x.other in
              size ∙ length-append under (fields_before b) ∙ ap (λ k. length under + k) (sym last);
          enough = omega (arith, r.enough, h);
          enough_links = omega (arith, r.enough_links, h);
          same =
              ap (resumed r.fuel r.frames)
              (ap (λ y. next y (λ m rest. go_on (condition_in r.fuel) (joint_of b) r.links (add b m) rest))
              (sym (compared_member (condition_in r.fuel) (ahead toks s.at) e ∙ x.found)))
              ∙ r.same;
        }

    pub compared_found : (fs₁ : List ℕ) (a o : ℕ) → opens_condition (ahead toks s.at) ≡ false → s.at < a
        → read (fields_from 0 o fs₁) (ahead toks a) ≡ written condition_fields (fields_from 0 s.out fs) (comparison_at (ahead toks s.at))
        → Wanted toks fs stack s base all
        → Reached toks fs₁ stack
        (record { at = a; out = o; depth = s.depth; joined = s.joined; start = s.start; top = s.joined; last = s.out }) base all
    compared_found fs₁ a o e h x r =
        compared_reached fs₁ a o e h
        (compared (fields_from 0 s.out fs) (fields_from 0 o fs₁) (ahead toks a) (expression (ahead toks s.at)) x) r

    pub compared_missing : opens_condition (ahead toks s.at) ≡ false
        → none ≡ written condition_fields (fields_from 0 s.out fs) (comparison_at (ahead toks s.at)) → Wanted toks fs stack s base all
        → none ≡ all
    unfolding next
    compared_missing e x r =
        sym (resumed_none r.fuel r.frames)
        ∙ ap (resumed r.fuel r.frames)
        (ap (λ y. next y (λ m rest. go_on (condition_in r.fuel) (joint_of r.before) r.links (add r.before m) rest))
        (sym (compared_member (condition_in r.fuel) (ahead toks s.at) e ∙ nothing_written (fields_from 0 s.out fs) _ x)))
        ∙ r.same

    -- a word
    word_reached : (j : ℕ) (w : Joining) (t : Option Joining) (l : ℕ) (fs₁ : List ℕ) → word_behind s.joined (ahead toks s.at) ≡ Some w → s.at < toks.count
        → fields_from 0 (s.out + 1) fs₁ ≡ insert_at (last_by (Some w) s) (Run w 0) (fields_from 0 s.out fs)
        → (r : Reached toks fs stack s base all) → toks.count < s.at + suc j
        → resumed r.fuel r.frames (go_on (condition_in r.fuel) r.joint (suc j) r.condition (ahead toks s.at)) ≡ all
        → Wanted toks fs₁ stack
        (record { at = s.at + 1; out = s.out + 1; depth = s.depth; joined = Some w; start = s.start; top = t; last = l }) base all
    word_reached j w t l fs₁ e h g r enough same =
        let c = r.condition in
        let under = beneath base r.frames in
        record {
          frames = r.frames;
          fuel = r.fuel;
          links = j;
          before = behind w c;
          depth_of = r.depth_of;
          kept = kept_later toks.count s.at (s.at + 1) base stack r.frames (omega arith) r.kept;
          fields =
              g
              ∙ ap (λ p. insert_at p (Run w 0) (fields_from 0 s.out fs))
              (last_by_law s (length under) r.start_of (Some w) c r.top_of_law r.last_of_law)
              ∙ ap (insert_at (length under + last_place (Some w) c) (Run w 0)) r.fields
              ∙ insert_behind under (condition_fields c) (last_place (Some w) c) (Run w 0);
          start_of = r.start_of;
          word_of_law = refl;
          enough = omega (arith, r.enough);
          enough_links = omega (arith, enough);
          same =
              ap (resumed r.fuel r.frames)
              (ap (λ ts. next (member_by (condition_in r.fuel) ts) (λ m rest. go_on (condition_in r.fuel) (Some w) j (add (behind w c) m) rest))
              (ahead_behind toks s.at h)
              ∙ sym (go_more (condition_in r.fuel) j c (ahead toks s.at) r.joint w
              (ap (λ k. word_behind k (ahead toks s.at)) (sym r.word_of_law) ∙ e)))
              ∙ same;
        }

    pub word_turn : (w : Joining) (t : Option Joining) (l : ℕ) (fs₁ : List ℕ) → word_behind s.joined (ahead toks s.at) ≡ Some w → s.at < toks.count
        → fields_from 0 (s.out + 1) fs₁ ≡ insert_at (last_by (Some w) s) (Run w 0) (fields_from 0 s.out fs)
        → Reached toks fs stack s base all
        → Wanted toks fs₁ stack
        (record { at = s.at + 1; out = s.out + 1; depth = s.depth; joined = Some w; start = s.start; top = t; last = l }) base all
    word_turn w t l fs₁ e h g r = go r.links r.enough_links r.same
      where
        go : (j : ℕ) → toks.count < s.at + j
            → resumed r.fuel r.frames (go_on (condition_in r.fuel) r.joint j r.condition (ahead toks s.at)) ≡ all
            → Wanted toks fs₁ stack
            (record { at = s.at + 1; out = s.out + 1; depth = s.depth; joined = Some w; start = s.start; top = t; last = l }) base all
        go zero enough same = absurd (omega (arith, enough, h))
        go (suc j) enough same = word_reached j w t l fs₁ e h g r enough same

    -- no word: what was read of the innermost condition is all of it
    word_stop : s.at ≤ toks.count → word_behind s.joined (ahead toks s.at) ≡ None → (r : Reached toks fs stack s base all)
        → resumed r.fuel r.frames (read r.condition (ahead toks s.at)) ≡ all
    word_stop h e r = go r.links r.enough_links r.same
      where
        go : (j : ℕ) → toks.count < s.at + j
            → resumed r.fuel r.frames (go_on (condition_in r.fuel) r.joint j r.condition (ahead toks s.at)) ≡ all
            → resumed r.fuel r.frames (read r.condition (ahead toks s.at)) ≡ all
        go zero enough same = absurd (omega (arith, enough, h))
        go (suc j) enough same =
            ap (resumed r.fuel r.frames)
            (sym (go_stop (condition_in r.fuel) j r.condition (ahead toks s.at) r.joint
            (ap (λ k. word_behind k (ahead toks s.at)) (sym r.word_of_law) ∙ e)))
            ∙ same

    pub word_end : s.at ≤ toks.count → word_behind s.joined (ahead toks s.at) ≡ None → s.depth ≡ 0 → Reached toks fs stack s base all
        → read (fields_from 0 s.out fs) (ahead toks s.at) ≡ written condition_fields base all
    word_end h e d r =
        outermost r.fuel r.frames (r.depth_of ∙ d) base r.condition (fields_from 0 s.out fs) (ahead toks s.at) r.fields
        ∙ ap (written condition_fields base) (word_stop h e r)

    pub unclosed : s.at ≤ toks.count → word_behind s.joined (ahead toks s.at) ≡ None → 0 < s.depth
        → opens mark_close (ahead toks s.at) ≡ false → Reached toks fs stack s base all → none ≡ all
    unclosed h e d o r = unclosed_all r.fuel r.frames (omega (arith, d, r.depth_of)) _ _ o ∙ word_stop h e r

    -- behind a closing bracket what was read is a member of the condition round it
    popped : (f : Frame) (gs : List Frame) (k p : ℕ) (q : Option Joining) (c : Condition) → s.at < toks.count → length (f ∷ gs) ≡ s.depth
        → opens mark_close (ahead toks s.at) ≡ true → q ≡ joint_of f.before → p ≡ length (beneath base gs)
        → Kept toks.count s.at base stack (f ∷ gs) → fields_from 0 s.out fs ≡ beneath base (f ∷ gs) ++ condition_fields c
        → s.start ≡ length (beneath base (f ∷ gs)) → s.top ≡ top_of c → s.last ≡ length (beneath base (f ∷ gs)) + last_of c
        → toks.count ≤ s.at + 1 + k → resumed k (f ∷ gs) (read c (ahead toks s.at)) ≡ all
        → Reached toks fs stack
        (record { at = s.at + 1; out = s.out; depth = s.depth - 1; joined = q; start = p; top = top_by q s; last = last_by q s }) base all
    unfolding Kept resumed beneath next pick
    popped f gs k p q c h size o word start kept fields start_of top_of_law last_of_law enough same =
        let b = f.before in
        let under = beneath base gs in
        let place = length (under ++ fields_before b) in
        record {
          frames = gs;
          fuel = suc k;
          links = f.links;
          joint = joint_of b;
          condition = add b c;
          depth_of = omega (arith, size);
          kept = kept_later toks.count s.at (s.at + 1) base stack gs (omega arith) kept.1;
          fields =
              fields ∙ append_assoc under (fields_before b) (condition_fields c) ∙ ap (λ l. under ++ l) (sym (add_fields b c));
          start_of = start;
          word_of_law = word;
          top_of_law = ap (λ i. top_by i s) word ∙ top_by_law s place start_of (joint_of b) c top_of_law ∙ sym (add_top b c);
          last_of_law =
              let last : last_by q s ≡ place + last_place (joint_of b) c =
              ap (λ i. last_by i s) word ∙ last_by_law s place start_of (joint_of b) c top_of_law last_of_law in
              let parts : place ≡ length under + length (fields_before b) = length-append under (fields_before b) in
              omega (arith, last, parts, add_last b c);
          enough = omega (arith, enough);
          enough_links = omega (arith, kept.0.enough);
          same = rw (ahead_behind toks s.at h) (rw o at same);
        }

    pub closed : (w : ℕ) → s.at < toks.count → word_behind s.joined (ahead toks s.at) ≡ None → 0 < s.depth
        → opens mark_close (ahead toks s.at) ≡ true → get_or stack (s.depth - 1) 0 ≡ w
        → Reached toks fs stack s base all
        → Reached toks fs stack (outward_from s w) base all
    unfolding Kept
    closed w h e d o held r = go r.frames r.depth_of r.kept r.fields r.start_of r.last_of_law (word_stop (omega (arith, h)) e r)
      where
        go : (gs : List Frame) → length gs ≡ s.depth → Kept toks.count s.at base stack gs
            → fields_from 0 s.out fs ≡ beneath base gs ++ condition_fields r.condition
            → s.start ≡ length (beneath base gs) → s.last ≡ length (beneath base gs) + last_of r.condition
            → resumed r.fuel gs (read r.condition (ahead toks s.at)) ≡ all
            → Reached toks fs stack (outward_from s w) base all
        go [] size kept fields start last same = absurd (omega (arith, size, d))
        go (f ∷ gs) size kept fields start last same =
            let place : s.depth - 1 ≡ length gs = omega (arith, size) in
            let word = sym held ∙ ap (λ i. get_or stack i 0) place ∙ kept.0.word in
            let small = code_few (joint_of f.before) in
            popped f gs r.fuel (w / 4) (joining_of (w % 4)) r.condition h size o
            (ap joining_of (ap (λ i. i % 4) word ∙ joined_again (length (beneath base gs)) (code (joint_of f.before)) small) ∙ joining_again (joint_of f.before))
            (ap (λ i. i / 4) word ∙ start_again (length (beneath base gs)) (code (joint_of f.before)) small)
            kept fields start r.top_of_law last r.enough same

    -- ---- places and words

    pub reached_start : Reached toks fs stack s base all → s.start ≤ s.out
    reached_start r =
        let size = sym (fields_length 0 s.out fs) ∙ ap length r.fields ∙ length-append (beneath base r.frames) (condition_fields r.condition) in
        omega (arith, size, r.start_of)

    pub reached_last : Reached toks fs stack s base all → s.last ≤ s.out
    reached_last r =
        let size = sym (fields_length 0 s.out fs) ∙ ap length r.fields ∙ length-append (beneath base r.frames) (condition_fields r.condition) in
        omega (arith, size, r.last_of_law, last_within r.condition)

-- the brackets before a member, from reading s on
pub record Opening (toks : Tokens) (stack₀ : List ℕ) (s : Reading) (stack : List ℕ) (t : Reading) : Type 0 where
  pub on : s.at ≤ t.at
  pub inside : t.at ≤ toks.count
  pub written : t.out ≡ s.out
  pub few : t.depth + s.at ≡ t.at + s.depth
  pub begins : t.start ≤ t.out
  pub deep : length stack ≡ length stack₀
  pub to_come : (fs : List ℕ) (base : List Field) (all : Read Condition) → Wanted toks fs stack₀ s base all → Wanted toks fs stack t base all
