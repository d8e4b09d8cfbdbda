-- Brackets on a stack: what is to come of an expression, with the expressions round it, while its tokens are read.
use Prim.Native.Nat.{ℕ, zero, suc, ◌+◌, ◌-◌, ◌<◌, ◌≤◌}
use mathlib.Core.Path.{◌≡◌, refl, sym, ap, ap₂, ◌∙◌}
use mathlib.Core.Bool.{Bool, true, false}
use mathlib.Core.List.{List, [], ◌∷◌, ◌++◌}
use native.Mathlib.Omega.{arith}
use lib.ListN.{length, get_or, set}
use lib.Seq.{get_or-set_same, get_or-set_other}
use Rattle.std.specs.Prelude.{Some, None}
use Rattle.base.specs.Choice.{pick}
use Rattle.sheet.specs.declared.Operator.{Operator}
use Rattle.sheet.specs.declared.Field.{Field}
use Rattle.sheet.specs.declared.Field.TheVariants.{Binary as BinaryField}
use Rattle.sheet.specs.Sheet.{Expression}
use Rattle.sheet.specs.Fields.{expression_fields}
use Rattle.sheet_field.specs.Memory.{fields_from}
use Rattle.sheet_field.proofs.Stored.{fields_length}
use Rattle.source.specs.Limits.{most_cells}
use Rattle.source.specs.declared.Token.{Token}
use Rattle.source.specs.Tokens.{mark_close}
use Rattle.source.specs.Grammar.{Read, read, none, next, past, opens, behind_first, operand_by, chain_by, expression_in, expression}
use Rattle.source.proofs.Fuel.{enough_fuel}
use Rattle.grammar_look.specs.declared.Operand.TheVariants.{Plain, Open}
use Rattle.grammar_look.specs.declared.Tokens.{Tokens}
use Rattle.grammar_look.specs.Internal.{ahead, first_operand, first_link}
use Rattle.grammar_look.proofs.Places.{ahead_length, ahead_behind}
use Rattle.grammar_output.specs.declared.Places.{Places}
use Rattle.grammar_output.specs.Internal.{written, insert_at, Small, places_word, HeldBy, place_for, places_after}
use Rattle.grammar_lead.specs.declared.Opened.{Opened}
use Rattle.grammar_lead.specs.Internal.{OpenedAs}
use Rattle.grammar_operand.specs.declared.Reading.{Reading}
use Rattle.grammar_operand.specs.Internal.{bracketed_by, links_pass, operand_pass, WithinPlaces}
use Rattle.grammar_operand.specs.Internal.{Frame, resumed, Kept, begun_at, Reached}
use Rattle.grammar_operand.proofs.Operands.{plain_operand, open_operand, no_operand}
use Rattle.grammar_operand.proofs.Links.{links_stop, links_more, found_then, missing_then}
use Rattle.grammar_operand.proofs.Linking.{chain_agrees}

-- ---- what is to come of the expressions round a bracket

resumed_none : (k : ℕ) (fs : List Frame) → resumed k fs none ≡ none
unfolding resumed next
resumed_none k [] = refl
resumed_none k (f ∷ fs) = resumed_none (suc k) fs

-- an expression in brackets: what is read of it, the closing bracket, and what follows it
module _ (inner : List Token → Read Expression) (j : ℕ) (p : Places) (fs : List Field) where
  closing : (e : Expression) (rest : List Token) (b : Bool)
      → pick b (links_pass inner j p (fs ++ expression_fields e) rest) none
      ≡ next (pick b (read e rest) none) (λ d others. links_pass inner j p (fs ++ expression_fields d) others)
  unfolding pick next
  closing e rest true = refl
  closing e rest false = refl

  inside_then : (y : Read Expression)
      → next (written expression_fields fs y) (λ gs rest. past mark_close rest (λ l. links_pass inner j p gs l))
      ≡ next (next y (λ e rest. past mark_close rest (λ l. read e l))) (λ e rest. links_pass inner j p (fs ++ expression_fields e) rest)
  unfolding written next
  inside_then none = refl
  inside_then (read e rest) = closing e (behind_first rest) (opens mark_close rest)

-- ---- frames in memory

within_later : (b c : ℕ) (p : Places) → b ≤ c → WithinPlaces b p → WithinPlaces c p
within_later b c p h w =
    record {
      low_within = omega (arith, h, w.low_within);
      middle_within = omega (arith, h, w.middle_within);
      high_within = omega (arith, h, w.high_within);
    }

-- further on they are still kept
kept_later : (n a b a₁ b₁ : ℕ) (ws : List ℕ) (fs : List Frame) → a ≤ a₁ → b ≤ b₁ → Kept n a b ws fs → Kept n a₁ b₁ ws fs
unfolding Kept
kept_later n a b a₁ b₁ ws [] h g k = tt
kept_later n a b a₁ b₁ ws (f ∷ fs) h g k = (
  record {
    word = k.0.word;
    small = k.0.small;
    within = within_later b b₁ f.places g k.0.within;
    enough = omega (arith, h, k.0.enough);
  },
  kept_later n a b a₁ b₁ ws fs h g k.1,
)

-- and so they are where a word is put behind them
kept_set : (n a b i w : ℕ) (ws : List ℕ) (fs : List Frame) → length fs ≤ i → Kept n a b ws fs → Kept n a b (set ws i w) fs
unfolding Kept
kept_set n a b i w ws [] h k = tt
kept_set n a b i w ws (f ∷ fs) h k = (
  record {
    word = get_or-set_other ws i (length fs) w 0 (omega (arith, h)) ∙ k.0.word;
    small = k.0.small;
    within = k.0.within;
    enough = k.0.enough;
  },
  kept_set n a b i w ws fs (omega (arith, h)) k.1,
)

-- ---- closing

outermost : (k : ℕ) (gs : List Frame) → length gs ≡ 0 → (r : Read (List Field)) → r ≡ resumed k gs r
unfolding resumed
outermost k [] e r = refl
outermost k (g ∷ gs) e r = absurd (omega (arith, e))

unclosed_all : (k : ℕ) (gs : List Frame) → 0 < length gs → (fs : List Field) (ts : List Token) → opens mark_close ts ≡ false
    → none ≡ resumed k gs (read fs ts)
unfolding resumed next pick
unclosed_all k [] h fs ts o = absurd (omega (arith, h))
unclosed_all k (g ∷ gs) h fs ts o = rw o (sym (resumed_none (suc k) gs))

-- behind a closing bracket the frame before is the innermost again
popped : (toks : Tokens) (at out depth : ℕ) (fs stack : List ℕ) (q : Places) (g : Frame) (gs : List Frame) (k : ℕ) (all : Read (List Field))
    → at < toks.count → length (g ∷ gs) ≡ depth → opens mark_close (ahead toks at) ≡ true → HeldBy (get_or stack (depth - 1) 0) q
    → Kept toks.count at out stack (g ∷ gs) → toks.count ≤ at + k
    → resumed k (g ∷ gs) (read (fields_from 0 out fs) (ahead toks at)) ≡ all
    → Reached links_pass toks fs stack (record { at = at + 1; out = out; depth = depth - 1; places = q }) all
unfolding Kept resumed next pick
popped toks at out depth fs stack q g gs k all h size o held kept enough same =
    let last : depth - 1 ≡ length gs = omega (arith, size) in
    let places : q ≡ g.places = held g.places kept.0.small (ap (λ i. get_or stack i 0) last ∙ kept.0.word) in
    record {
      frames = gs;
      fuel = suc k;
      links = g.links;
      depth_of = sym last;
      kept = kept_later toks.count at out (at + 1) out stack gs (omega arith) (omega arith) kept.1;
      within = rw places kept.0.within;
      enough = omega (arith, enough);
      enough_links = omega (arith, kept.0.enough);
      same =
          rw (places, ahead_behind toks at h)
          (rw o at same);
    }

-- ---- from state to state

module _ (toks : Tokens) where
  -- an expression begins
  begins : (k at out : ℕ) (fs fs₁ : List ℕ) (o : Opened) → OpenedAs toks at out fs o fs₁
      → operand_pass (expression_in k) (suc k) (record { low = out; middle = o.upper; high = o.upper })
      (fields_from 0 o.out fs₁) (ahead toks o.at)
      ≡ written expression_fields (fields_from 0 out fs) (expression_in (suc k) (ahead toks at))
  unfolding expression_in
  begins k at out fs fs₁ o opened =
      ap₂ (λ p g. operand_pass (expression_in k) (suc k) p g (ahead toks o.at))
      (rw (opened.upper, fields_length 0 out fs) refl) opened.fields
      ∙ chain_agrees (expression_in k) (suc k) opened.lead (fields_from 0 out fs) (ahead toks o.at)
      ∙ ap (λ t. written expression_fields (fields_from 0 out fs) (chain_by (expression_in k) (suc k) t)) (sym opened.tokens)

  starts : (at out : ℕ) (fs fs₁ stack : List ℕ) (o : Opened) → at ≤ toks.count → OpenedAs toks at out fs o fs₁
      → Reached operand_pass toks fs₁ stack (begun_at out o 0) (written expression_fields (fields_from 0 out fs) (expression (ahead toks at)))
  unfolding resumed Kept
  starts at out fs fs₁ stack o h opened =
      record {
        frames = [];
        fuel = length (ahead toks at);
        links = suc (length (ahead toks at));
        depth_of = refl;
        kept = tt;
        within = record { low_within = opened.wider; middle_within = opened.upper_within; high_within = opened.upper_within };
        enough = omega (arith, ahead_length toks at, opened.on);
        enough_links = omega (arith, ahead_length toks at, opened.on);
        same =
            begins (length (ahead toks at)) at out fs fs₁ o opened
            ∙ ap (written expression_fields (fields_from 0 out fs)) (enough_fuel (suc (length (ahead toks at))) (ahead toks at) (omega arith));
      }

  pub starts_at : (at out : ℕ) (fs fs₁ stack : List ℕ) (o : Opened) (s : Reading) → s ≡ begun_at out o 0 → at ≤ toks.count
      → OpenedAs toks at out fs o fs₁
      → Reached operand_pass toks fs₁ stack s (written expression_fields (fields_from 0 out fs) (expression (ahead toks at)))
  starts_at at out fs fs₁ stack o s e h opened = rw e (starts at out fs fs₁ stack o h opened)

  module _ (fs stack : List ℕ) (s : Reading) (all : Read (List Field)) where
    -- an operand is wanted
    pub operand_plain : (f : Field) (fs₁ : List ℕ) → s.at < toks.count → first_operand (ahead toks s.at) ≡ Some (Plain f)
        → fields_from 0 (s.out + 1) fs₁ ≡ fields_from 0 s.out fs ++ (f ∷ [])
        → Reached operand_pass toks fs stack s all
        → Reached links_pass toks fs₁ stack (record { at = s.at + 1; out = s.out + 1; depth = s.depth; places = s.places }) all
    operand_plain f fs₁ h e g r =
        record {
          frames = r.frames;
          fuel = r.fuel;
          links = r.links;
          depth_of = r.depth_of;
          kept = kept_later toks.count s.at s.out (s.at + 1) (s.out + 1) stack r.frames (omega arith) (omega arith) r.kept;
          within = within_later s.out (s.out + 1) s.places (omega arith) r.within;
          enough = omega (arith, r.enough);
          enough_links = omega (arith, r.enough_links);
          same =
              ap (resumed r.fuel r.frames)
              (found_then (expression_in r.fuel) s.places r.links (fields_from 0 s.out fs) _ _
              (operand_by (expression_in r.fuel) (ahead toks s.at))
              (rw (g, ahead_behind toks s.at h) (plain_operand (expression_in r.fuel) (ahead toks s.at) (fields_from 0 s.out fs) f e)))
              ∙ r.same;
        }

    pub operand_none : first_operand (ahead toks s.at) ≡ None → Reached operand_pass toks fs stack s all → none ≡ all
    operand_none e r =
        sym (resumed_none r.fuel r.frames)
        ∙ ap (resumed r.fuel r.frames)
        (missing_then (expression_in r.fuel) s.places r.links (fields_from 0 s.out fs)
        (operand_by (expression_in r.fuel) (ahead toks s.at))
        (no_operand (expression_in r.fuel) (ahead toks s.at) (fields_from 0 s.out fs) e))
        ∙ r.same

    -- a bracket: the frame of the expression round it goes on the stack
    open_reached : (k : ℕ) (fs₁ : List ℕ) (o : Opened) → s.at < toks.count → first_operand (ahead toks s.at) ≡ Some Open
        → s.depth < length stack → Small s.places → OpenedAs toks (s.at + 1) s.out fs o fs₁
        → (r : Reached operand_pass toks fs stack s all) → toks.count ≤ s.at + suc k
        → resumed (suc k) r.frames (operand_pass (expression_in (suc k)) r.links s.places (fields_from 0 s.out fs) (ahead toks s.at))
        ≡ all
        → Reached operand_pass toks fs₁ (set stack s.depth (places_word s.places)) (begun_at s.out o (s.depth + 1)) all
    unfolding resumed Kept
    open_reached k fs₁ o h e room small opened r enough same =
        record {
          frames = record { places = s.places; links = r.links } ∷ r.frames;
          fuel = k;
          links = suc k;
          depth_of = omega (arith, r.depth_of);
          kept = (
            record {
              word =
                  ap (λ i. get_or (set stack s.depth (places_word s.places)) i 0) r.depth_of
                  ∙ get_or-set_same stack s.depth (places_word s.places) 0 room;
              small = small;
              within = within_later s.out o.out s.places opened.wider r.within;
              enough = omega (arith, r.enough_links, opened.on);
            },
            kept_later toks.count s.at s.out o.at o.out _ r.frames (omega (arith, opened.on)) opened.wider
                (kept_set toks.count s.at s.out s.depth (places_word s.places) stack r.frames (omega (arith, r.depth_of)) r.kept),
          );
          within = record { low_within = opened.wider; middle_within = opened.upper_within; high_within = opened.upper_within };
          enough = omega (arith, enough, opened.on);
          enough_links = omega (arith, enough, opened.on);
          same =
              ap (λ x. resumed (suc k) r.frames
              (next x (λ gs rest. past mark_close rest (λ l. links_pass (expression_in (suc k)) r.links s.places gs l))))
              (begins k (s.at + 1) s.out fs fs₁ o opened)
              ∙ ap (resumed (suc k) r.frames)
              (inside_then (expression_in (suc k)) r.links s.places (fields_from 0 s.out fs)
              (expression_in (suc k) (ahead toks (s.at + 1)))
              ∙ ap (λ x. next x (λ e rest. links_pass (expression_in (suc k)) r.links s.places (fields_from 0 s.out fs ++ expression_fields e) rest))
              (ap (bracketed_by (expression_in (suc k))) (ahead_behind toks s.at h)
              ∙ sym (open_operand (expression_in (suc k)) (ahead toks s.at) e)))
              ∙ same;
        }

    pub operand_open : (fs₁ : List ℕ) (o : Opened) → s.at < toks.count → first_operand (ahead toks s.at) ≡ Some Open
        → s.depth < length stack → Small s.places → OpenedAs toks (s.at + 1) s.out fs o fs₁
        → Reached operand_pass toks fs stack s all
        → Reached operand_pass toks fs₁ (set stack s.depth (places_word s.places)) (begun_at s.out o (s.depth + 1)) all
    operand_open fs₁ o h e room small opened r = go r.fuel r.enough r.same
      where
        go : (k : ℕ) → toks.count ≤ s.at + k
            → resumed k r.frames (operand_pass (expression_in k) r.links s.places (fields_from 0 s.out fs) (ahead toks s.at)) ≡ all
            → Reached operand_pass toks fs₁ (set stack s.depth (places_word s.places)) (begun_at s.out o (s.depth + 1)) all
        go zero enough same = absurd (omega (arith, enough, h))
        go (suc k) enough same = open_reached k fs₁ o h e room small opened r enough same

    -- an operator
    pub link_turn : (o : Operator) (fs₁ : List ℕ) → s.at < toks.count → first_link (ahead toks s.at) ≡ Some o
        → fields_from 0 (s.out + 1) fs₁ ≡ insert_at (place_for s.places o) (BinaryField o) (fields_from 0 s.out fs)
        → WithinPlaces (s.out + 1) (places_after s.places o (s.out + 1))
        → Reached links_pass toks fs stack s all
        → Reached operand_pass toks fs₁ stack
        (record { at = s.at + 1; out = s.out + 1; depth = s.depth; places = places_after s.places o (s.out + 1) }) all
    link_turn o fs₁ h e g w r = go r.links r.enough_links r.same
      where
        go : (j : ℕ) → toks.count < s.at + j
            → resumed r.fuel r.frames (links_pass (expression_in r.fuel) j s.places (fields_from 0 s.out fs) (ahead toks s.at)) ≡ all
            → Reached operand_pass toks fs₁ stack
            (record { at = s.at + 1; out = s.out + 1; depth = s.depth; places = places_after s.places o (s.out + 1) }) all
        go zero enough same = absurd (omega (arith, enough, h))
        go (suc j) enough same =
            record {
              frames = r.frames;
              fuel = r.fuel;
              links = j;
              depth_of = r.depth_of;
              kept = kept_later toks.count s.at s.out (s.at + 1) (s.out + 1) stack r.frames (omega arith) (omega arith) r.kept;
              within = w;
              enough = omega (arith, r.enough);
              enough_links = omega (arith, enough);
              same =
                  ap (resumed r.fuel r.frames)
                  (rw (g, ahead_behind toks s.at h)
                  (ap (λ q. operand_pass (expression_in r.fuel) j (places_after s.places o (q + 1))
                  (insert_at (place_for s.places o) (BinaryField o) (fields_from 0 s.out fs)) (behind_first (ahead toks s.at)))
                  (sym (fields_length 0 s.out fs)))
                  ∙ sym (links_more (expression_in r.fuel) s.places (fields_from 0 s.out fs) j o (ahead toks s.at) e))
                  ∙ same;
            }

    -- no operator: what was read of the innermost expression is all of it
    link_stop : s.at ≤ toks.count → first_link (ahead toks s.at) ≡ None → (r : Reached links_pass toks fs stack s all)
        → resumed r.fuel r.frames (read (fields_from 0 s.out fs) (ahead toks s.at)) ≡ all
    link_stop h e r = go r.links r.enough_links r.same
      where
        go : (j : ℕ) → toks.count < s.at + j
            → resumed r.fuel r.frames (links_pass (expression_in r.fuel) j s.places (fields_from 0 s.out fs) (ahead toks s.at)) ≡ all
            → resumed r.fuel r.frames (read (fields_from 0 s.out fs) (ahead toks s.at)) ≡ all
        go zero enough same = absurd (omega (arith, enough, h))
        go (suc j) enough same =
            ap (resumed r.fuel r.frames) (links_stop (expression_in r.fuel) s.places (fields_from 0 s.out fs) j (ahead toks s.at) e)
            ∙ same

    pub link_end : s.at ≤ toks.count → first_link (ahead toks s.at) ≡ None → s.depth ≡ 0 → Reached links_pass toks fs stack s all
        → read (fields_from 0 s.out fs) (ahead toks s.at) ≡ all
    link_end h e d r = outermost r.fuel r.frames (r.depth_of ∙ d) _ ∙ link_stop h e r

    pub link_unclosed : s.at ≤ toks.count → first_link (ahead toks s.at) ≡ None → 0 < s.depth
        → opens mark_close (ahead toks s.at) ≡ false → Reached links_pass toks fs stack s all → none ≡ all
    link_unclosed h e d o r = unclosed_all r.fuel r.frames (omega (arith, d, r.depth_of)) _ _ o ∙ link_stop h e r

    pub link_closed : (q : Places) → s.at < toks.count → first_link (ahead toks s.at) ≡ None → 0 < s.depth
        → opens mark_close (ahead toks s.at) ≡ true → HeldBy (get_or stack (s.depth - 1) 0) q
        → Reached links_pass toks fs stack s all
        → Reached links_pass toks fs stack (record { at = s.at + 1; out = s.out; depth = s.depth - 1; places = q }) all
    link_closed q h e d o held r = go r.frames r.depth_of r.kept (link_stop (omega (arith, h)) e r)
      where
        go : (gs : List Frame) → length gs ≡ s.depth → Kept toks.count s.at s.out stack gs
            → resumed r.fuel gs (read (fields_from 0 s.out fs) (ahead toks s.at)) ≡ all
            → Reached links_pass toks fs stack (record { at = s.at + 1; out = s.out; depth = s.depth - 1; places = q }) all
        go [] size kept same = absurd (omega (arith, size, d))
        go (g ∷ gs) size kept same =
            popped toks s.at s.out s.depth fs stack q g gs r.fuel all h size o held kept r.enough same

-- the brackets before an operand, from reading s on
pub record Opening (toks : Tokens) (fs₀ stack₀ : List ℕ) (s : Reading) (fs stack : List ℕ) (t : Reading) : Type 0 where
  pub on : s.at ≤ t.at
  pub inside : t.at ≤ toks.count
  pub wider : s.out ≤ t.out
  pub few : t.depth + t.out + s.at ≤ t.at + s.depth + s.out
  pub within : WithinPlaces t.out t.places
  pub long : length fs ≡ length fs₀
  pub deep : length stack ≡ length stack₀
  pub to_come : (all : Read (List Field)) → Reached operand_pass toks fs₀ stack₀ s all → Reached operand_pass toks fs stack t all

pub small_places : (b : ℕ) (p : Places) → b < most_cells → WithinPlaces b p → Small p
small_places b p h w =
    record {
      low_small = omega (arith, h, w.low_within);
      middle_small = omega (arith, h, w.middle_within);
      high_small = omega (arith, h, w.high_within);
    }
