-- The statements of a source, one after the other.
use Prim.Native.Nat.{ℕ, suc, ◌+◌, ◌≤◌, ◌<◌}
use mathlib.Core.Path.{◌≡◌, refl, sym, ap, ◌∙◌}
use mathlib.Core.List.{List, [], ◌∷◌}
use native.Mathlib.Omega.{arith}
use native.Mathlib.Numerals.{add-one}
use lib.ListN.{length, drop, length-take}
use Rattle.base.specs.Choice.{pick}
use Rattle.base.specs.Places.{each}
use Rattle.base.proofs.Cases.{by_test}
use Rattle.sheet.specs.Sheet.{count, Sheet, variables, instructions}
use Rattle.sheet.specs.Memory.{part_fields}
use Rattle.sheet.specs.Translation.{size}
use Rattle.sheet_field.specs.Memory.{fields_from}
use Rattle.source.specs.declared.Mode.TheVariants.{Plain}
use Rattle.source.specs.Cells.{Statements, ended, cut, ◌then◌, statements_from, statements}
use Rattle.source.specs.Program.{nothing_read, count_outside, orders_outside, Outcome, statement}
use Rattle.source.specs.Source.{Answer, accepted, on_outcome, program, NotAllowed, is_allowed, not_allowed, offset, all_allowed, on_allowed, answer}
use Rattle.source.specs.Memory.{held, letters_in}
use Rattle.source.specs.Limits.{most_bytes}
use Rattle.source.specs.declared.Statement.{Statement}
use Rattle.source.proofs.Letters.{statement_letters}
use Rattle.name_index.proofs.Addition.{none_held}
use Rattle.std.proofs.Common.{Option, Some, None, Result, Ok, Err}
use Rattle.source.specs.declared.Refusal.{Refusal}
use Rattle.source.specs.Refusals.{refusal_number}
use Rattle.cells.specs.declared.Next.{Next}
use Rattle.cells.specs.Answers.{offset_of, unrolled, Moved, Within}
use Rattle.fields.specs.Memory.{field_jumps, statement_numbers}
use Rattle.groups.specs.Memory.{GroupsHeld}
use Rattle.front_end_forms.specs.declared.Progress.{Progress}
use Rattle.front_end_forms.specs.declared.Step.{Step}
use Rattle.front_end_forms.specs.declared.Step.TheVariants.{Further, Given}
use Rattle.front_end_forms.specs.declared.Failure.{Failure}
use Rattle.front_end_forms.specs.declared.Failure.TheVariants.{Refused, Unfit}
use Rattle.front_end_forms.specs.Memory.{NameTable, Holds, Held, no_progress, outside_fields}
use Rattle.front_end_forms.specs.Answers.{Comes, Steps}
use Rattle.front_end_forms.proofs.Stages.{says}
use Rattle.front_end.specs.declared.Sheet.{Sheet as SheetIs}
use Rattle.front_end.specs.Answers.{told, answered, fields_of_sheet, refused_at}
use Rattle.front_end.specs.Internal.{Rooms, Going}
use borrow.Author.Tests.{lt-ltb, le-ltb}

-- no more cells than it says
held_short : (s : Statement) → length (held s) ≤ s.length
held_short s = let l = length-take s.length s.cells in omega (arith, l)

-- ---- nothing was read

pub starting : {source : List ℕ} {ns : NameTable} {ls gs fs : List ℕ} → Rooms source ns ls gs fs → Going source 0 0 no_progress ns ls gs fs
unfolding outside_fields count_outside orders_outside part_fields count size field_jumps GroupsHeld fields_from each letters_in
starting room =
    record {
      so_far = nothing_read;
      holds =
          record {
            staged = refl;
            its_names = record { named = none_held room.room_for_letters room.room_for_rows; few_names = omega arith };
            its_labels = record { labelled = refl; so_far = λ i h small. absurd (omega (arith, h)); few_labels = omega arith; room_for_labels = room.room_for_labels };
            its_groups = record { grouped = tt; opened = refl; few_levels = omega arith; room_for_groups = room.room_for_groups };
            its_fields =
                record {
                  fielded = refl;
                  jumped = refl;
                  counted = refl;
                  ordered = λ v. refl;
                  few_orders = omega arith;
                  room_for_fields = room.room_for_fields;
                };
          };
      same = refl;
      inside = omega arith;
      fewer = omega arith;
      few_letters = omega arith;
    }

-- the sheet that is held
abbrev sheet_in : Progress → SheetIs
sheet_in p = record { variables = p.names.count; instructions = p.instructions; fields = p.fields }

held_told : {p : Progress} {fs : List ℕ} {s : Sheet} → Held p fs s → told (Ok (sheet_in p)) fs ≡ answered (accepted s)
held_told {p} {fs} {s} h =
    ap (λ v. fields_of_sheet v p.instructions (fields_from 0 p.fields fs)) h.variables_too
    ∙ ap (λ n. fields_of_sheet (variables s) n (fields_from 0 p.fields fs)) h.instructions_too
    ∙ ap (fields_of_sheet (variables s) (count (instructions s))) h.fields_too

-- ---- one statement

module _ {source : List ℕ} {ns : NameTable} {ls gs fs : List ℕ} {at k : ℕ} {p : Progress} (g : Going source at k p ns ls gs fs) where
  left : Statements
  left = statements_from Plain [] (drop at source)

  whole : {r : Answer} → program g.so_far k (statements_from Plain [] (drop at source)) ≡ r → answered r ≡ answered (program nothing_read 0 (statements source))
  whole e = ap answered (sym e ∙ g.same)

  module _ (r : Result (Option Next) Refusal) (e : unrolled source r ≡ statements_from Plain [] (drop at source)) where
    pub none_left : r ≡ Ok None → refused_at 10 k ≡ answered (program nothing_read 0 (statements source))
    unfolding program
    none_left z = let t : ended ≡ statements_from Plain [] (drop at source) = rw z at e in whole (ap (program g.so_far k) (sym t))

    pub next_cut : (m : Refusal) → r ≡ Err m → refused_at (refusal_number m) (k + 1) ≡ answered (program nothing_read 0 (statements source))
    unfolding program
    next_cut m z =
        let t : cut (refusal_number m) ≡ statements_from Plain [] (drop at source) = rw z at e in
        ap (refused_at (refusal_number m)) (add-one k) ∙ whole (ap (program g.so_far k) (sym t))

    module _ (n : Next) (z : r ≡ Ok (Some n)) where
      one_more_law : (held n.statement) then statements_from Plain [] (drop n.behind source) ≡ statements_from Plain [] (drop at source)
      one_more_law = rw z at e

      goes_on_law : {o : Outcome} → statement g.so_far (k + 1) (held n.statement) ≡ o
          → program g.so_far k (statements_from Plain [] (drop at source)) ≡ on_outcome o (λ q. program q (suc k) (statements_from Plain [] (drop n.behind source)))
      unfolding program
      goes_on_law {o} s =
          ap (program g.so_far k) (sym one_more_law)
          ∙ ap
          (λ r. on_outcome r (λ q. program q (suc k) (statements_from Plain [] (drop n.behind source))))
          (ap (λ j. statement g.so_far j (held n.statement)) (sym (add-one k)) ∙ s)

      module _ {ns' : NameTable} {ls' gs' fs' : List ℕ} {step : Result Step Failure} (one : Comes (Steps (λ o m. Holds o m ns' ls' gs' fs') (Held p fs')) step (statement g.so_far (k + 1) (held n.statement))) where
        pub not_read : (f : Failure) → step ≡ Err f → told (Err f) fs' ≡ answered (program nothing_read 0 (statements source))
        unfolding on_outcome
        not_read (Refused m j) s = let t = says (rw s at one) in whole (goes_on_law t)
        not_read Unfit s = absurd (says (rw s at one))

        pub is_given : step ≡ Ok Given → told (Ok (sheet_in p)) fs' ≡ answered (program nothing_read 0 (statements source))
        unfolding on_outcome
        is_given s =
            let t = says (rw s at one) in
            held_told t.kept ∙ whole (goes_on_law t.same)

        pub is_further : (m : Progress) → step ≡ Ok (Further m) → Within source at n.behind n.statement.length → Going source n.behind (k + 1) m ns' ls' gs' fs'
        unfolding on_outcome
        is_further m s w =
            let t = says (rw s at one) in
            let forward = w.forward in
            let letters_before = g.few_letters in
            let letters_then = statement_letters g.so_far t.program (k + 1) (held n.statement) t.same in
            let few_cells = held_short n.statement in
            let short = w.short in
            record {
              so_far = t.program;
              holds = t.kept;
              same = ap (λ j. program t.program j (statements_from Plain [] (drop n.behind source))) (add-one k) ∙ sym (goes_on_law t.same) ∙ g.same;
              inside = w.inside;
              fewer = let f = g.fewer in omega (arith, f, forward);
              few_letters = omega (arith, letters_before, letters_then, few_cells, short);
            }

-- ---- where the next statement lies

pub moved_to : {s : List ℕ} {at : ℕ} (r : Result (Option Next) Refusal) (n : Next) → Moved s at r → r ≡ Ok (Some n) → Within s at n.behind n.statement.length
moved_to r n h e = rw e at h

-- fewer statements than bytes
pub few_statements : {source : List ℕ} {ns : NameTable} {ls gs fs : List ℕ} {at k : ℕ} {p : Progress} → Going source at k p ns ls gs fs → length source ≤ most_bytes → k + 1 < statement_numbers
few_statements g h = let a = g.fewer in let b = g.inside in omega (arith, a, b, h)

-- the letters of its names have room
pub letters_fit : {source : List ℕ} {ns : NameTable} {ls gs fs : List ℕ} {at k after cells : ℕ} {p : Progress} (g : Going source at k p ns ls gs fs)
    → Within source at after cells → length source ≤ most_bytes → letters_in g.so_far.names + cells ≤ most_bytes
letters_fit g w h =
    let a = g.few_letters in
    let b = w.short in
    let c = w.inside in
    omega (arith, a, b, c, h)

-- ---- before any statement

module _ (source : List ℕ) where
  pub too_long : most_bytes < length source → refused_at 1 0 ≡ answered (answer source)
  unfolding pick
  too_long h = rw (lt-ltb most_bytes (length source) h) refl

  module _ (short : length source ≤ most_bytes) (r : Option ℕ) (e : r ≡ offset_of (not_allowed 0 source)) where
    pub not_a_byte : (i : ℕ) → r ≡ Some i → refused_at 2 i ≡ answered (answer source)
    unfolding pick
    not_a_byte i z = rw (le-ltb most_bytes (length source) short) (by_offset (not_allowed 0 source) (sym z ∙ e))
      where
        by_offset : (a : NotAllowed) → Some i ≡ offset_of a → refused_at 2 i ≡ answered (on_allowed a source)
        by_offset (offset j) z = ap (refused_at 2) (let same : i ≡ j = cc in same)
        by_offset all_allowed z = absurd (cc)

    pub all_bytes : r ≡ None → answered (program nothing_read 0 (statements source)) ≡ answered (answer source)
    unfolding pick
    all_bytes z = rw (le-ltb most_bytes (length source) short) (by_offset (not_allowed 0 source) (sym z ∙ e))
      where
        by_offset : (a : NotAllowed) → None ≡ offset_of a → answered (program nothing_read 0 (statements source)) ≡ answered (on_allowed a source)
        by_offset (offset j) z = absurd (cc)
        by_offset all_allowed z = refl

-- the offset of a byte lies in the source
offset_inside : (bs : List ℕ) (j i : ℕ) → Some i ≡ offset_of (not_allowed j bs) → i < j + length bs
unfolding not_allowed pick
offset_inside [] j i e = absurd (cc)
offset_inside (b ∷ bs) j i e =
    by_test
    (is_allowed b)
    (λ t. let h = offset_inside bs (suc j) i (rw t at e) in omega (arith, h))
    (λ t. let z : i ≡ j = cc (rw t at e) in omega (arith, z))

pub small_offset : (source : List ℕ) (r : Option ℕ) (i : ℕ) → r ≡ offset_of (not_allowed 0 source) → r ≡ Some i → length source ≤ most_bytes → i < 4294967296
small_offset source r i e z h =
    let g = offset_inside source 0 i (sym z ∙ e) in
    omega (arith, g, h)
