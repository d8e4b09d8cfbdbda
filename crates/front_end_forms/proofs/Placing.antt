-- An instruction placed behind others: its limits, and what is held then.
use Prim.Native.Nat.{ℕ, suc, ◌+◌, ◌-◌, ◌≤◌, ◌<◌}
use mathlib.Core.Bool.{Bool, true, false}
use mathlib.Core.Path.{◌≡◌, refl, sym, ap, ap₂, ◌∙◌}
use mathlib.Core.List.{List, ◌∷◌, ◌++◌, map, map-append}
use native.Mathlib.Omega.{arith}
use native.Mathlib.Numerals.{add-one}
use borrow.Author.Tests.{lt-ltb, le-ltb, ltb-false}
use lib.Dec.{ltb}
use lib.ListN.{length, set, length-append, length-map, length-set}
use Rattle.base.specs.Choice.{pick}
use Rattle.base.proofs.Cases.{by_test, by_less}
use Rattle.order.specs.Limits.{most_temporaries, most_orders}
use Rattle.sheet.specs.declared.Field.{Field}
use Rattle.sheet.specs.Sheet.{Part, count}
use Rattle.sheet.specs.Condition.{most_comparisons}
use Rattle.sheet.specs.Translation.{size}
use Rattle.sheet.specs.Within.{most_levels}
use Rattle.sheet_field.specs.Memory.{fields_at, fields_from}
use Rattle.sheet_field.proofs.Stored.{fields_length}
use Rattle.translate_size.specs.declared.Size.{Size}
use Rattle.translate_size.specs.Answers.{SizeOf}
use Rattle.source.specs.Grammar.{Instruction, simple, if_then, if_else, if_start}
use Rattle.source.specs.Fields.{instruction_fields}
use Rattle.source.specs.Program.{Program, Outcome, refused, Group, first, count_outside, orders_outside, orders_so_far, orders_with_stop, next_number, jump, moved, arrived}
use Rattle.source.specs.Program.{jumps_in, all, is_label, level, temporaries_in, comparisons_in, placed, groups_of, list_of, placing}
use Rattle.source.specs.Program.{with_few_temporaries, with_few_comparisons, with_few_levels, with_few_orders}
use Rattle.labels.specs.Memory.{instruction_numbers}
use Rattle.labels.proofs.Finding.{labels_arrived, so_far_later}
use Rattle.groups.specs.Memory.{group_word}
use Rattle.groups.proofs.Held.{held_more}
use Rattle.std.proofs.Common.{Result, Ok, Err}
use Rattle.source.specs.declared.Refusal.TheVariants.{Limit as OverLimit}
use Rattle.fields_put.specs.declared.Unfit.{Unfit as NotPut}
use Rattle.fields.specs.Memory.{field_jumps, packed_field, unpacked, jump_in, statement_numbers}
use Rattle.fields_put.specs.Answers.{fields, put_in, put_of}
use Rattle.fields_put.proofs.Putting.{put_fit}
use Rattle.fields.proofs.Instructions.{jumps_fields, jumps_append, fields_again, jumps_again}
use Rattle.front_end_forms.specs.declared.Progress.{Progress}
use Rattle.front_end_forms.specs.declared.Stage.TheVariants.{Instructions}
use Rattle.front_end_forms.specs.declared.Failure.TheVariants.{Refused}
use Rattle.front_end_forms.specs.Memory.{NameTable, program_fields, HoldsLabels, HoldsGroups, HoldsFields, Holds}
use Rattle.front_end_forms.specs.Answers.{Comes, Goes, FewCounts, goes_on, IsInstruction}
use Rattle.front_end_forms.specs.Internal.{too_deep, Opens}
use Rattle.front_end_forms.proofs.Stages.{comes_refused, comes_further}
use Rattle.front_end_forms.proofs.Counting.{instruction_count, instruction_orders, sized, some_instruction, place_fields, place_count, place_orders, program_twice, program_some}

-- ---- what is counted is few

module _ {gs : List Group} {x : Part} {js : List _} {n many orders : ℕ} {ws : List ℕ} (h : HoldsFields gs x js n many orders ws) where
  -- how many fields there are
  pub fields_many : n ≡ length (program_fields gs x)
  fields_many = sym (fields_length 0 n ws) ∙ sym (length-map (fields_from 0 n ws) unpacked) ∙ ap length h.fielded

pub counts_few : {q : Program} {p : Progress} {ns : NameTable} {ls gs fs : List ℕ} → Holds q p ns ls gs fs → FewCounts p
counts_few {q} h =
    let all = h.its_fields in
    let orders_too = all.ordered 0 in
    record {
      few_instructions = omega (arith, all.counted, orders_too, all.few_orders, program_some 0 q.groups q.here);
      few_fields = omega (arith, fields_many all, orders_too, all.few_orders, program_twice 0 q.groups q.here);
      few_orders = all.few_orders;
      few_levels = h.its_groups.few_levels;
    }

-- ---- fields put behind those that are held

module _ {gs : List Group} {x : Part} {js : List _} {n many orders : ℕ} {ws : List ℕ} (h : HoldsFields gs x js n many orders ws)
    (r : Result ℕ NotPut) (after : List ℕ) (new : List Field) (told : put_in r after ≡ fields (fields_from 0 n ws ++ new)) where
  pub never_unfit : {A : Type 0} {u : NotPut} → r ≡ Err u → A
  never_unfit e = let z = rw e at told in absurd (cc)

  module _ (m : ℕ) (e : r ≡ Ok m) where
    now_held : fields_from 0 m after ≡ fields_from 0 n ws ++ new
    now_held = cc (rw e at told)

    pub fields_held : map unpacked (fields_from 0 m after) ≡ program_fields gs x ++ map unpacked new
    fields_held = ap (map unpacked) now_held ∙ map-append unpacked (fields_from 0 n ws) new ∙ ap (λ l. l ++ map unpacked new) h.fielded

    pub jumps_held : map jump_in (field_jumps (fields_from 0 m after)) ≡ js ++ map jump_in (field_jumps new)
    jumps_held =
        ap (λ l. map jump_in (field_jumps l)) now_held
        ∙ ap (map jump_in) (jumps_append (fields_from 0 n ws) new)
        ∙ map-append jump_in (field_jumps (fields_from 0 n ws)) (field_jumps new)
        ∙ ap (λ l. l ++ map jump_in (field_jumps new)) h.jumped

-- ---- how deep

pub deep_told : (i : Instruction) (gs : List Group) → too_deep (goes_on i) (instruction_count i) (length gs) ≡ ltb most_levels (level gs i)
unfolding pick
deep_told (simple u) gs = by_test (ltb (length gs) most_levels) (λ t. rw t refl) (λ t. rw t refl)
deep_told (if_then c u) gs = by_less (length gs) most_levels
    (λ l. rw (lt-ltb (length gs) most_levels l) (sym (le-ltb most_levels (suc (length gs)) (omega arith))))
    (λ l. rw (le-ltb (length gs) most_levels l) (sym (lt-ltb most_levels (suc (length gs)) (omega arith))))
deep_told (if_else c u w) gs = by_less (length gs) most_levels
    (λ l. rw (lt-ltb (length gs) most_levels l) (sym (le-ltb most_levels (suc (length gs)) (omega arith))))
    (λ l. rw (le-ltb (length gs) most_levels l) (sym (lt-ltb most_levels (suc (length gs)) (omega arith))))
deep_told (if_start c) gs = by_less (length gs) most_levels
    (λ l. rw (lt-ltb (length gs) most_levels l) (sym (le-ltb most_levels (suc (length gs)) (omega arith))))
    (λ l. rw (le-ltb (length gs) most_levels l) (sym (lt-ltb most_levels (suc (length gs)) (omega arith))))

-- ---- groups opened

module _ (k : ℕ) {gs : List Group} (x : Part) {many : ℕ} {ws : List ℕ} (h : HoldsGroups gs many ws) (began r : ℕ) (after : List ℕ) where
  pub groups_held : (i : Instruction) → began ≡ count_outside gs + count x + instruction_count i → too_deep (goes_on i) (instruction_count i) many ≡ false
      → Opens k began (goes_on i) many ws r after → HoldsGroups (groups_of (placed k gs x i)) r after
  groups_held (simple u) b d o = rw (o.0, o.1) h
  groups_held (if_then c u) b d o = rw (o.0, o.1) h
  groups_held (if_else c u w) b d o = rw (o.0, o.1) h
  groups_held (if_start c) b d o =
      let n = h.opened in
      let deep : suc (length gs) ≤ most_levels = ltb-false most_levels (suc (length gs)) (sym (deep_told (if_start c) gs) ∙ ap (too_deep true 1) (sym n) ∙ d) in
      record {
        grouped =
            held_more (first k x c) gs ws after (omega (arith, h.room_for_groups))
            (o.1 ∙ ap₂ (λ m b. set ws m (group_word k 0 b)) n (b ∙ outside))
            h.grouped;
        opened = o.0 ∙ ap (λ m. m + 1) n ∙ add-one (length gs);
        few_levels = omega (arith, o.0, n);
        room_for_groups = ap length o.1 ∙ length-set ws many (group_word k 0 began) ∙ h.room_for_groups;
      }
    where
      outside : count_outside gs + count x + 1 ≡ count_outside (first k x c ∷ gs)
      outside = unfold count_outside in omega arith

-- ---- an instruction

module _ {q : Program} {p : Progress} {ns : NameTable} {ls gs fs : List ℕ} (h : Holds q p ns ls gs fs) (k : ℕ) (i : Instruction) (own : List ℕ) (opens : Bool)
    (is : IsInstruction own opens i) (z : Size) (size_too : SizeOf own z) where
  abbrev v : ℕ
  v = length q.names

  abbrev rest : Outcome
  rest = with_few_levels k q.groups i (with_few_orders k (placing k i q))

  -- with the limits of temporaries and comparisons
  abbrev limited : Outcome
  limited = with_few_temporaries k i (with_few_comparisons k i rest)

  total : orders_so_far (placing k i q) ≡ p.orders + instruction_orders v i
  total = place_orders k q.groups q.here v i ∙ ap (λ n. n + instruction_orders v i) (sym (h.its_fields.ordered v))

  few_temporaries : z.temporaries ≤ most_temporaries → (o : Outcome) → with_few_temporaries k i o ≡ o
  unfolding pick
  few_temporaries few o =
      let s = sized own i z is.its_fields size_too v in
      let t : temporaries_in i ≤ most_temporaries = omega (arith, few, s.its_temporaries) in
      rw (le-ltb most_temporaries (temporaries_in i) t) refl

  few_both : z.temporaries ≤ most_temporaries → z.comparisons ≤ most_comparisons → limited ≡ rest
  unfolding pick
  few_both few compared =
      let s = sized own i z is.its_fields size_too v in
      let t : comparisons_in i ≤ most_comparisons = omega (arith, compared, s.its_comparisons) in
      few_temporaries few (with_few_comparisons k i rest) ∙ rw (le-ltb most_comparisons (comparisons_in i) t) refl

  over : with_few_orders k (placing k i q) ≡ refused 11 k → rest ≡ refused 11 k
  unfolding pick
  over e = by_test (ltb most_levels (level q.groups i)) (λ t. rw t refl) (λ t. rw t e)

  deep : too_deep opens z.instructions p.groups ≡ ltb most_levels (level q.groups i)
  deep =
      let s = sized own i z is.its_fields size_too v in
      rw (is.its_opening, s.its_instructions, h.its_groups.opened) (deep_told i q.groups)

  module _ {A : Type 0} {T : A → Outcome → Type 0} where
    pub over_temporaries : most_temporaries < z.temporaries → Comes T (Err (Refused OverLimit k)) limited
    unfolding pick
    over_temporaries g =
        let s = sized own i z is.its_fields size_too v in
        let t : most_temporaries < temporaries_in i = omega (arith, g, s.its_temporaries) in
        comes_refused OverLimit k (rw (lt-ltb most_temporaries (temporaries_in i) t) refl)

    pub over_comparisons : z.temporaries ≤ most_temporaries → most_comparisons < z.comparisons → Comes T (Err (Refused OverLimit k)) limited
    unfolding pick
    over_comparisons few g =
        let s = sized own i z is.its_fields size_too v in
        let t : most_comparisons < comparisons_in i = omega (arith, g, s.its_comparisons) in
        comes_refused OverLimit k
        (few_temporaries few (with_few_comparisons k i rest) ∙ rw (lt-ltb most_comparisons (comparisons_in i) t) refl)

    pub over_orders : z.temporaries ≤ most_temporaries → z.comparisons ≤ most_comparisons → most_orders - p.orders ≤ z.orders
        → Comes T (Err (Refused OverLimit k)) limited
    unfolding pick
    over_orders few compared g =
        let s = sized own i z is.its_fields size_too v in
        let u : most_orders < orders_with_stop (placing k i q) = omega (arith, g, s.its_orders, total, h.its_fields.few_orders) in
        comes_refused OverLimit k (few_both few compared ∙ over (rw (lt-ltb most_orders (orders_with_stop (placing k i q)) u) refl))

    pub over_levels : z.temporaries ≤ most_temporaries → z.comparisons ≤ most_comparisons → (t : Bool)
        → t ≡ too_deep opens z.instructions p.groups → t ≡ true → Comes T (Err (Refused OverLimit k)) limited
    unfolding pick
    over_levels few compared t known e = comes_refused OverLimit k (few_both few compared ∙ rw (sym deep ∙ sym known ∙ e) refl)

  -- the limits are kept
  module _ (good : all is_label (jumps_in i) ≡ true) (few_statements : k < statement_numbers) (few : z.temporaries ≤ most_temporaries)
      (compared : z.comparisons ≤ most_comparisons) (g : z.orders < most_orders - p.orders)
      (t : Bool) (known : t ≡ too_deep opens z.instructions p.groups) (fits : t ≡ false)
      (r : Result ℕ NotPut) (after : List ℕ) (told : put_in r after ≡ put_of k (fields_at 0 own) p.fields fs) (kept : length after ≡ length fs) where
    few_orders : instruction_orders v i < most_orders - p.orders
    few_orders = let s = sized own i z is.its_fields size_too v in omega (arith, g, s.its_orders)

    placed_orders : (w : ℕ) → p.orders + z.orders ≡ orders_outside w (groups_of (placed k q.groups q.here i)) + size w (list_of (placed k q.groups q.here i))
    placed_orders w =
        let s = sized own i z is.its_fields size_too w in
        omega (arith, place_orders k q.groups q.here w i, h.its_fields.ordered w, s.its_orders, g)

    good_jumps : all is_label (field_jumps (fields_at 0 own)) ≡ true
    good_jumps = ap (λ l. all is_label (field_jumps l)) is.its_fields ∙ ap (all is_label) (jumps_fields i) ∙ good

    -- there is room for the fields
    room : p.fields + length (fields_at 0 own) ≤ length fs
    room =
        let all_fields_law = place_fields k q.groups q.here i in
        let own_length = ap length is.its_fields in
        let both = ap length all_fields_law ∙ length-append (program_fields q.groups q.here) (instruction_fields i) in
        let twice = program_twice 0 (groups_of (placed k q.groups q.here i)) (list_of (placed k q.groups q.here i)) in
        omega (arith, both, own_length, twice, placed_orders 0, fields_many h.its_fields, g, h.its_fields.room_for_fields)

    put_told : put_in r after ≡ fields (fields_from 0 p.fields fs ++ map (packed_field k) (fields_at 0 own))
    put_told = told ∙ put_fit k (fields_at 0 own) p.fields fs room

    pub fields_fit : {A : Type 0} {u : NotPut} → r ≡ Err u → A
    fields_fit e = never_unfit h.its_fields r after _ put_told e

    module _ (m : ℕ) (e : r ≡ Ok m) (count_too : ℕ) (array : List ℕ)
        (opened : Opens k (p.instructions + z.instructions) opens p.groups gs count_too array) where
      many : p.instructions + z.instructions ≡ count_outside q.groups + count q.here + instruction_count i
      many = let s = sized own i z is.its_fields size_too v in omega (arith, h.its_fields.counted, s.its_instructions)

      labels_too : HoldsLabels (moved (arrived (next_number q)) q.set) p.labels (p.instructions + z.instructions + 1) ls
      labels_too =
          let so_far = h.its_labels in
          let s = sized own i z is.its_fields size_too v in
          let some = some_instruction i in
          let enough = size_too.few in
          let counts = counts_few h in
          let later : p.instructions + 1 < p.instructions + z.instructions + 1 = omega (arith, s.its_instructions, some) in
          let few_numbers : p.instructions + z.instructions + 1 < instruction_numbers = omega (arith, counts.few_instructions, enough) in
          let number : p.instructions + 1 ≡ next_number q = omega (arith, h.its_fields.counted) in
          record {
            labelled =
                labels_arrived (p.instructions + 1) (p.instructions + z.instructions + 1) later few_numbers p.labels ls so_far.so_far
                ∙ ap₂ (λ n l. moved (arrived n) l) number so_far.labelled;
            so_far = so_far_later (p.instructions + 1) (p.instructions + z.instructions + 1) later few_numbers p.labels ls so_far.so_far;
            few_labels = so_far.few_labels;
            room_for_labels = so_far.room_for_labels;
          }

      fields_too : HoldsFields (groups_of (placed k q.groups q.here i)) (list_of (placed k q.groups q.here i))
          (q.jumps ++ map (jump k) (jumps_in i)) m (p.instructions + z.instructions) (p.orders + z.orders) after
      fields_too = record {
        fielded =
            fields_held h.its_fields r after _ put_told m e
            ∙ ap (λ l. program_fields q.groups q.here ++ l) (fields_again k (fields_at 0 own) good_jumps ∙ is.its_fields)
            ∙ sym (place_fields k q.groups q.here i);
        jumped =
            jumps_held h.its_fields r after _ put_told m e
            ∙ ap (λ l. q.jumps ++ l)
            (jumps_again k few_statements (fields_at 0 own) good_jumps
            ∙ ap (λ l. map (jump k) (field_jumps l)) is.its_fields
            ∙ ap (map (jump k)) (jumps_fields i));
        counted = many ∙ sym (place_count k q.groups q.here i);
        ordered = placed_orders;
        few_orders = omega (arith, g);
        room_for_fields = kept ∙ h.its_fields.room_for_fields;
      }

      shallow : too_deep (goes_on i) (instruction_count i) p.groups ≡ false
      shallow =
          let s = sized own i z is.its_fields size_too v in
          ap₂ (λ b n. too_deep b n p.groups) (sym is.its_opening) (sym s.its_instructions) ∙ sym known ∙ fits

      groups_too : HoldsGroups (groups_of (placed k q.groups q.here i)) count_too array
      groups_too =
          groups_held k q.here h.its_groups (p.instructions + z.instructions) count_too array i many shallow
          (rw is.its_opening at opened)

      pub comes_placed :
          Comes (Goes (λ o n. Holds o n ns ls array after))
          (Ok (record {
            stage = Instructions;
            names = p.names;
            labels = p.labels;
            fields = m;
            instructions = p.instructions + z.instructions;
            orders = p.orders + z.orders;
            groups = count_too;
          }))
          limited
      unfolding pick
      comes_placed =
          let u : orders_with_stop (placing k i q) ≤ most_orders = omega (arith, total, few_orders, h.its_fields.few_orders) in
          comes_further (placing k i q) _
          (few_both few compared ∙ rw (sym deep ∙ sym known ∙ fits, le-ltb most_orders (orders_with_stop (placing k i q)) u) refl)
          (record { staged = refl; its_names = h.its_names; its_labels = labels_too; its_groups = groups_too; its_fields = fields_too })
