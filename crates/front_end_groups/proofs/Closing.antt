-- Groups closed: %FINISH and %FINISH %ELSE %START.
use Prim.Native.Nat.{ℕ, suc, ◌+◌, ◌-◌, ◌≤◌, ◌<◌}
use mathlib.Core.Bool.{Bool, true, false}
use mathlib.Core.Path.{◌≡◌, refl, sym, ap, ap₂, ◌∙◌}
use mathlib.Core.List.{List, [], ◌∷◌, ◌++◌, map, append-nil}
use native.Mathlib.Omega.{arith}
use borrow.Author.Tests.{lt-ltb, le-ltb, eq-eqb, ne_eqb, eqb-true, eqb-false}
use lib.Dec.{eqb}
use lib.ListN.{length, get_or, set, length-set}
use Rattle.base.specs.Choice.{pick}
use Rattle.order.specs.Limits.{most_orders}
use Rattle.sheet.specs.declared.Field.{Field}
use Rattle.sheet.specs.declared.Field.TheVariants.{Else, Finish}
use Rattle.sheet.specs.Sheet.{Part, end, when, either, Condition, count}
use Rattle.sheet.specs.Translation.{size}
use Rattle.sheet_field.specs.Memory.{fields_from}
use Rattle.source.specs.Program.{Program, Outcome, refused, Group, first, second, append, count_outside, orders_outside, orders_with_stop}
use Rattle.source.specs.Program.{moved, put_off, taken_up, with_few_orders, regrouped, finishing, alternating}
use Rattle.labels.specs.Answers.{Fits, PutsOff, TakesUp}
use Rattle.groups.specs.Memory.{group_word, began_in, part_in, GroupsHeld}
use Rattle.groups.proofs.Held.{began_of, is_second, part_of, held_more, innermost, held_rest}
use Rattle.std.proofs.Common.{Result, Ok, Err}
use Rattle.source.specs.declared.Refusal.TheVariants.{Form as NoForm, Limit as OverLimit, Group as BadGroup}
use Rattle.fields_put.specs.declared.Unfit.{Unfit as NotPut}
use Rattle.fields.specs.Memory.{field_jumps, unpacked, jump_in}
use Rattle.fields_put.specs.Answers.{fields, put_in, push_of}
use Rattle.fields_put.proofs.Putting.{push_fit}
use Rattle.front_end_forms.specs.declared.Progress.{Progress}
use Rattle.front_end_forms.specs.declared.Failure.{Failure}
use Rattle.front_end_forms.specs.declared.Failure.TheVariants.{Refused}
use Rattle.front_end_forms.specs.Memory.{NameTable, program_fields, HoldsLabels, HoldsFields, Holds}
use Rattle.front_end_forms.specs.Answers.{Comes, Goes, FewCounts}
use Rattle.front_end_forms.proofs.Stages.{comes_refused, comes_further}
use Rattle.front_end_forms.proofs.Counting.{first_fields, first_count, first_orders, else_fields, else_count, else_orders, second_fields, second_count, second_orders, program_twice}
use Rattle.front_end_forms.proofs.Placing.{fields_many, never_unfit, fields_held, jumps_held}

-- ---- no group is open

finish_none : (q : Program) (k : ℕ) (hs : List Group) → length hs ≡ 0 → finishing q k hs ≡ refused 13 k
finish_none q k [] e = refl
finish_none q k (first j x c ∷ hs) e = absurd (omega arith)
finish_none q k (second j x c y ∷ hs) e = absurd (omega arith)

else_none : (q : Program) (k : ℕ) (hs : List Group) → length hs ≡ 0 → alternating q k hs ≡ refused 13 k
else_none q k [] e = refl
else_none q k (first j x c ∷ hs) e = absurd (omega arith)
else_none q k (second j x c y ∷ hs) e = absurd (omega arith)

module _ {q : Program} {p : Progress} {ns : NameTable} {ls gs fs : List ℕ} (h : Holds q p ns ls gs fs) (k : ℕ) {A : Type 0} {T : A → Outcome → Type 0} (none : p.groups ≡ 0) where
  pub finish_stray : Comes T (Err (Refused BadGroup k)) (finishing q k q.groups)
  finish_stray = comes_refused BadGroup k (finish_none q k q.groups (sym h.its_groups.opened ∙ none))

  pub else_stray : Comes T (Err (Refused BadGroup k)) (alternating q k q.groups)
  else_stray = comes_refused BadGroup k (else_none q k q.groups (sym h.its_groups.opened ∙ none))

-- ---- what the innermost group's number tells

module _ {q : Program} {p : Progress} {ns : NameTable} {ls gs fs : List ℕ} (h : Holds q p ns ls gs fs) (counts : FewCounts p) (open_too : p.groups ≡ 0 → ⊥) where
  inner_began : (hs : List Group) → GroupsHeld hs gs → p.groups ≡ length hs → count_outside hs < 2147483648
      → began_in (get_or gs (p.groups - 1) 0) ≡ count_outside hs
  inner_began [] held e few = absurd (open_too e)
  inner_began (g ∷ hs) held e few =
      let same : p.groups - 1 ≡ length hs = omega arith in
      ap (λ n. began_in (get_or gs n 0)) same ∙ ap began_in (innermost g hs gs held) ∙ began_of g (count_outside (g ∷ hs)) few

  -- whether the group is empty
  module _ (b : ℕ) (known : b ≡ began_in (get_or gs (p.groups - 1) 0)) where
    began_told : b ≡ count_outside q.groups
    began_told =
        known
        ∙ inner_began q.groups h.its_groups.grouped h.its_groups.opened
        (omega (arith, h.its_fields.counted, counts.few_instructions))

    pub empty_told : b ≡ p.instructions → count q.here ≡ 0
    empty_told e = omega (arith, began_told, e, h.its_fields.counted)

    pub filled_told : (b ≡ p.instructions → ⊥) → count q.here ≡ 0 → ⊥
    filled_told n e = n (omega (arith, began_told, e, h.its_fields.counted))

-- ---- an empty group

finish_empty : (q : Program) (k : ℕ) (hs : List Group) → (length hs ≡ 0 → ⊥) → count q.here ≡ 0 → finishing q k hs ≡ refused 7 k
unfolding pick
finish_empty q k [] n e = absurd (n refl)
finish_empty q k (first j x c ∷ hs) n e = rw (eq-eqb (count q.here) 0 e) refl
finish_empty q k (second j x c y ∷ hs) n e = rw (eq-eqb (count q.here) 0 e) refl

else_empty : (q : Program) (k : ℕ) (hs : List Group) → (length hs ≡ 0 → ⊥) → count q.here ≡ 0 → alternating q k hs ≡ refused 7 k
unfolding pick
else_empty q k [] n e = absurd (n refl)
else_empty q k (first j x c ∷ hs) n e = rw (eq-eqb (count q.here) 0 e) refl
else_empty q k (second j x c y ∷ hs) n e = refl

module _ {q : Program} {p : Progress} {ns : NameTable} {ls gs fs : List ℕ} (h : Holds q p ns ls gs fs) (counts : FewCounts p) (k : ℕ) (open_too : p.groups ≡ 0 → ⊥)
    (b : ℕ) (known : b ≡ began_in (get_or gs (p.groups - 1) 0)) (same : b ≡ p.instructions) {A : Type 0} {T : A → Outcome → Type 0} where
  pub finish_vain : Comes T (Err (Refused NoForm k)) (finishing q k q.groups)
  finish_vain =
      comes_refused NoForm k
      (finish_empty q k q.groups (λ z. open_too (h.its_groups.opened ∙ z)) (empty_told h counts open_too b known same))

  pub else_vain : Comes T (Err (Refused NoForm k)) (alternating q k q.groups)
  else_vain =
      comes_refused NoForm k
      (else_empty q k q.groups (λ z. open_too (h.its_groups.opened ∙ z)) (empty_told h counts open_too b known same))

-- ---- one field is put

module _ {gs : List Group} {x : Part} {js : List _} {n many orders : ℕ} {ws : List ℕ} (h : HoldsFields gs x js n many orders ws) (some : 1 ≤ length gs)
    (f : Field) (plain_field : unpacked f ≡ f) (no_jump : field_jumps (f ∷ []) ≡ []) (r : Result ℕ NotPut) (after : List ℕ) (told : put_in r after ≡ push_of f n ws) where
  push_told : put_in r after ≡ fields (fields_from 0 n ws ++ (f ∷ []))
  push_told =
      told
      ∙ push_fit f n ws (omega (arith, fields_many h, program_twice 0 gs x, h.ordered 0, h.few_orders, h.room_for_fields))

  pub push_fits : {A : Type 0} {u : NotPut} → r ≡ Err u → A
  push_fits e = never_unfit h r after (f ∷ []) push_told e

  pub pushed_fields : (m : ℕ) → r ≡ Ok m → map unpacked (fields_from 0 m after) ≡ program_fields gs x ++ (f ∷ [])
  pushed_fields m e = fields_held h r after (f ∷ []) push_told m e ∙ ap (λ g. program_fields gs x ++ (g ∷ [])) plain_field

  pub pushed_jumps : (m : ℕ) → r ≡ Ok m → map jump_in (field_jumps (fields_from 0 m after)) ≡ js
  pushed_jumps m e = jumps_held h r after (f ∷ []) push_told m e ∙ ap (λ l. js ++ map jump_in l) no_jump ∙ append-nil js

finish_jumps : field_jumps (Finish ∷ []) ≡ []
unfolding field_jumps
finish_jumps = refl

else_jumps : field_jumps (Else ∷ []) ≡ []
unfolding field_jumps
else_jumps = refl

-- the labels can be moved
label_fits : {q : Program} {p : Progress} {ns : NameTable} {ls gs fs : List ℕ} → Holds q p ns ls gs fs → FewCounts p → Fits (p.instructions + 1) (p.groups - 1) p.labels ls
label_fits h counts = record {
  few_instructions = omega (arith, counts.few_instructions);
  few_groups = omega (arith, counts.few_levels);
  rows = omega (arith, h.its_labels.few_labels, h.its_labels.room_for_labels);
}

-- ---- %FINISH

module _ {q : Program} {p : Progress} {ns : NameTable} {ls gs fs : List ℕ} (h : Holds q p ns ls gs fs) (counts : FewCounts p) (k : ℕ) (open_too : p.groups ≡ 0 → ⊥)
    (b : ℕ) (known : b ≡ began_in (get_or gs (p.groups - 1) 0)) (other : b ≡ p.instructions → ⊥)
    (r : Result ℕ NotPut) (after : List ℕ) (told : put_in r after ≡ push_of Finish p.fields fs) (kept : length after ≡ length fs) where
  some_groups : 1 ≤ length q.groups
  some_groups = nonzero (length q.groups) (λ e. open_too (h.its_groups.opened ∙ e))
    where
      nonzero : (n : ℕ) → (n ≡ 0 → ⊥) → 1 ≤ n
      nonzero n e = omega arith

  pub finish_fits : {A : Type 0} {u : NotPut} → r ≡ Err u → A
  finish_fits e = push_fits h.its_fields some_groups Finish refl finish_jumps r after told e

  module _ (m : ℕ) (e : r ≡ Ok m) (labels_too : List ℕ) (taken : TakesUp (p.instructions + 1) (p.groups - 1) ls labels_too) where
    abbrev now_counted : Progress
    now_counted = record {
      stage = p.stage;
      names = p.names;
      labels = p.labels;
      fields = m;
      instructions = p.instructions;
      orders = p.orders;
      groups = p.groups - 1;
    }

    labels_held : (g : ℕ) → p.groups - 1 ≡ g → HoldsLabels (moved (taken_up g) q.set) p.labels (p.instructions + 1) labels_too
    labels_held g is = record {
      labelled =
          taken.told p.labels (label_fits h counts)
          ∙ ap₂ (λ n l. moved (taken_up n) l) is h.its_labels.labelled;
      so_far = taken.so_far p.labels (label_fits h counts) h.its_labels.so_far;
      few_labels = h.its_labels.few_labels;
      room_for_labels = taken.kept ∙ h.its_labels.room_for_labels;
    }

    -- the list y stands in place of the group
    module _ (g : Group) (hs : List Group) (is : q.groups ≡ g ∷ hs) (y : Part)
        (same_fields : program_fields hs y ≡ program_fields (g ∷ hs) q.here ++ (Finish ∷ []))
        (same_count : count_outside (g ∷ hs) + count q.here ≡ count_outside hs + count y)
        (same_orders_law : (v : ℕ) → orders_outside v (g ∷ hs) + size v q.here ≡ orders_outside v hs + size v y) where
      closed_length : p.groups ≡ suc (length hs)
      closed_length = h.its_groups.opened ∙ ap length is

      closed_holds : Holds (regrouped q (taken_up (length hs)) hs y) now_counted ns labels_too gs after
      closed_holds =
          let all = h.its_fields in
          let inside : p.groups - 1 ≡ length hs = omega (arith, closed_length) in
          record {
            staged = h.staged;
            its_names = h.its_names;
            its_labels = labels_held (length hs) inside;
            its_groups = record {
              grouped = held_rest g hs gs (rw is at h.its_groups.grouped);
              opened = inside;
              few_levels = omega (arith, h.its_groups.few_levels);
              room_for_groups = h.its_groups.room_for_groups;
            };
            its_fields = record {
              fielded =
                  pushed_fields all some_groups Finish refl finish_jumps r after told m e
                  ∙ ap (λ l. program_fields l q.here ++ (Finish ∷ [])) is
                  ∙ sym same_fields;
              jumped = pushed_jumps all some_groups Finish refl finish_jumps r after told m e;
              counted = all.counted ∙ ap (λ l. count_outside l + count q.here) is ∙ same_count;
              ordered = λ v. all.ordered v ∙ ap (λ l. orders_outside v l + size v q.here) is ∙ same_orders_law v;
              few_orders = all.few_orders;
              room_for_fields = kept ∙ all.room_for_fields;
            };
          }

    finish_by : (hs : List Group) → q.groups ≡ hs → Comes (Goes (λ o n. Holds o n ns labels_too gs after)) (Ok now_counted) (finishing q k hs)
    unfolding pick
    finish_by [] is = absurd (open_too (h.its_groups.opened ∙ ap length is))
    finish_by (first j x c ∷ hs) is =
        comes_further _ _ (rw (ne_eqb (count q.here) 0 (filled_told h counts open_too b known other)) refl)
        (closed_holds (first j x c) hs is (append x (when c q.here end)) (first_fields j hs x c q.here) (first_count j hs x c q.here) (first_orders j hs x c q.here))
    finish_by (second j x c y ∷ hs) is =
        comes_further _ _ (rw (ne_eqb (count q.here) 0 (filled_told h counts open_too b known other)) refl)
        (closed_holds (second j x c y) hs is (append x (either c y q.here end)) (second_fields j hs x c q.here y) (second_count j hs x c q.here y) (second_orders j hs x c q.here y))

    pub comes_finished : Comes (Goes (λ o n. Holds o n ns labels_too gs after)) (Ok now_counted) (finishing q k q.groups)
    comes_finished = finish_by q.groups refl

-- ---- %FINISH %ELSE %START

module _ {q : Program} {p : Progress} {ns : NameTable} {ls gs fs : List ℕ} (h : Holds q p ns ls gs fs) (counts : FewCounts p) (k : ℕ) (open_too : p.groups ≡ 0 → ⊥)
    (t : Bool) (told : t ≡ eqb (part_in (get_or gs (p.groups - 1) 0)) 1) where
  inner_part : (g : Group) (hs : List Group) → q.groups ≡ g ∷ hs → part_in (get_or gs (p.groups - 1) 0) ≡ is_second g
  inner_part g hs is =
      let n = h.its_groups.opened ∙ ap length is in
      let same : p.groups - 1 ≡ length hs = omega (arith, n) in
      ap (λ n. part_in (get_or gs n 0)) same
      ∙ ap part_in (innermost g hs gs (rw is at h.its_groups.grouped))
      ∙ part_of g (count_outside (g ∷ hs))

  else_second : t ≡ true → (hs : List Group) → q.groups ≡ hs → alternating q k hs ≡ refused 7 k
  else_second e [] is = absurd (open_too (h.its_groups.opened ∙ ap length is))
  else_second e (first j x c ∷ hs) is =
      let part = eqb-true (part_in (get_or gs (p.groups - 1) 0)) 1 (sym told ∙ e) in
      let none = inner_part (first j x c) hs is in
      absurd (omega (arith, part, none))
  else_second e (second j x c y ∷ hs) is = refl

  pub else_again : {A : Type 0} {T : A → Outcome → Type 0} → t ≡ true → Comes T (Err (Refused NoForm k)) (alternating q k q.groups)
  else_again e = comes_refused NoForm k (else_second e q.groups refl)

  module _ (no_second : t ≡ false) (b : ℕ) (known : b ≡ began_in (get_or gs (p.groups - 1) 0)) (other : b ≡ p.instructions → ⊥)
      {A : Type 0} {T : A → Outcome → Type 0} {r : Result A Failure} where
    else_by : (hs : List Group) → q.groups ≡ hs
        → ((j : ℕ) (x : Part) (c : Condition) (rest : List Group) → q.groups ≡ first j x c ∷ rest
        → Comes T r (with_few_orders k (regrouped q (put_off (length rest)) (second k x c q.here ∷ rest) end)))
        → Comes T r (alternating q k hs)
    unfolding pick
    else_by [] is more = absurd (open_too (h.its_groups.opened ∙ ap length is))
    else_by (first j x c ∷ hs) is more =
        rw (ne_eqb (count q.here) 0 (filled_told h counts open_too b known other)) (more j x c hs is)
    else_by (second j x c y ∷ hs) is more =
        let part = eqb-false (part_in (get_or gs (p.groups - 1) 0)) 1 (sym told ∙ no_second) in
        absurd (part (inner_part (second j x c y) hs is))

    pub else_first : ((j : ℕ) (x : Part) (c : Condition) (rest : List Group) → q.groups ≡ first j x c ∷ rest
        → Comes T r (with_few_orders k (regrouped q (put_off (length rest)) (second k x c q.here ∷ rest) end)))
        → Comes T r (alternating q k q.groups)
    else_first more = else_by q.groups refl more

-- the second part
module _ {q : Program} {p : Progress} {ns : NameTable} {ls gs fs : List ℕ} (h : Holds q p ns ls gs fs) (counts : FewCounts p) (k j : ℕ) (x : Part) (c : Condition)
    (hs : List Group) (is : q.groups ≡ first j x c ∷ hs) where
  abbrev now_read : Program
  now_read = regrouped q (put_off (length hs)) (second k x c q.here ∷ hs) end

  second_total : (v : ℕ) → p.orders + 1 ≡ orders_outside v (second k x c q.here ∷ hs) + size v end
  second_total v =
      let all = h.its_fields.ordered v ∙ ap (λ l. orders_outside v l + size v q.here) is in
      omega (arith, all, else_orders j hs x c q.here k v)

  pub second_over : {A : Type 0} {T : A → Outcome → Type 0} → most_orders - p.orders ≤ 1 → Comes T (Err (Refused OverLimit k)) (with_few_orders k now_read)
  unfolding pick
  second_over g =
      let u : most_orders < orders_with_stop now_read = omega (arith, g, second_total (length q.names), counts.few_orders) in
      comes_refused OverLimit k (rw (lt-ltb most_orders (orders_with_stop now_read) u) refl)

  some : 1 ≤ length q.groups
  some = let n = ap length is in omega (arith, n)

  inside : p.groups - 1 ≡ length hs
  inside = let n = h.its_groups.opened ∙ ap length is in omega (arith, n)

  module _ (g : 1 < most_orders - p.orders) (r : Result ℕ NotPut) (after : List ℕ) (told : put_in r after ≡ push_of Else p.fields fs) (kept : length after ≡ length fs) where
    pub second_fits : {A : Type 0} {u : NotPut} → r ≡ Err u → A
    second_fits e = push_fits h.its_fields some Else refl else_jumps r after told e

    module _ (m : ℕ) (e : r ≡ Ok m) (labels_too : List ℕ) (put : PutsOff (p.instructions + 1) (p.groups - 1) ls labels_too)
        (array : List ℕ) (stored : array ≡ set gs (p.groups - 1) (group_word k 1 p.instructions)) where
      abbrev now_second : Progress
      now_second = record {
        stage = p.stage;
        names = p.names;
        labels = p.labels;
        fields = m;
        instructions = p.instructions;
        orders = p.orders + 1;
        groups = p.groups;
      }

      second_counted : p.instructions ≡ count_outside (second k x c q.here ∷ hs) + count end
      second_counted = h.its_fields.counted ∙ ap (λ l. count_outside l + count q.here) is ∙ else_count j hs x c q.here k

      began : p.instructions ≡ count_outside (second k x c q.here ∷ hs)
      began = unfold count in omega (arith, second_counted)

      second_holds : Holds now_read now_second ns labels_too array after
      second_holds =
          let all = h.its_fields in
          let n = h.its_groups.opened ∙ ap length is in
          record {
            staged = h.staged;
            its_names = h.its_names;
            its_labels = record {
              labelled = put.told p.labels (label_fits h counts) ∙ ap₂ (λ n l. moved (put_off n) l) inside h.its_labels.labelled;
              so_far = put.so_far p.labels (label_fits h counts) h.its_labels.so_far;
              few_labels = h.its_labels.few_labels;
              room_for_labels = put.kept ∙ h.its_labels.room_for_labels;
            };
            its_groups = record {
              grouped =
                  held_more (second k x c q.here) hs gs array
                  (omega (arith, n, h.its_groups.few_levels, h.its_groups.room_for_groups))
                  (stored ∙ ap₂ (λ i b. set gs i (group_word k 1 b)) inside began)
                  (held_rest (first j x c) hs gs (rw is at h.its_groups.grouped));
              opened = n;
              few_levels = h.its_groups.few_levels;
              room_for_groups = ap length stored ∙ length-set gs (p.groups - 1) (group_word k 1 p.instructions) ∙ h.its_groups.room_for_groups;
            };
            its_fields = record {
              fielded =
                  pushed_fields all some Else refl else_jumps r after told m e
                  ∙ ap (λ l. program_fields l q.here ++ (Else ∷ [])) is
                  ∙ sym (else_fields j hs x c q.here k);
              jumped = pushed_jumps all some Else refl else_jumps r after told m e;
              counted = second_counted;
              ordered = second_total;
              few_orders = omega (arith, g);
              room_for_fields = kept ∙ all.room_for_fields;
            };
          }

      pub comes_second : Comes (Goes (λ o n. Holds o n ns labels_too array after)) (Ok now_second) (with_few_orders k now_read)
      unfolding pick
      comes_second =
          let u : orders_with_stop now_read ≤ most_orders = omega (arith, g, second_total (length q.names)) in
          comes_further now_read _ (rw (le-ltb most_orders (orders_with_stop now_read) u) refl) second_holds
