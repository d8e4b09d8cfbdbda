-- Instructions placed behind others, and groups opened and closed: their fields, and how many instructions and orders there are.
use Prim.Native.Nat.{ℕ, ◌+◌, ◌*◌, ◌≤◌}
use mathlib.Core.Path.{◌≡◌, sym, ap, ◌∙◌}
use mathlib.Core.List.{List, [], ◌∷◌, ◌++◌, append-nil, append_assoc}
use native.Mathlib.Omega.{arith}
use lib.ListN.{length, length-append}
use Rattle.sheet.specs.declared.Field.TheVariants.{Else, Start, Finish}
use Rattle.sheet.specs.Sheet.{Condition, Part, end, when, either, count}
use Rattle.sheet.specs.Memory.{part_fields, condition_fields}
use Rattle.sheet.specs.Orders.{simple_size}
use Rattle.sheet.specs.Condition.{asking}
use Rattle.sheet.specs.Translation.{size}
use Rattle.sheet.proofs.Sizes.{asking_some, count_size}
use Rattle.sheet_field.specs.Memory.{fields_at}
use Rattle.translate_size.specs.declared.Size.{Size}
use Rattle.translate_size.specs.Answers.{Sizes, SizeOf}
use Rattle.sheet.proofs.Lengths.{condition_few, part_few}
use Rattle.source.specs.Grammar.{Instruction, simple, if_then, if_else, if_start}
use Rattle.source.specs.Fields.{instruction_fields}
use Rattle.source.specs.Program.{Group, first, second, append, alone, count_outside, orders_outside, temporaries_in, comparisons_in, placed, groups_of, list_of}
use Rattle.source.proofs.Parts.{count_append, size_append, simple_placed, then_placed, else_placed, group_closed, groups_closed}
use Rattle.front_end_forms.specs.Memory.{outside_fields, program_fields}

-- ---- an instruction placed behind others

abbrev pub instruction_count : Instruction → ℕ
instruction_count (simple u) = 1
instruction_count (if_then c u) = 2
instruction_count (if_else c u w) = 3
instruction_count (if_start c) = 1

abbrev pub instruction_orders : ℕ → Instruction → ℕ
instruction_orders v (simple u) = simple_size v u
instruction_orders v (if_then c u) = asking v c + simple_size v u
instruction_orders v (if_else c u w) = asking v c + simple_size v u + 1 + simple_size v w
instruction_orders v (if_start c) = asking v c

-- what its size says
pub sized : (own : List ℕ) (i : Instruction) (z : Size) → fields_at 0 own ≡ instruction_fields i → SizeOf own z → (v : ℕ)
    → Sizes (instruction_orders v i) (temporaries_in i) (instruction_count i) (comparisons_in i) z
sized own (simple u) z e s v = s.of_simple v u e
sized own (if_then c u) z e s v = s.of_then v c u e
sized own (if_else c u w) z e s v = s.of_else v c u w e
sized own (if_start c) z e s v = s.of_start v c e

pub some_instruction : (i : Instruction) → 1 ≤ instruction_count i
some_instruction (simple u) = omega arith
some_instruction (if_then c u) = omega arith
some_instruction (if_else c u w) = omega arith
some_instruction (if_start c) = omega arith

module _ (k : ℕ) (gs : List Group) (x : Part) where
  pub place_fields : (i : Instruction)
      → program_fields (groups_of (placed k gs x i)) (list_of (placed k gs x i)) ≡ program_fields gs x ++ instruction_fields i
  unfolding outside_fields part_fields
  place_fields (simple u) =
      ap (λ l. outside_fields gs ++ l) (simple_placed x u) ∙ sym (append_assoc (outside_fields gs) (part_fields x) (instruction_fields (simple u)))
  place_fields (if_then c u) =
      ap (λ l. outside_fields gs ++ l) (then_placed x c u) ∙ sym (append_assoc (outside_fields gs) (part_fields x) (instruction_fields (if_then c u)))
  place_fields (if_else c u w) =
      ap (λ l. outside_fields gs ++ l) (else_placed x c u w)
      ∙ sym (append_assoc (outside_fields gs) (part_fields x) (instruction_fields (if_else c u w)))
  place_fields (if_start c) =
      append-nil (outside_fields gs ++ (part_fields x ++ instruction_fields (if_start c)))
      ∙ sym (append_assoc (outside_fields gs) (part_fields x) (instruction_fields (if_start c)))

  pub place_count : (i : Instruction)
      → count_outside (groups_of (placed k gs x i)) + count (list_of (placed k gs x i)) ≡ count_outside gs + count x + instruction_count i
  unfolding count_outside count
  place_count (simple u) = omega (arith, count_append x (alone u))
  place_count (if_then c u) = omega (arith, count_append x (when c (alone u) end))
  place_count (if_else c u w) = omega (arith, count_append x (either c (alone u) (alone w) end))
  place_count (if_start c) = omega arith

  pub place_orders : (v : ℕ) (i : Instruction)
      → orders_outside v (groups_of (placed k gs x i)) + size v (list_of (placed k gs x i)) ≡ orders_outside v gs + size v x + instruction_orders v i
  unfolding orders_outside size
  place_orders v (simple u) = omega (arith, size_append v x (alone u))
  place_orders v (if_then c u) = omega (arith, size_append v x (when c (alone u) end))
  place_orders v (if_else c u w) = omega (arith, size_append v x (either c (alone u) (alone w) end))
  place_orders v (if_start c) = omega arith

-- ---- a group closed: by %FINISH, or by %FINISH %ELSE %START

module _ (j : ℕ) (gs : List Group) (x : Part) (c : Condition) (here : Part) where
  pub first_fields : program_fields gs (append x (when c here end)) ≡ program_fields (first j x c ∷ gs) here ++ (Finish ∷ [])
  unfolding outside_fields
  first_fields = rw (group_closed x c here) (simp append_assoc)

  pub first_count : count_outside (first j x c ∷ gs) + count here ≡ count_outside gs + count (append x (when c here end))
  unfolding count_outside count
  first_count = omega (arith, count_append x (when c here end))

  pub first_orders : (v : ℕ) → orders_outside v (first j x c ∷ gs) + size v here ≡ orders_outside v gs + size v (append x (when c here end))
  unfolding orders_outside size
  first_orders v = omega (arith, size_append v x (when c here end))

  pub else_fields : (k : ℕ) → program_fields (second k x c here ∷ gs) end ≡ program_fields (first j x c ∷ gs) here ++ (Else ∷ [])
  unfolding outside_fields part_fields
  else_fields k = simp (append-nil, append_assoc)

  pub else_count : (k : ℕ) → count_outside (first j x c ∷ gs) + count here ≡ count_outside (second k x c here ∷ gs) + count end
  unfolding count_outside count
  else_count k = omega arith

  pub else_orders : (k v : ℕ) → orders_outside v (second k x c here ∷ gs) + size v end ≡ orders_outside v (first j x c ∷ gs) + size v here + 1
  unfolding orders_outside size
  else_orders k v = omega arith

  module _ (y : Part) where
    pub second_fields : program_fields gs (append x (either c y here end)) ≡ program_fields (second j x c y ∷ gs) here ++ (Finish ∷ [])
    unfolding outside_fields
    second_fields = rw (groups_closed x c y here) (simp append_assoc)

    pub second_count : count_outside (second j x c y ∷ gs) + count here ≡ count_outside gs + count (append x (either c y here end))
    unfolding count_outside count
    second_count = omega (arith, count_append x (either c y here end))

    pub second_orders : (v : ℕ)
        → orders_outside v (second j x c y ∷ gs) + size v here ≡ orders_outside v gs + size v (append x (either c y here end))
    unfolding orders_outside size
    second_orders v = omega (arith, size_append v x (either c y here end))

-- ---- no order stands for more than two fields, the FINISH of each open group counted; each instruction has an order

start_length : (c : Condition) → length (instruction_fields (if_start c)) ≡ length (condition_fields c) + 2
start_length c = let e = length-append (condition_fields c) (Start ∷ []) in omega (arith, e)

module _ (v : ℕ) where
  outside_twice : (gs : List Group) → length (outside_fields gs) + length gs ≤ 2 * orders_outside v gs
  unfolding outside_fields orders_outside
  outside_twice [] = omega arith
  outside_twice (first k x c ∷ gs) =
      let all = length-append (outside_fields gs) (part_fields x ++ instruction_fields (if_start c)) in
      let two = length-append (part_fields x) (instruction_fields (if_start c)) in
      omega (arith, all, two, start_length c, condition_few v c, part_few v x, outside_twice gs)
  outside_twice (second k x c y ∷ gs) =
      let start = instruction_fields (if_start c) in
      let all = length-append (outside_fields gs) (part_fields x ++ (start ++ (part_fields y ++ (Else ∷ [])))) in
      let two = length-append (part_fields x) (start ++ (part_fields y ++ (Else ∷ []))) in
      let three = length-append start (part_fields y ++ (Else ∷ [])) in
      let four = length-append (part_fields y) (Else ∷ []) in
      omega (arith, all, two, three, four, start_length c, condition_few v c, part_few v x, part_few v y, outside_twice gs)

  pub program_twice : (gs : List Group) (x : Part) → length (program_fields gs x) + length gs ≤ 2 * (orders_outside v gs + size v x)
  program_twice gs x = omega (arith, length-append (outside_fields gs) (part_fields x), outside_twice gs, part_few v x)

  outside_some : (gs : List Group) → count_outside gs ≤ orders_outside v gs
  unfolding count_outside orders_outside
  outside_some [] = omega arith
  outside_some (first k x c ∷ gs) = omega (arith, asking_some v c, count_size v x, outside_some gs)
  outside_some (second k x c y ∷ gs) = omega (arith, asking_some v c, count_size v x, count_size v y, outside_some gs)

  pub program_some : (gs : List Group) (x : Part) → count_outside gs + count x ≤ orders_outside v gs + size v x
  program_some gs x = omega (arith, outside_some gs, count_size v x)
