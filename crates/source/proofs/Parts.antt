-- Lists of instructions one behind another, and with other labels in their jumps: how many instructions and orders they have,
-- how deep they are nested, how many temporaries they use, and their fields.
use Prim.Native.Nat.{ℕ, suc, ◌+◌, ◌≤◌}
use mathlib.Core.Path.{◌≡◌, refl, ap, ap₂, ◌∙◌}
use mathlib.Core.List.{[], ◌∷◌, ◌++◌, append_assoc, append-nil}
use native.Mathlib.Omega.{arith}
use Rattle.sheet.specs.Sheet.{Simple, set, send, goto, Condition, Part, end, plain, when, either, count, retarget, retarget_part}
use Rattle.sheet.specs.Orders.{simple_size, simple_temporaries}
use Rattle.sheet.specs.Translation.{size, temporaries_of}
use Rattle.sheet.specs.Within.{depth}
use Rattle.sheet.specs.declared.Field.TheVariants.{Else, Finish}
use Rattle.sheet.specs.Fields.{simple_fields}
use Rattle.sheet.specs.Memory.{part_fields}
use Rattle.source.specs.Grammar.{simple, if_then, if_else, if_start}
use Rattle.source.specs.Fields.{instruction_fields}
use Rattle.source.specs.Program.{append, alone}

-- ---- one behind another

pub count_append : (x y : Part) → count (append x y) ≡ count x + count y
unfolding append count
count_append end y = omega arith
count_append (plain u l) y = let more = count_append l y in omega arith
count_append (when c x l) y = let more = count_append l y in omega arith
count_append (either c w x l) y = let more = count_append l y in omega arith

pub size_append : (v : ℕ) (x y : Part) → size v (append x y) ≡ size v x + size v y
unfolding append size
size_append v end y = omega arith
size_append v (plain u l) y = let more = size_append v l y in omega arith
size_append v (when c x l) y = let more = size_append v l y in omega arith
size_append v (either c w x l) y = let more = size_append v l y in omega arith

pub depth_append : (n t : ℕ) (x y : Part) → n + depth x ≤ t → n + depth y ≤ t → n + depth (append x y) ≤ t
unfolding append depth
depth_append n t end y h k = k
depth_append n t (plain u l) y h k = depth_append n t l y h k
depth_append n t (when c x l) y h k = let more = depth_append n t l y (omega arith) k in omega arith
depth_append n t (either c w x l) y h k = let more = depth_append n t l y (omega arith) k in omega arith

pub temporaries_append : (t : ℕ) (x y : Part) → temporaries_of x ≤ t → temporaries_of y ≤ t → temporaries_of (append x y) ≤ t
unfolding append temporaries_of
temporaries_append t end y h k = k
temporaries_append t (plain u l) y h k = let more = temporaries_append t l y (omega arith) k in omega arith
temporaries_append t (when c x l) y h k = let more = temporaries_append t l y (omega arith) k in omega arith
temporaries_append t (either c w x l) y h k = let more = temporaries_append t l y (omega arith) k in omega arith

pub fields_append : (x y : Part) → part_fields (append x y) ≡ part_fields x ++ part_fields y
unfolding append part_fields
fields_append end y = refl
fields_append (plain u l) y = rw (fields_append l y, append_assoc (simple_fields u) (part_fields l) (part_fields y)) refl
fields_append (when c x l) y = rw (fields_append l y) (simp append_assoc)
fields_append (either c w x l) y = rw (fields_append l y) (simp append_assoc)

-- the fields of an instruction that a statement brings are those of the list that it is placed as, "a lone u as a group of one"
module _ (x : Part) where
  pub simple_placed : (u : Simple) → part_fields (append x (alone u)) ≡ part_fields x ++ instruction_fields (simple u)
  unfolding part_fields
  simple_placed u = fields_append x (alone u) ∙ ap (λ l. part_fields x ++ l) (append-nil (simple_fields u))

  pub then_placed : (c : Condition) (u : Simple)
      → part_fields (append x (when c (alone u) end)) ≡ part_fields x ++ instruction_fields (if_then c u)
  unfolding part_fields
  then_placed c u = fields_append x (when c (alone u) end) ∙ rw (append-nil (simple_fields u)) refl

  pub else_placed : (c : Condition) (u w : Simple)
      → part_fields (append x (either c (alone u) (alone w) end)) ≡ part_fields x ++ instruction_fields (if_else c u w)
  unfolding part_fields
  else_placed c u w =
      fields_append x (either c (alone u) (alone w) end) ∙ rw (append-nil (simple_fields u), append-nil (simple_fields w)) refl

  -- and those of an IF whose groups are closed are those up to its START, its parts, and what parts and ends them
  pub group_closed : (c : Condition) (y : Part)
      → part_fields (append x (when c y end)) ≡ part_fields x ++ (instruction_fields (if_start c) ++ (part_fields y ++ (Finish ∷ [])))
  unfolding part_fields
  group_closed c y = fields_append x (when c y end) ∙ simp append_assoc

  pub groups_closed : (c : Condition) (y z : Part)
      → part_fields (append x (either c y z end))
      ≡ part_fields x ++ (instruction_fields (if_start c) ++ (part_fields y ++ (Else ∷ (part_fields z ++ (Finish ∷ [])))))
  unfolding part_fields
  groups_closed c y z = fields_append x (either c y z end) ∙ simp append_assoc

-- ---- other labels

module _ (to : ℕ → ℕ) where
  pub count_same : (x : Part) → count (retarget_part to x) ≡ count x
  unfolding retarget_part count
  count_same end = refl
  count_same (plain u l) = ap suc (count_same l)
  count_same (when c x l) = let one = count_same x in let more = count_same l in omega arith
  count_same (either c x y l) = let one = count_same x in let two = count_same y in let more = count_same l in omega arith

  simple_size_law : (v : ℕ) (u : Simple) → simple_size v (retarget to u) ≡ simple_size v u
  simple_size_law v (set w e) = refl
  simple_size_law v (send e) = refl
  simple_size_law v (goto s) = refl

  pub size_same : (v : ℕ) (x : Part) → size v (retarget_part to x) ≡ size v x
  unfolding retarget_part size
  size_same v end = refl
  size_same v (plain u l) = ap₂ ◌+◌ (simple_size_law v u) (size_same v l)
  size_same v (when c x l) = let one = size_same v x in let more = size_same v l in omega arith
  size_same v (either c x y l) = let one = size_same v x in let two = size_same v y in let more = size_same v l in omega arith

  pub depth_same : (x : Part) → depth (retarget_part to x) ≡ depth x
  unfolding retarget_part depth
  depth_same end = refl
  depth_same (plain u l) = depth_same l
  depth_same (when c x l) = rw (depth_same x, depth_same l) refl
  depth_same (either c x y l) = rw (depth_same x, depth_same y, depth_same l) refl

  simple_temporaries_law : (u : Simple) → simple_temporaries (retarget to u) ≡ simple_temporaries u
  simple_temporaries_law (set w e) = refl
  simple_temporaries_law (send e) = refl
  simple_temporaries_law (goto s) = refl

  pub temporaries_same : (x : Part) → temporaries_of (retarget_part to x) ≡ temporaries_of x
  unfolding retarget_part temporaries_of
  temporaries_same end = refl
  temporaries_same (plain u l) = rw (simple_temporaries_law u, temporaries_same l) refl
  temporaries_same (when c x l) = rw (temporaries_same x, temporaries_same l) refl
  temporaries_same (either c x y l) = rw (temporaries_same x, temporaries_same y, temporaries_same l) refl
