-- What the fields of an instruction tell in memory is what the definitions say of the instruction, and what is packed into jumps
-- comes out again.
use Prim.Native.Nat.{ℕ, ◌/◌, ◌<◌}
use mathlib.Core.Bool.{Bool, true, false}
use mathlib.Core.Path.{◌≡◌, refl, sym, ap, ap₂, ◌∙◌}
use mathlib.Core.List.{List, [], ◌∷◌, ◌++◌, map}
use native.Mathlib.Omega.{arith}
use borrow.Author.Tests.{leb-true}
use lib.Dec.{leb, eqb}
use Rattle.std.proofs.Common.{Option, Some, None}
use Rattle.base.specs.Choice.{pick}
use Rattle.base.proofs.Cases.{both_yes, chosen_second}
use Rattle.sheet.specs.declared.Field.{Field}
use Rattle.sheet.specs.declared.Field.TheVariants.{Else, Start, Finish, If, Send, Neg, Not, Binary, Compare, Word, Constant, Set, Goto, Run}
use Rattle.sheet.specs.Sheet.{Expression, word, constant, negated, inverted, binary, Simple, set, send, goto}
use Rattle.sheet.specs.Sheet.{Condition, compares, joins, Part, end, plain, when, either, retarget, retarget_part}
use Rattle.sheet.specs.Fields.{expression_fields, simple_fields}
use Rattle.sheet.specs.Memory.{condition_fields, part_fields}
use Rattle.source.specs.Grammar.{Instruction, simple, if_then, if_else, if_start}
use Rattle.source.specs.Fields.{instruction_fields}
use Rattle.source.specs.Limits.{greatest_label}
use Rattle.source.specs.Program.{is_known, all_known, known_simple, known_condition, known, is_label, simple_jumps, jumps_in, all, jump}
use Rattle.fields.specs.Memory.{field_known, fields_known, jump_of, with_jump, field_jumps, statement_numbers, label_numbers}
use Rattle.fields.specs.Memory.{packed_jump, jumping, jumping_as, packed_field, label_of, unpacked, jump_in}

-- ---- names

-- a test of three, taken in two ways
both_both : (s t u : Bool) → pick (pick s t false) u false ≡ pick s (pick t u false) false
unfolding pick
both_both true t u = refl
both_both false t u = refl

both_true : (t : Bool) → pick t true false ≡ t
unfolding pick
both_true true = refl
both_true false = refl

known_append : (l m : List Field) → fields_known (l ++ m) ≡ pick (fields_known l) (fields_known m) false
unfolding fields_known
known_append [] m = unfold pick in refl
known_append (f ∷ l) m =
    ap (λ t. pick (field_known f) t false) (known_append l m) ∙ sym (both_both (field_known f) (fields_known l) (fields_known m))

expression_known : (e : Expression) → fields_known (expression_fields e) ≡ all_known e
unfolding expression_fields fields_known all_known pick
expression_known (word w) = both_true (is_known w)
expression_known (constant n) = refl
expression_known (negated e) = expression_known e
expression_known (inverted e) = expression_known e
expression_known (binary o l r) =
    known_append (expression_fields l) (expression_fields r) ∙ ap₂ (λ t u. pick t u false) (expression_known l) (expression_known r)

simple_known : (u : Simple) → fields_known (simple_fields u) ≡ known_simple u
unfolding fields_known pick
simple_known (set w e) = ap (λ t. pick (is_known w) t false) (expression_known e)
simple_known (send e) = expression_known e
simple_known (goto l) = refl

condition_known : (c : Condition) → fields_known (condition_fields c) ≡ known_condition c
unfolding fields_known condition_fields known_condition pick
condition_known (compares r a b) =
    known_append (expression_fields a) (expression_fields b) ∙ ap₂ (λ t u. pick t u false) (expression_known a) (expression_known b)
condition_known (joins w a b) =
    known_append (condition_fields a) (condition_fields b) ∙ ap₂ (λ t u. pick t u false) (condition_known a) (condition_known b)

-- a mark in front of fields
mark_known : (f : Field) (fs : List Field) → field_known f ≡ true → fields_known (f ∷ fs) ≡ fields_known fs
unfolding fields_known pick
mark_known f fs e = rw e refl

-- behind START or ELSE: an instruction, and others
part_known : (f : Field) → field_known f ≡ true → (u : Simple) (fs : List Field)
    → fields_known (f ∷ (simple_fields u ++ fs)) ≡ pick (known_simple u) (fields_known fs) false
part_known f e u fs =
    mark_known f (simple_fields u ++ fs) e ∙ known_append (simple_fields u) fs ∙ ap (λ t. pick t (fields_known fs) false) (simple_known u)

last_known : fields_known (Finish ∷ []) ≡ true
unfolding fields_known pick
last_known = refl

first_known : fields_known (Start ∷ []) ≡ true
unfolding fields_known pick
first_known = refl

asked_known : (c : Condition) (fs : List Field) → fields_known (If ∷ (condition_fields c ++ fs)) ≡ pick (known_condition c) (fields_known fs) false
asked_known c fs =
    mark_known If (condition_fields c ++ fs) refl
    ∙ known_append (condition_fields c) fs
    ∙ ap (λ t. pick t (fields_known fs) false) (condition_known c)

closed_known : (f : Field) → field_known f ≡ true → (u : Simple) → fields_known (f ∷ (simple_fields u ++ (Finish ∷ []))) ≡ known_simple u
closed_known f e u =
    part_known f e u (Finish ∷ []) ∙ ap (λ t. pick (known_simple u) t false) last_known ∙ both_true (known_simple u)

pub known_fields : (i : Instruction) → fields_known (instruction_fields i) ≡ known i
known_fields (simple u) = simple_known u
known_fields (if_then c u) =
    asked_known c (Start ∷ (simple_fields u ++ (Finish ∷ []))) ∙ ap (λ t. pick (known_condition c) t false) (closed_known Start refl u)
known_fields (if_else c u w) =
    asked_known c (Start ∷ (simple_fields u ++ (Else ∷ (simple_fields w ++ (Finish ∷ [])))))
    ∙ ap (λ t. pick (known_condition c) t false)
    (part_known Start refl u (Else ∷ (simple_fields w ++ (Finish ∷ [])))
    ∙ ap (λ t. pick (known_simple u) t false) (closed_known Else refl w))
known_fields (if_start c) =
    asked_known c (Start ∷ []) ∙ ap (λ t. pick (known_condition c) t false) first_known ∙ both_true (known_condition c)

-- ---- jumps

pub jumps_append : (l m : List Field) → field_jumps (l ++ m) ≡ field_jumps l ++ field_jumps m
unfolding field_jumps
jumps_append [] m = refl
jumps_append (f ∷ l) m = ap (with_jump (jump_of f)) (jumps_append l m) ∙ by_jump (jump_of f)
  where
    by_jump : (j : Option ℕ) → with_jump j (field_jumps l ++ field_jumps m) ≡ with_jump j (field_jumps l) ++ field_jumps m
    by_jump (Some n) = refl
    by_jump None = refl

expression_jumps : (e : Expression) → field_jumps (expression_fields e) ≡ []
unfolding expression_fields field_jumps
expression_jumps (word w) = refl
expression_jumps (constant n) = refl
expression_jumps (negated e) = expression_jumps e
expression_jumps (inverted e) = expression_jumps e
expression_jumps (binary o l r) =
    jumps_append (expression_fields l) (expression_fields r) ∙ ap₂ ◌++◌ (expression_jumps l) (expression_jumps r)

simple_jumps_law : (u : Simple) → field_jumps (simple_fields u) ≡ simple_jumps u
unfolding field_jumps
simple_jumps_law (set w e) = expression_jumps e
simple_jumps_law (send e) = expression_jumps e
simple_jumps_law (goto l) = refl

asked_jumps : (c : Condition) → field_jumps (condition_fields c) ≡ []
unfolding field_jumps condition_fields
asked_jumps (compares r a b) =
    jumps_append (expression_fields a) (expression_fields b) ∙ ap₂ ◌++◌ (expression_jumps a) (expression_jumps b)
asked_jumps (joins w a b) = jumps_append (condition_fields a) (condition_fields b) ∙ ap₂ ◌++◌ (asked_jumps a) (asked_jumps b)

condition_jumps : (c : Condition) (fs : List Field) → field_jumps (condition_fields c ++ fs) ≡ field_jumps fs
condition_jumps c fs = jumps_append (condition_fields c) fs ∙ ap (λ l. l ++ field_jumps fs) (asked_jumps c)

part_jumps : (u : Simple) (fs : List Field) → field_jumps (simple_fields u ++ fs) ≡ simple_jumps u ++ field_jumps fs
part_jumps u fs = jumps_append (simple_fields u) fs ∙ ap (λ l. l ++ field_jumps fs) (simple_jumps_law u)

closed_jumps : (u : Simple) → field_jumps (simple_fields u ++ (Finish ∷ [])) ≡ simple_jumps u
closed_jumps u = part_jumps u (Finish ∷ []) ∙ by_simple u
  where
    by_simple : (u : Simple) → simple_jumps u ++ field_jumps (Finish ∷ []) ≡ simple_jumps u
    by_simple (set w e) = unfold field_jumps in refl
    by_simple (send e) = unfold field_jumps in refl
    by_simple (goto l) = unfold field_jumps in refl

pub jumps_fields : (i : Instruction) → field_jumps (instruction_fields i) ≡ jumps_in i
unfolding field_jumps jumps_in
jumps_fields (simple u) = simple_jumps_law u
jumps_fields (if_then c u) = condition_jumps c (Start ∷ (simple_fields u ++ (Finish ∷ []))) ∙ closed_jumps u
jumps_fields (if_else c u w) =
    condition_jumps c (Start ∷ (simple_fields u ++ (Else ∷ (simple_fields w ++ (Finish ∷ [])))))
    ∙ part_jumps u (Else ∷ (simple_fields w ++ (Finish ∷ [])))
    ∙ ap (λ l. simple_jumps u ++ l) (closed_jumps w)
jumps_fields (if_start c) = condition_jumps c (Start ∷ [])

-- ---- what is packed comes out again

label_below : (l : ℕ) → is_label l ≡ true → l < label_numbers
label_below l e =
    let two = chosen_second (eqb l 0) false (leb l greatest_label) true (λ z. let y : ◌≡◌ {A = ℕ} 0 1 = cc in omega arith) e in
    let h = leb-true l greatest_label two.1 in
    omega arith

module _ (k l : ℕ) (label_too : is_label l ≡ true) where
  label_again : label_of (packed_jump k l) ≡ l
  label_again = let h = label_below l label_too in omega arith

  statement_again : k < statement_numbers → packed_jump k l / label_numbers ≡ k
  statement_again few = let h = label_below l label_too in omega arith

  jump_again : k < statement_numbers → jump_in (packed_jump k l) ≡ jump k l
  jump_again few = ap₂ jump (statement_again few) label_again

-- fields that do not jump, and those that do
by_field : (P : Field → Option ℕ → Type 0) → ((l : ℕ) → P (Goto l) (Some l)) → ((f : Field) → jump_of f ≡ None → P f None) → (f : Field) → P f (jump_of f)
by_field P to none Else = none Else refl
by_field P to none Start = none Start refl
by_field P to none Finish = none Finish refl
by_field P to none If = none If refl
by_field P to none Send = none Send refl
by_field P to none Neg = none Neg refl
by_field P to none Not = none Not refl
by_field P to none (Binary o) = none (Binary o) refl
by_field P to none (Compare r) = none (Compare r) refl
by_field P to none (Word w) = none (Word w) refl
by_field P to none (Constant n) = none (Constant n) refl
by_field P to none (Set w) = none (Set w) refl
by_field P to none (Goto l) = to l
by_field P to none (Run w n) = none (Run w n) refl

-- one field behind another
pub jumps_twice : (to from : ℕ → ℕ) (f : Field) → jumping to (jumping from f) ≡ jumping (λ l. to (from l)) f
jumps_twice to from f =
    by_field (λ f j. jumping to (jumping_as from f j) ≡ jumping_as (λ l. to (from l)) f j) (λ l. refl) (λ f e. rw e refl) f

all_two : (l : ℕ) (ls : List ℕ) → all is_label (l ∷ ls) ≡ true → (is_label l ≡ true) × (all is_label ls ≡ true)
unfolding all
all_two l ls e = both_yes (is_label l) (all is_label ls) e

module _ (k : ℕ) where
  field_again : (f : Field) (ls : List ℕ) → all is_label (with_jump (jump_of f) ls) ≡ true → (unpacked (packed_field k f) ≡ f) × (all is_label ls ≡ true)
  field_again =
      by_field (λ f j. (ls : List ℕ) → all is_label (with_jump j ls) ≡ true → (jumping label_of (jumping_as (packed_jump k) f j) ≡ f) × (all is_label ls ≡ true))
      (λ l ls e. let two = all_two l ls e in (ap Goto (label_again k l two.0), two.1))
      (λ f no_jump ls e. (rw no_jump refl, e))

  pub fields_again : (fs : List Field) → all is_label (field_jumps fs) ≡ true → map unpacked (map (packed_field k) fs) ≡ fs
  unfolding field_jumps
  fields_again [] e = refl
  fields_again (f ∷ fs) e =
      let two = field_again f (field_jumps fs) e in ap₂ ◌∷◌ two.0 (fields_again fs two.1)

  field_jumps_again : k < statement_numbers → (f : Field) (ls : List ℕ) (gs hs : List ℕ) → all is_label (with_jump (jump_of f) ls) ≡ true
      → map jump_in gs ≡ map (jump k) hs
      → map jump_in (with_jump (jump_of (packed_field k f)) gs) ≡ map (jump k) (with_jump (jump_of f) hs)
  field_jumps_again few =
      by_field (λ f j. (ls gs hs : List ℕ) → all is_label (with_jump j ls) ≡ true → map jump_in gs ≡ map (jump k) hs
      → map jump_in (with_jump (jump_of (jumping_as (packed_jump k) f j)) gs) ≡ map (jump k) (with_jump j hs))
      (λ l ls gs hs e same. ap₂ ◌∷◌ (jump_again k l (all_two l ls e).0 few) same)
      (λ f no_jump ls gs hs e same. rw no_jump same)

  pub jumps_again : k < statement_numbers → (fs : List Field) → all is_label (field_jumps fs) ≡ true
      → map jump_in (field_jumps (map (packed_field k) fs)) ≡ map (jump k) (field_jumps fs)
  unfolding field_jumps
  jumps_again few [] e = refl
  jumps_again few (f ∷ fs) e =
      field_jumps_again few f (field_jumps fs) (field_jumps (map (packed_field k) fs)) (field_jumps fs) e
      (jumps_again few fs (field_again f (field_jumps fs) e).1)

-- ---- instructions with other jumps

map_append : {A B : Type 0} (f : A → B) (xs ys : List A) → map f (xs ++ ys) ≡ map f xs ++ map f ys
map_append f [] ys = refl
map_append f (x ∷ xs) ys = ap (λ l. f x ∷ l) (map_append f xs ys)

module _ (to : ℕ → ℕ) where
  expression_stays : (e : Expression) → map (jumping to) (expression_fields e) ≡ expression_fields e
  unfolding expression_fields
  expression_stays (word w) = refl
  expression_stays (constant n) = refl
  expression_stays (negated e) = ap (λ l. Neg ∷ l) (expression_stays e)
  expression_stays (inverted e) = ap (λ l. Not ∷ l) (expression_stays e)
  expression_stays (binary o l r) =
      ap (λ k. Binary o ∷ k)
      (map_append (jumping to) (expression_fields l) (expression_fields r) ∙ ap₂ ◌++◌ (expression_stays l) (expression_stays r))

  condition_stays : (c : Condition) → map (jumping to) (condition_fields c) ≡ condition_fields c
  unfolding condition_fields
  condition_stays (compares r a b) =
      ap (λ k. Compare r ∷ k)
      (map_append (jumping to) (expression_fields a) (expression_fields b) ∙ ap₂ ◌++◌ (expression_stays a) (expression_stays b))
  condition_stays (joins w a b) =
      ap (λ k. Run w 0 ∷ k)
      (map_append (jumping to) (condition_fields a) (condition_fields b) ∙ ap₂ ◌++◌ (condition_stays a) (condition_stays b))

  simple_retargeted : (u : Simple) → map (jumping to) (simple_fields u) ≡ simple_fields (retarget to u)
  simple_retargeted (set w e) = ap (λ l. Set w ∷ l) (expression_stays e)
  simple_retargeted (send e) = ap (λ l. Send ∷ l) (expression_stays e)
  simple_retargeted (goto s) = refl

  part_retargeted : (x : Part) → map (jumping to) (part_fields x) ≡ part_fields (retarget_part to x)
  unfolding part_fields retarget_part
  part_retargeted end = refl
  part_retargeted (plain u l) =
      map_append (jumping to) (simple_fields u) (part_fields l) ∙ ap₂ ◌++◌ (simple_retargeted u) (part_retargeted l)
  part_retargeted (when c x l) =
      ap (λ k. If ∷ k)
      (map_append (jumping to) (condition_fields c) (Start ∷ (part_fields x ++ (Finish ∷ part_fields l)))
      ∙ ap₂ ◌++◌
      (condition_stays c)
      (ap (λ k. Start ∷ k)
      (map_append (jumping to) (part_fields x) (Finish ∷ part_fields l)
      ∙ ap₂ ◌++◌ (part_retargeted x) (ap (λ k. Finish ∷ k) (part_retargeted l)))))
  part_retargeted (either c x y l) =
      ap (λ k. If ∷ k)
      (map_append (jumping to) (condition_fields c) (Start ∷ (part_fields x ++ (Else ∷ (part_fields y ++ (Finish ∷ part_fields l)))))
      ∙ ap₂ ◌++◌
      (condition_stays c)
      (ap (λ k. Start ∷ k)
      (map_append (jumping to) (part_fields x) (Else ∷ (part_fields y ++ (Finish ∷ part_fields l)))
      ∙ ap₂ ◌++◌
      (part_retargeted x)
      (ap (λ k. Else ∷ k)
      (map_append (jumping to) (part_fields y) (Finish ∷ part_fields l)
      ∙ ap₂ ◌++◌ (part_retargeted y) (ap (λ k. Finish ∷ k) (part_retargeted l)))))))

  twice_all : (fs : List Field) → map (jumping (λ p. to (label_of p))) fs ≡ map (jumping to) (map unpacked fs)
  twice_all [] = refl
  twice_all (f ∷ fs) = ap₂ ◌∷◌ (sym (jumps_twice to label_of f)) (twice_all fs)

  -- the fields of instructions whose jumps are led
  pub led_part : (fs : List Field) (x : Part) → map unpacked fs ≡ part_fields x → map (jumping (λ p. to (label_of p))) fs ≡ part_fields (retarget_part to x)
  led_part fs x e = twice_all fs ∙ ap (map (jumping to)) e ∙ part_retargeted x
