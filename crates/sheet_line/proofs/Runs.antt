-- The fields of a sheet's lines are made of its fields in memory: a run's word is left out exactly where it is the rest of a run of
-- that word, and else stands with the number of its members.
use Prim.Native.Nat.{ℕ, suc, ◌+◌, ◌-◌, ◌≤◌}
use mathlib.Core.Path.{◌≡◌, refl, sym, ap, ap₂, ◌∙◌}
use mathlib.Core.Bool.{Bool, true, false}
use mathlib.Core.List.{List, [], ◌∷◌, ◌++◌, append_assoc, append-nil}
use native.Mathlib.Omega.{arith}
use borrow.Author.Tests.{lt-ltb, ne_eqb}
use Rattle.base.specs.Choice.{pick}
use Rattle.sheet.specs.declared.Joining.{Joining}
use Rattle.sheet.specs.declared.Joining.TheVariants.{And, Or}
use Rattle.sheet.specs.declared.Field.{Field}
use Rattle.sheet.specs.declared.Field.TheVariants.{Else, Start, Finish, If, Send, Neg, Not, Binary, Compare, Word, Constant, Set, Goto, Run}
use Rattle.sheet.specs.Sheet.{Expression, word, constant, negated, inverted, binary, Simple, set, send, goto}
use Rattle.sheet.specs.Sheet.{Condition, compares, joins, Part, end, plain, when, either}
use Rattle.sheet.specs.Condition.{same_word, comparisons, most_comparisons}
use Rattle.sheet.specs.Fields.{expression_fields, simple_fields, member_count, Place, member, rest_of, heading, condition_line}
use Rattle.sheet.specs.Memory.{condition_fields, part_fields}
use Rattle.sheet.specs.Within.{PartFormed}
use Rattle.sheet_line.specs.Runs.{is_rest, one_more, members_from, line_field, lined}

-- the fields of the lines of instructions
unfoldable pub line_fields : Part → List Field
line_fields end = []
line_fields (plain u l) = simple_fields u ++ line_fields l
line_fields (when c x l) = If ∷ (condition_line member c ++ (Start ∷ (line_fields x ++ (Finish ∷ line_fields l))))
line_fields (either c x y l) =
    If ∷ (condition_line member c ++ (Start ∷ (line_fields x ++ (Else ∷ (line_fields y ++ (Finish ∷ line_fields l))))))

-- ---- what has been passed, the last first

unfoldable passed : List Field → List Field → List Field
passed b [] = b
passed b (f ∷ l) = passed (f ∷ b) l

passed_append : (b xs ys : List Field) → passed b (xs ++ ys) ≡ passed (passed b xs) ys
unfolding passed
passed_append b [] ys = refl
passed_append b (x ∷ xs) ys = passed_append (x ∷ b) xs ys

-- going back over an expression, and over a condition
rest_expression : (w : Joining) (k : ℕ) (e : Expression) (b : List Field) → is_rest w k (passed b (expression_fields e)) ≡ is_rest w k b
unfolding is_rest passed expression_fields
rest_expression w k (word n) b = refl
rest_expression w k (constant n) b = refl
rest_expression w k (negated e) b = rest_expression w k e (Neg ∷ b)
rest_expression w k (inverted e) b = rest_expression w k e (Not ∷ b)
rest_expression w k (binary o x y) b =
    ap (is_rest w k) (passed_append (Binary o ∷ b) (expression_fields x) (expression_fields y))
    ∙ rest_expression w k y (passed (Binary o ∷ b) (expression_fields x))
    ∙ rest_expression w k x (Binary o ∷ b)

rest_run : (w u : Joining) (k : ℕ) (b : List Field) → is_rest w (k + 1 + 1) (Run u 0 ∷ b) ≡ is_rest w (k + 1) b
unfolding is_rest pick
rest_run w u k b =
    let less : k + 1 + 1 - 1 ≡ k + 1 = omega arith in
    rw (ne_eqb (k + 1 + 1) 0 (λ e. omega (arith, e)), ne_eqb (k + 1 + 1) 1 (λ e. omega (arith, e)), less) refl

rest_condition : (w : Joining) (k : ℕ) (c : Condition) (b : List Field) → is_rest w k (passed b (condition_fields c)) ≡ is_rest w (k + 1) b
unfolding is_rest passed condition_fields
rest_condition w k (compares r x y) b =
    ap (is_rest w k) (passed_append (Compare r ∷ b) (expression_fields x) (expression_fields y))
    ∙ rest_expression w k y (passed (Compare r ∷ b) (expression_fields x))
    ∙ rest_expression w k x (Compare r ∷ b)
rest_condition w k (joins u x y) b =
    ap (is_rest w k) (passed_append (Run u 0 ∷ b) (condition_fields x) (condition_fields y))
    ∙ rest_condition w k y (passed (Run u 0 ∷ b) (condition_fields x))
    ∙ rest_condition w (k + 1) x (Run u 0 ∷ b)
    ∙ rest_run w u k b

-- ---- the members of a run

over_expression : (w : Joining) (m n : ℕ) (e : Expression) (l : List Field) → members_from w m n (expression_fields e ++ l) ≡ members_from w m n l
unfolding members_from expression_fields
over_expression w m n (word k) l = refl
over_expression w m n (constant k) l = refl
over_expression w m n (negated e) l = over_expression w m n e l
over_expression w m n (inverted e) l = over_expression w m n e l
over_expression w m n (binary o x y) l =
    ap (members_from w m n) (append_assoc (expression_fields x) (expression_fields y) l)
    ∙ over_expression w m n x (expression_fields y ++ l)
    ∙ over_expression w m n y l

-- a condition that others follow
over_condition : (w : Joining) (m n : ℕ) (c : Condition) (l : List Field) → members_from w (m + 1) n (condition_fields c ++ l) ≡ members_from w m n l
unfolding members_from condition_fields pick
over_condition w m n (compares r x y) l =
    let less : m + 1 - 1 ≡ m = omega arith in
    rw (ne_eqb (m + 1) 0 (λ e. omega (arith, e)), less)
    (ap (members_from w m n) (append_assoc (expression_fields x) (expression_fields y) l)
    ∙ over_expression w m n x (expression_fields y ++ l)
    ∙ over_expression w m n y l)
over_condition w m n (joins u x y) l =
    rw (ne_eqb (m + 1) 0 (λ e. omega (arith, e)))
    (ap (members_from w (m + 1 + 1) n) (append_assoc (condition_fields x) (condition_fields y) l)
    ∙ over_condition w (m + 1) n x (condition_fields y ++ l)
    ∙ over_condition w m n y l)

one_more_law : (n : ℕ) → n + 1 ≤ 4294967295 → one_more n ≡ n + 1
unfolding one_more pick
one_more_law n h = rw (lt-ltb n 4294967295 (omega (arith, h))) refl

-- the rest of a run of w: it is one member, or has those of a run of w
same_run : (w : Joining) (n : ℕ) (x y : Condition) (l : List Field)
    → n + suc (member_count w y) ≤ 4294967295
    → members_from w 0 (n + 1) (condition_fields y ++ l) + 1 ≡ n + 1 + member_count w y
    → members_from w 1 (one_more n) ((condition_fields x ++ condition_fields y) ++ l) + 1 ≡ n + suc (member_count w y)
same_run w n x y l few rest =
    ap (λ k. k + 1)
    (ap (λ k. members_from w 1 k ((condition_fields x ++ condition_fields y) ++ l)) (one_more_law n (omega (arith, few)))
    ∙ ap (members_from w 1 (n + 1)) (append_assoc (condition_fields x) (condition_fields y) l)
    ∙ over_condition w 0 (n + 1) x (condition_fields y ++ l))
    ∙ rest
    ∙ omega arith

over_rest : (w : Joining) (n : ℕ) (c : Condition) (l : List Field) → n + member_count w c ≤ 4294967295
    → members_from w 0 n (condition_fields c ++ l) + 1 ≡ n + member_count w c
unfolding members_from condition_fields member_count pick
over_rest w n (compares r x y) l few = refl
over_rest And n (joins And x y) l few = same_run And n x y l few (over_rest And (n + 1) y l (omega (arith, few)))
over_rest And n (joins Or x y) l few = refl
over_rest Or n (joins And x y) l few = refl
over_rest Or n (joins Or x y) l few = same_run Or n x y l few (over_rest Or (n + 1) y l (omega (arith, few)))

pub same_word_law : (w : Joining) → same_word w w ≡ true
same_word_law And = refl
same_word_law Or = refl

pub some_comparisons : (c : Condition) → 1 ≤ comparisons c
unfolding comparisons
some_comparisons (compares r x y) = omega arith
some_comparisons (joins w x y) = omega (arith, some_comparisons x)

-- a run has no more members than comparisons
pub few_members : (w : Joining) (c : Condition) → member_count w c ≤ comparisons c
unfolding comparisons member_count pick
few_members w (compares r x y) = omega arith
few_members And (joins And x y) = omega (arith, some_comparisons x, few_members And y)
few_members And (joins Or x y) = omega (arith, some_comparisons x)
few_members Or (joins And x y) = omega (arith, some_comparisons x)
few_members Or (joins Or x y) = omega (arith, some_comparisons x, few_members Or y)

run_members : (w : Joining) (x y : Condition) (l : List Field) → comparisons (joins w x y) ≤ most_comparisons
    → members_from w 1 2 ((condition_fields x ++ condition_fields y) ++ l) ≡ member_count w (joins w x y)
unfolding member_count pick comparisons
run_members w x y l few =
    let rest = over_rest w 2 y l (omega (arith, few, few_members w y)) in
    ap (members_from w 1 2) (append_assoc (condition_fields x) (condition_fields y) l)
    ∙ over_condition w 0 2 x (condition_fields y ++ l)
    ∙ rw (same_word_law w) (omega (arith, rest))

-- ---- the fields of the lines

-- of the fields xs those of the lines are ys, whatever is before them and behind them
record Makes (xs ys : List Field) : Type 0 where
  so : (b l : List Field) → lined b (xs ++ l) ≡ ys ++ lined (passed b xs) l

both : {xs ys us vs : List Field} → Makes xs ys → Makes us vs → Makes (xs ++ us) (ys ++ vs)
both {xs} {ys} {us} {vs} p q = record {
  so = λ b l.
      ap (lined b) (append_assoc xs us l)
      ∙ p.so b (us ++ l)
      ∙ ap (λ t. ys ++ t) (q.so (passed b xs) l)
      ∙ ap (λ c. ys ++ (vs ++ lined c l)) (sym (passed_append b xs us))
      ∙ sym (append_assoc ys vs (lined (passed b (xs ++ us)) l));
}

field : (f : Field) → ((b l : List Field) → line_field b f l ≡ f ∷ []) → Makes (f ∷ []) (f ∷ [])
unfolding lined passed
field f own = record { so = λ b l. ap (λ t. t ++ lined (f ∷ b) l) (own b l) }

expression : (e : Expression) → Makes (expression_fields e) (expression_fields e)
unfolding expression_fields
expression (word w) = field (Word w) (λ b l. refl)
expression (constant n) = field (Constant n) (λ b l. refl)
expression (negated e) = both (field Neg (λ b l. refl)) (expression e)
expression (inverted e) = both (field Not (λ b l. refl)) (expression e)
expression (binary o x y) = both (field (Binary o) (λ b l. refl)) (both (expression x) (expression y))

simple : (u : Simple) → Makes (simple_fields u) (simple_fields u)
simple (set w e) = both (field (Set w) (λ b l. refl)) (expression e)
simple (send e) = both (field Send (λ b l. refl)) (expression e)
simple (goto s) = field (Goto s) (λ b l. refl)

-- the fields before a condition, by its place
abbrev is_rest_in : Place → Joining → Bool
is_rest_in member w = false
is_rest_in (rest_of u) w = same_word u w

abbrev Stands : Place → List Field → Type 0
Stands p b = (w : Joining) → is_rest w 0 b ≡ is_rest_in p w

run_field : (p : Place) (w : Joining) (n : ℕ) → pick (is_rest_in p w) [] (Run w n ∷ []) ≡ heading p w n
unfolding pick
run_field member w n = refl
run_field (rest_of u) w n = refl

first_stands : (w : Joining) (b : List Field) → Stands member (Run w 0 ∷ b)
unfolding is_rest pick
first_stands w b u = refl

rest_stands : (w : Joining) (x : Condition) (b : List Field) → Stands (rest_of w) (passed (Run w 0 ∷ b) (condition_fields x))
unfolding is_rest pick
rest_stands w x b u = rest_condition u 0 x (Run w 0 ∷ b)

condition : (p : Place) (c : Condition) → comparisons c ≤ most_comparisons → (b l : List Field) → Stands p b
    → lined b (condition_fields c ++ l) ≡ condition_line p c ++ lined (passed b (condition_fields c)) l
unfolding condition_fields condition_line comparisons lined passed
condition p (compares r x y) few b l stands =
    (both (field (Compare r) (λ b l. refl)) (both (expression x) (expression y))).so b l
condition p (joins w x y) few b l stands =
    let n = member_count w (joins w x y) in
    let start = Run w 0 ∷ b in
    let first = condition member x (omega (arith, some_comparisons y, few)) start (condition_fields y ++ l) (first_stands w b) in
    let rest = condition (rest_of w) y (omega (arith, some_comparisons x, few)) (passed start (condition_fields x)) l (rest_stands w x b) in
    ap₂ ◌++◌
    (ap₂ (λ t k. pick t [] (Run w k ∷ [])) (stands w) (run_members w x y l few) ∙ run_field p w n)
    (ap (lined start) (append_assoc (condition_fields x) (condition_fields y) l)
    ∙ first
    ∙ ap (λ t. condition_line member x ++ t) rest
    ∙ sym (append_assoc (condition_line member x) (condition_line (rest_of w) y) (lined (passed (passed start (condition_fields x)) (condition_fields y)) l)))
    ∙ sym (append_assoc (heading p w n) (condition_line member x ++ condition_line (rest_of w) y) (lined (passed (passed start (condition_fields x)) (condition_fields y)) l))
    ∙ ap (λ c. (heading p w n ++ (condition_line member x ++ condition_line (rest_of w) y)) ++ lined c l) (sym (passed_append start (condition_fields x) (condition_fields y)))

-- an IF
if_stands : (b : List Field) → Stands member (If ∷ b)
unfolding is_rest
if_stands b w = refl

asks : (c : Condition) → comparisons c ≤ most_comparisons → {xs ys : List Field} → Makes xs ys → Makes (If ∷ (condition_fields c ++ xs)) (If ∷ (condition_line member c ++ ys))
unfolding lined passed
asks c few {xs} {ys} p = record {
  so = λ b l.
      ap (λ t. If ∷ t)
      (ap (lined (If ∷ b)) (append_assoc (condition_fields c) xs l)
      ∙ condition member c few (If ∷ b) (xs ++ l) (if_stands b)
      ∙ ap (λ t. condition_line member c ++ t) (p.so (passed (If ∷ b) (condition_fields c)) l)
      ∙ ap (λ d. condition_line member c ++ (ys ++ lined d l)) (sym (passed_append (If ∷ b) (condition_fields c) xs))
      ∙ sym (append_assoc (condition_line member c) ys (lined (passed (If ∷ b) (condition_fields c ++ xs)) l)));
}

none : Makes [] []
unfolding passed
none = record { so = λ b l. refl }

part : (v n : ℕ) (x : Part) → PartFormed v n x → Makes (part_fields x) (line_fields x)
unfolding part_fields line_fields PartFormed
part v n end f = none
part v n (plain u l) f = both (simple u) (part v n l f.1)
part v n (when c x l) f =
    asks c f.0.2 (both (field Start (λ b l. refl)) (both (part v n x f.2) (both (field Finish (λ b l. refl)) (part v n l f.3))))
part v n (either c x y l) f =
    asks c f.0.2
    (both (field Start (λ b l. refl))
    (both (part v n x f.3)
    (both (field Else (λ b l. refl)) (both (part v n y f.4) (both (field Finish (λ b l. refl)) (part v n l f.5))))))

pub fields_lined : (v n : ℕ) (x : Part) → PartFormed v n x → lined [] (part_fields x) ≡ line_fields x
unfolding lined
fields_lined v n x f =
    ap (lined []) (sym (append-nil (part_fields x))) ∙ (part v n x f).so [] [] ∙ append-nil (line_fields x)
