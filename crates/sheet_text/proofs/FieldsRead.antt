-- The fields of a sheet are read back from the last to the first: what stands behind a field has been put together by then,
-- so prefix order needs no count of what is to come; a run takes as many conditions as it has members. The fields of the lines of
-- instructions are read as those instructions.
use Prim.Native.Nat.{ℕ, zero, suc, ◌≤◌}
use mathlib.Core.Path.{◌≡◌, refl, sym, ap, ap₂, ◌∙◌}
use mathlib.Core.List.{List, [], ◌∷◌, ◌++◌, append_assoc, append-nil}
use native.Mathlib.Omega.{arith}
use lib.ListN.{drop}
use Rattle.base.specs.Choice.{pick}
use Rattle.word.specs.declared.Relation.{Relation}
use Rattle.word.specs.declared.Relation.TheVariants.{Equal}
use Rattle.sheet.specs.declared.Field.{Field}
use Rattle.sheet.specs.declared.Field.TheVariants.{Else, Start, Finish, If, Send, Neg, Not, Binary, Compare, Word, Constant, Set, Goto, Run}
use Rattle.sheet.specs.declared.Joining.{Joining}
use Rattle.sheet.specs.declared.Joining.TheVariants.{And, Or}
use Rattle.sheet.specs.Sheet.{Expression, word, constant, negated, inverted, binary, Simple, set, send, goto}
use Rattle.sheet.specs.Sheet.{Condition, compares, joins, Part, end, plain, when, either}
use Rattle.sheet.specs.Condition.{same_word}
use Rattle.sheet.specs.Fields.{expression_fields, simple_fields, member_count, Place, member, rest_of, heading, condition_line}
use Rattle.sheet_line.proofs.Runs.{line_fields, same_word_law}
use Rattle.sheet_text.proofs.Flat.{when_fields, either_fields}

-- ---- what has been put together, the foremost first

-- an expression, a condition, the instructions up to the end of their part, or those of a second part
data Item : Type 0 where
  node : Expression → Item
  asked : Condition → Item
  rest : Part → Item
  second : Part → Item

-- the parts of an item, and anything where it has none
abbrev expression_of : Item → Expression
expression_of (node e) = e
expression_of (asked c) = constant 0
expression_of (rest x) = constant 0
expression_of (second x) = constant 0

abbrev condition_of : Item → Condition
condition_of (node e) = compares Equal (constant 0) (constant 0)
condition_of (asked c) = c
condition_of (rest x) = compares Equal (constant 0) (constant 0)
condition_of (second x) = compares Equal (constant 0) (constant 0)

abbrev part_of : Item → Part
part_of (node e) = end
part_of (asked c) = end
part_of (rest x) = x
part_of (second x) = x

abbrev first : {A : Type 0} → (Item → A) → A → List Item → A
first f a [] = a
first f a (x ∷ s) = f x

abbrev behind : List Item → List Item
behind [] = []
behind (x ∷ s) = s

abbrev expression : List Item → Expression
expression = first expression_of (constant 0)

abbrev part : List Item → Part
part = first part_of end

abbrev simple : Simple → List Item → List Item
simple u s = rest (plain u (part s)) ∷ behind s

-- an IF that asks c, with its first part, where a second part or what follows the IF comes behind that
abbrev whole : Condition → Part → List Item → List Item
whole c x [] = []
whole c x (node e ∷ s) = []
whole c x (asked d ∷ s) = []
whole c x (rest l ∷ s) = rest (when c x l) ∷ s
whole c x (second y ∷ s) = rest (either c x y (part s)) ∷ behind s

abbrev conditional : List Item → List Item
conditional [] = []
conditional (node e ∷ s) = []
conditional (asked c ∷ s) = whole c (part s) (behind s)
conditional (rest x ∷ s) = []
conditional (second x ∷ s) = []

-- the first n as the members of a run
unfoldable run_of : Joining → ℕ → List Item → Condition
run_of w n [] = compares Equal (constant 0) (constant 0)
run_of w zero (x ∷ s) = condition_of x
run_of w (suc zero) (x ∷ s) = condition_of x
run_of w (suc (suc n)) (x ∷ s) = joins w (condition_of x) (run_of w (suc n) s)

abbrev with_field : Field → List Item → List Item
with_field Else s = rest end ∷ second (part s) ∷ behind s
with_field Start s = s
with_field Finish s = rest end ∷ s
with_field If s = conditional s
with_field Send s = simple (send (expression s)) (behind s)
with_field Neg s = node (negated (expression s)) ∷ behind s
with_field Not s = node (inverted (expression s)) ∷ behind s
with_field (Binary o) s = node (binary o (expression s) (expression (behind s))) ∷ behind (behind s)
with_field (Compare r) s = asked (compares r (expression s) (expression (behind s))) ∷ behind (behind s)
with_field (Word w) s = node (word w) ∷ s
with_field (Constant n) s = node (constant n) ∷ s
with_field (Set w) s = simple (set w (expression s)) (behind s)
with_field (Goto n) s = simple (goto n) s
with_field (Run w n) s = asked (run_of w n s) ∷ drop n s

items : List Field → List Item
items [] = rest end ∷ []
items (f ∷ fs) = with_field f (items fs)

-- ---- they are what the fields were made of

expression_items : (e : Expression) (fs : List Field) → items (expression_fields e ++ fs) ≡ node e ∷ items fs
unfolding items expression_fields
expression_items (word w) fs = refl
expression_items (constant n) fs = refl
expression_items (negated e) fs = ap (with_field Neg) (expression_items e fs)
expression_items (inverted e) fs = ap (with_field Not) (expression_items e fs)
expression_items (binary o l r) fs =
    ap (λ gs. with_field (Binary o) (items gs)) (append_assoc (expression_fields l) (expression_fields r) fs)
    ∙ ap (with_field (Binary o))
    (expression_items l (expression_fields r ++ fs) ∙ ap (λ s. node l ∷ s) (expression_items r fs))

comparison_items : (r : Relation) (a b : Expression) (fs : List Field)
    → items (Compare r ∷ (expression_fields a ++ expression_fields b) ++ fs) ≡ asked (compares r a b) ∷ items fs
unfolding items
comparison_items r a b fs =
    ap (λ gs. with_field (Compare r) (items gs)) (append_assoc (expression_fields a) (expression_fields b) fs)
    ∙ ap (with_field (Compare r))
    (expression_items a (expression_fields b ++ fs) ∙ ap (λ s. node a ∷ s) (expression_items b fs))

-- the members of c as a run of the word w
unfoldable members : Joining → Condition → List Item
members w (compares r a b) = asked (compares r a b) ∷ []
members w (joins u a b) = pick (same_word w u) (asked a ∷ members w b) (asked (joins u a b) ∷ [])

some_members : (w : Joining) (c : Condition) → 1 ≤ member_count w c
unfolding member_count pick
some_members w (compares r a b) = omega arith
some_members And (joins And a b) = omega arith
some_members And (joins Or a b) = omega arith
some_members Or (joins And a b) = omega arith
some_members Or (joins Or a b) = omega arith

one_member : (w : Joining) (n : ℕ) (c : Condition) (s : List Item) → 1 ≤ n → run_of w (suc n) (asked c ∷ s) ≡ joins w c (run_of w n s)
unfolding run_of
one_member w zero c s h = absurd (omega arith)
one_member w (suc n) c s h = refl

-- they are joined again
joined_again : (w : Joining) (c : Condition) (s : List Item) → run_of w (member_count w c) (members w c ++ s) ≡ c
unfolding run_of member_count members pick
joined_again w (compares r a b) s = refl
joined_again And (joins And a b) s = one_member And (member_count And b) a (members And b ++ s) (some_members And b) ∙ ap (joins And a) (joined_again And b s)
joined_again And (joins Or a b) s = refl
joined_again Or (joins And a b) s = refl
joined_again Or (joins Or a b) s = one_member Or (member_count Or b) a (members Or b ++ s) (some_members Or b) ∙ ap (joins Or a) (joined_again Or b s)

all_taken : (w : Joining) (c : Condition) (s : List Item) → drop (member_count w c) (members w c ++ s) ≡ s
unfolding member_count members pick
all_taken w (compares r a b) s = refl
all_taken And (joins And a b) s = all_taken And b s
all_taken And (joins Or a b) s = refl
all_taken Or (joins And a b) s = refl
all_taken Or (joins Or a b) s = all_taken Or b s

-- what a condition is put together to, by its place: itself, or the members that the rest of a run has
abbrev waiting : Place → Condition → List Item
waiting member c = asked c ∷ []
waiting (rest_of w) c = members w c

-- the heading of a run takes its members
headed : (w : Joining) (a b : Condition) (fs : List Field) (s : List Item) → items fs ≡ members w (joins w a b) ++ s
    → items (Run w (member_count w (joins w a b)) ∷ fs) ≡ asked (joins w a b) ∷ s
unfolding items
headed w a b fs s e = rw (e, joined_again w (joins w a b) s, all_taken w (joins w a b) s) refl

run_items : (p : Place) (w : Joining) (a b : Condition) (fs : List Field) (s : List Item) → items fs ≡ members w (joins w a b) ++ s
    → items (heading p w (member_count w (joins w a b)) ++ fs) ≡ waiting p (joins w a b) ++ s
unfolding members pick
run_items member w a b fs s e = headed w a b fs s e
run_items (rest_of And) And a b fs s e = e
run_items (rest_of And) Or a b fs s e = headed Or a b fs s e
run_items (rest_of Or) And a b fs s e = headed And a b fs s e
run_items (rest_of Or) Or a b fs s e = e

member_items : (w : Joining) (a b : Condition) (s : List Item) → asked a ∷ (members w b ++ s) ≡ members w (joins w a b) ++ s
unfolding members pick
member_items w a b s = rw (same_word_law w) refl

condition_items : (p : Place) (c : Condition) (fs : List Field) → items (condition_line p c ++ fs) ≡ waiting p c ++ items fs
unfolding condition_line members
condition_items member (compares r a b) fs = comparison_items r a b fs
condition_items (rest_of w) (compares r a b) fs = comparison_items r a b fs
condition_items p (joins w a b) fs =
    let head = heading p w (member_count w (joins w a b)) in
    ap items
    (append_assoc head (condition_line member a ++ condition_line (rest_of w) b) fs
    ∙ ap (λ l. head ++ l) (append_assoc (condition_line member a) (condition_line (rest_of w) b) fs))
    ∙ run_items p w a b _ (items fs)
    (condition_items member a (condition_line (rest_of w) b ++ fs)
    ∙ ap (λ s. asked a ∷ s) (condition_items (rest_of w) b fs)
    ∙ member_items w a b (items fs))

simple_items : (u : Simple) (fs : List Field) → items (simple_fields u ++ fs) ≡ simple u (items fs)
unfolding items
simple_items (set w e) fs = ap (with_field (Set w)) (expression_items e fs)
simple_items (send e) fs = ap (with_field Send) (expression_items e fs)
simple_items (goto n) fs = refl

-- the instructions x with l behind them
join : Part → Part → Part
join end l = l
join (plain u x) l = plain u (join x l)
join (when c x y) l = when c x (join y l)
join (either c x y z) l = either c x y (join z l)

join_end : (x : Part) → join x end ≡ x
unfolding join
join_end end = refl
join_end (plain u x) = ap (plain u) (join_end x)
join_end (when c x y) = ap (when c x) (join_end y)
join_end (either c x y z) = ap (either c x y) (join_end z)

-- instructions, where l has been put together of what comes behind them
part_items : (x : Part) (fs : List Field) (l : Part) (s : List Item) → items fs ≡ rest l ∷ s → items (line_fields x ++ fs) ≡ rest (join x l) ∷ s
unfolding items line_fields join
part_items end fs l s e = e
part_items (plain u x) fs l s e =
    ap items (append_assoc (simple_fields u) (line_fields x) fs)
    ∙ simple_items u (line_fields x ++ fs)
    ∙ ap (simple u) (part_items x fs l s e)
part_items (when c x y) fs l s e =
    let after = part_items y fs l s e in
    let inner = part_items x (Finish ∷ (line_fields y ++ fs)) end _ (ap (λ t. rest end ∷ t) after) in
    ap items (when_fields c x y fs)
    ∙ ap conditional (condition_items member c (Start ∷ (line_fields x ++ (Finish ∷ (line_fields y ++ fs)))) ∙ ap (λ t. asked c ∷ t) inner)
    ∙ ap (λ z. rest (when c z (join y l)) ∷ s) (join_end x)
part_items (either c x y z) fs l s e =
    let after = part_items z fs l s e in
    let inner = part_items y (Finish ∷ (line_fields z ++ fs)) end _ (ap (λ t. rest end ∷ t) after) in
    let outer = part_items x (Else ∷ (line_fields y ++ (Finish ∷ (line_fields z ++ fs)))) end _ (ap (with_field Else) inner) in
    ap items (either_fields c x y z fs)
    ∙ ap conditional
    (condition_items member c (Start ∷ (line_fields x ++ (Else ∷ (line_fields y ++ (Finish ∷ (line_fields z ++ fs))))))
    ∙ ap (λ t. asked c ∷ t) outer)
    ∙ ap₂ (λ p q. rest (either c p q (join z l)) ∷ s) (join_end x) (join_end y)

pub instructions_of : List Field → Part
instructions_of fs = part (items fs)

pub fields_read : (x : Part) → instructions_of (line_fields x) ≡ x
unfolding instructions_of items
fields_read x = ap (λ l. part (items l)) (sym (append-nil (line_fields x))) ∙ ap part (part_items x [] end [] refl) ∙ join_end x
