-- The text of a field is read as that field, whichever of tab and newline stands behind it: no two fields have one text, and
-- none has the beginning of another's.
use Prim.Native.Nat.{ℕ, zero, suc, ◌+◌, ◌/◌, ◌%◌, ◌≤◌}
use mathlib.Core.Path.{◌≡◌, refl, ap, ◌∙◌}
use mathlib.Core.List.{List, [], ◌∷◌, ◌++◌, append_assoc}
use native.Mathlib.Omega.{arith}
use borrow.Author.Tests.{lt-ltb, le-ltb}
use lib.Dec.{ltb}
use lib.ListN.{get_or}
use Rattle.base.specs.Choice.{pick}
use Rattle.base.specs.Text.{bytes}
use Rattle.base.specs.Front.{found, missing, on_front}
use Rattle.base.proofs.Cases.{by_less}
use Rattle.word.specs.declared.Relation.{Relation}
use Rattle.word.specs.declared.Relation.TheVariants.{Equal, Unequal, Less, AtMost, Greater, AtLeast}
use Rattle.text.specs.Pieces.{digits_of, decimal, Front, fixed, numeral, greatest_number}
use Rattle.text.proofs.Decimal.{numeral_decimal}
use Rattle.sheet.specs.declared.Operator.{Operator}
use Rattle.sheet.specs.declared.Operator.TheVariants.{Plus, Minus, Times, Over, Power, Left, Right, And, Or, Unlike}
use Rattle.sheet.specs.declared.Field.{Field}
use Rattle.sheet.specs.declared.Field.TheVariants.{Else, Start, Finish, If, Send, Neg, Not, Binary, Compare, Word, Constant, Set, Goto, Run}
use Rattle.sheet.specs.declared.Joining.TheVariants.{And as Both, Or as Either}
use Rattle.sheet.specs.Fields.{field_text}
use Rattle.sheet_field.specs.Memory.{carried}

-- ---- a number, and the byte that closes it left where it is

pub after_digits : List ℕ → List ℕ
after_digits [] = []
after_digits (b ∷ l) = pick (ltb b 48) (b ∷ l) (after_digits l)

digit_over : (b : ℕ) (l : List ℕ) → 48 ≤ b → after_digits (b ∷ l) ≡ after_digits l
unfolding after_digits pick
digit_over b l h = rw (le-ltb b 48 h) refl

digits_over : (k n : ℕ) (l : List ℕ) → after_digits (digits_of k n ++ l) ≡ after_digits l
unfolding digits_of pick
digits_over zero n l = refl
digits_over (suc k) n l =
    by_less n 10
    (λ h. rw (lt-ltb n 10 h) (digit_over (n + 48) l (omega arith)))
    (λ h. rw (le-ltb n 10 h)
    (ap after_digits (append_assoc (digits_of k (n / 10)) ((n % 10 + 48) ∷ []) l)
    ∙ digits_over k (n / 10) ((n % 10 + 48) ∷ l)
    ∙ digit_over (n % 10 + 48) l (omega arith)))

-- what closes a field
pub data Closed : List ℕ → Type 0 where
  tab : (l : List ℕ) → Closed (9 ∷ l)
  newline : (l : List ℕ) → Closed (10 ∷ l)

pub after_number : (n : ℕ) (l : List ℕ) → Closed l → after_digits (decimal n ++ l) ≡ l
unfolding after_digits pick
after_number n l (tab r) = digits_over 10 n (9 ∷ r)
after_number n l (newline r) = digits_over 10 n (10 ∷ r)

abbrev closing : List ℕ → ℕ
closing l = get_or (after_digits l) 0 0

number_at : List ℕ → Front ℕ
number_at l = on_front (numeral (closing l) l) (λ n r. found n (closing l ∷ r)) missing

number_read : (n : ℕ) (l : List ℕ) → Closed l → n ≤ greatest_number → number_at (decimal n ++ l) ≡ found n l
unfolding number_at on_front
number_read n l (tab r) small = rw (after_number n (9 ∷ r) (tab r), numeral_decimal 9 n r small (omega arith)) refl
number_read n l (newline r) small = rw (after_number n (10 ∷ r) (newline r), numeral_decimal 10 n r small (omega arith)) refl

-- ---- a field

-- one of the fields with this text, or what is read otherwise
among_bare : List Field → List ℕ → Front Field
among_bare [] l = missing
among_bare (f ∷ fs) l = on_front (fixed (field_text f) l) (λ _ r. found f r) (among_bare fs l)

abbrev numbered : List ℕ → (ℕ → Field) → List ℕ → Front Field → Front Field
numbered name field l other = on_front (fixed name l) (λ _ r. on_front (number_at r) (λ n r₁. found (field n) r₁) missing) other

-- the fields that carry no number, each before those whose text its own begins with (`>>` before `>`)
bare : List Field
bare =
    Binary Right
    ∷ Binary Left
    ∷ Compare AtLeast
    ∷ Compare Greater
    ∷ Compare AtMost
    ∷ Compare Less
    ∷ Compare Unequal
    ∷ Compare Equal
    ∷ Binary Unlike
    ∷ Binary Or
    ∷ Binary And
    ∷ Binary Power
    ∷ Binary Over
    ∷ Binary Times
    ∷ Binary Minus
    ∷ Binary Plus
    ∷ Not
    ∷ Neg
    ∷ Send
    ∷ If
    ∷ Finish
    ∷ Start
    ∷ Else
    ∷ []

pub field_at : List ℕ → Front Field
field_at l =
    numbered (bytes "W") Word l
    (numbered (bytes "K") Constant l
    (numbered (bytes "SET\t") Set l
    (numbered (bytes "GOTO\t") Goto l
    (numbered (bytes "AND\t") (Run Both) l (numbered (bytes "OR\t") (Run Either) l (among_bare bare l))))))

-- the fields whose texts are fixed
abbrev Told : Field → List ℕ → Type 0
Told f l = (field_at (field_text f ++ 9 ∷ l) ≡ found f (9 ∷ l)) × (field_at (field_text f ++ 10 ∷ l) ≡ found f (10 ∷ l))

operator_read : (o : Operator) (l : List ℕ) → Told (Binary o) l
unfolding field_at among_bare bare fixed on_front pick bytes
operator_read Plus l = (refl, refl)
operator_read Minus l = (refl, refl)
operator_read Times l = (refl, refl)
operator_read Over l = (refl, refl)
operator_read Power l = (refl, refl)
operator_read Left l = (refl, refl)
operator_read Right l = (refl, refl)
operator_read And l = (refl, refl)
operator_read Or l = (refl, refl)
operator_read Unlike l = (refl, refl)

relation_read : (r : Relation) (l : List ℕ) → Told (Compare r) l
unfolding field_at among_bare bare fixed on_front pick bytes
relation_read Equal l = (refl, refl)
relation_read Unequal l = (refl, refl)
relation_read Less l = (refl, refl)
relation_read AtMost l = (refl, refl)
relation_read Greater l = (refl, refl)
relation_read AtLeast l = (refl, refl)

by_close : (f : Field) → ((l : List ℕ) → Told f l) → (l : List ℕ) → Closed l → field_at (field_text f ++ l) ≡ found f l
by_close f told l (tab r) = (told r).0
by_close f told l (newline r) = (told r).1

pub field_read : (f : Field) (l : List ℕ) → Closed l → carried f ≤ greatest_number → field_at (field_text f ++ l) ≡ found f l
unfolding field_at among_bare bare fixed on_front pick bytes
field_read Else l c small = by_close Else (λ r. (refl, refl)) l c
field_read Start l c small = by_close Start (λ r. (refl, refl)) l c
field_read Finish l c small = by_close Finish (λ r. (refl, refl)) l c
field_read If l c small = by_close If (λ r. (refl, refl)) l c
field_read Send l c small = by_close Send (λ r. (refl, refl)) l c
field_read Neg l c small = by_close Neg (λ r. (refl, refl)) l c
field_read Not l c small = by_close Not (λ r. (refl, refl)) l c
field_read (Binary o) l c small = by_close (Binary o) (operator_read o) l c
field_read (Compare r) l c small = by_close (Compare r) (relation_read r) l c
field_read (Word w) l c small = rw (number_read w l c small) refl
field_read (Constant n) l c small = rw (number_read n l c small) refl
field_read (Set w) l c small = rw (number_read w l c small) refl
field_read (Goto s) l c small = rw (number_read s l c small) refl
field_read (Run Both n) l c small = rw (number_read n l c small) refl
field_read (Run Either n) l c small = rw (number_read n l c small) refl

-- nothing is no field
pub no_field : field_at [] ≡ missing
unfolding field_at among_bare bare fixed on_front bytes
no_field = refl
