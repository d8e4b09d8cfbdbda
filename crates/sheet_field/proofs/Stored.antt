-- Fields that are stored by their numbers and what they carry, read back.
use Prim.Native.Nat.{ℕ, zero, suc, ◌+◌, ◌-◌, ◌<◌, ◌≤◌}
use mathlib.Core.Path.{◌≡◌, refl, sym, ap, ap₂, ◌∙◌}
use mathlib.Core.List.{List, [], ◌∷◌, ◌++◌, map}
use native.Mathlib.Omega.{arith}
use lib.ListN.{length, get_or, set, take, get_or-eq_default}
use lib.Seq.{drop-cons, get_or-set_same, get_or-set_other}
use Rattle.base.specs.Places.{each}
use Rattle.base.proofs.Cases.{by_less}
use Rattle.base.proofs.Places.{each_length, each_parted, each_same, from_more, from_over}
use Rattle.word.specs.declared.Relation.TheVariants.{Equal, Unequal, Less, AtMost, Greater, AtLeast}
use Rattle.sheet.specs.declared.Operator.TheVariants.{Plus, Minus, Times, Over, Power, Left, Right, And, Or, Unlike}
use Rattle.sheet.specs.declared.Joining.TheVariants.{And as Both, Or as Either}
use Rattle.sheet.specs.declared.Field.{Field}
use Rattle.sheet.specs.declared.Field.TheVariants.{Else, Start, Finish, If, Send, Neg, Not, Binary, Compare, Word, Constant, Set, Goto, Run}
use Rattle.order.proofs.Numbers.{high, low}
use Rattle.sheet_field.specs.Memory.{kind, carried, shapes, field_of, field_word, field_in, fields_at, fields_from}
use Rattle.sheet_field.proofs.Numbering.{no_field}

pub field_again : (f : Field) → field_of (kind f) (carried f) ≡ f
unfolding shapes field_of
field_again Else = refl
field_again Start = refl
field_again Finish = refl
field_again If = refl
field_again Send = refl
field_again Neg = refl
field_again Not = refl
field_again (Word w) = refl
field_again (Constant n) = refl
field_again (Set w) = refl
field_again (Goto s) = refl
field_again (Run Both n) = refl
field_again (Run Either n) = refl
field_again (Compare Equal) = refl
field_again (Compare Unequal) = refl
field_again (Compare Less) = refl
field_again (Compare AtMost) = refl
field_again (Compare Greater) = refl
field_again (Compare AtLeast) = refl
field_again (Binary Plus) = refl
field_again (Binary Minus) = refl
field_again (Binary Times) = refl
field_again (Binary Over) = refl
field_again (Binary Power) = refl
field_again (Binary Left) = refl
field_again (Binary Right) = refl
field_again (Binary And) = refl
field_again (Binary Or) = refl
field_again (Binary Unlike) = refl

-- a number past the last field's stands for ELSE, whose number is 0
pub kind_below : (f : Field) → kind f < 29
kind_below f =
    by_less (kind f) 29 (λ l. l)
    (λ g. let past : kind f ≡ 0 = ap kind (sym (field_again f) ∙ sym (no_field (kind f) (carried f) g)) in absurd (omega arith))

-- what is packed comes out again
pub field_in_law : (f : Field) → carried f < 4294967296 → field_in (field_word f) ≡ f
field_in_law f h = ap₂ field_of (high (kind f) (carried f) h) (low (kind f) (carried f) h) ∙ field_again f

-- fields in memory are what stands at each place
pub fields_each : (k n : ℕ) (ws : List ℕ) → fields_from k n ws ≡ each (λ i. field_in (get_or ws i 0)) k n
unfolding each fields_from
fields_each k zero ws = refl
fields_each k (suc n) ws = ap (λ l. field_in (get_or ws k 0) ∷ l) (fields_each (suc k) n ws)

pub fields_length : (k n : ℕ) (ws : List ℕ) → length (fields_from k n ws) ≡ n
fields_length k n ws = ap length (fields_each k n ws) ∙ each_length _ k n

-- those that are left at place k of n
module _ (ws : List ℕ) where
  pub fields_more : (k n : ℕ) → k < n → fields_from k (n - k) ws ≡ field_in (get_or ws k 0) ∷ fields_from (k + 1) (n - (k + 1)) ws
  fields_more = from_more (λ i. field_in (get_or ws i 0)) (λ k n. fields_from k n ws) (λ k n. fields_each k n ws)

  pub fields_over : (k n : ℕ) → n ≤ k → fields_from k (n - k) ws ≡ []
  fields_over = from_over (λ i. field_in (get_or ws i 0)) (λ k n. fields_from k n ws) (λ k n. fields_each k n ws)

-- the first m of m + n fields, and those behind them
pub fields_parted : (k m n : ℕ) (ws : List ℕ) → fields_from k (m + n) ws ≡ fields_from k m ws ++ fields_from (k + m) n ws
fields_parted k m n ws =
    fields_each k (m + n) ws ∙ each_parted _ k m n ∙ ap₂ ◌++◌ (sym (fields_each k m ws)) (sym (fields_each (k + m) n ws))

-- arrays that agree at the places have the same fields there
pub fields_same : (k n : ℕ) (ws us : List ℕ) → ((i : ℕ) → k ≤ i → i < k + n → get_or ws i 0 ≡ get_or us i 0)
    → fields_from k n ws ≡ fields_from k n us
fields_same k n ws us e =
    fields_each k n ws ∙ each_same _ _ k n (λ i h g. ap field_in (e i h g)) ∙ sym (fields_each k n us)

-- a field stored at a place is not seen among those before it, nor among those behind it
pub fields_before_law : (k n p : ℕ) (a : ℕ) (ws : List ℕ) → k + n ≤ p → fields_from k n (set ws p a) ≡ fields_from k n ws
fields_before_law k n p a ws h = fields_same k n (set ws p a) ws (λ i g l. get_or-set_other ws p i a 0 (omega arith))

pub fields_behind : (k n p : ℕ) (a : ℕ) (ws : List ℕ) → p < k → fields_from k n (set ws p a) ≡ fields_from k n ws
fields_behind k n p a ws h = fields_same k n (set ws p a) ws (λ i g l. get_or-set_other ws p i a 0 (omega arith))

-- a field stored behind n others
pub field_stored : (k n : ℕ) (f : Field) (ws : List ℕ) → carried f < 4294967296 → k + n < length ws
    → fields_from k (n + 1) (set ws (k + n) (field_word f)) ≡ fields_from k n ws ++ (f ∷ [])
unfolding fields_from
field_stored k n f ws small h =
    let old = fields_before_law k n (k + n) (field_word f) ws (omega arith) in
    let new = ap field_in (get_or-set_same ws (k + n) (field_word f) 0 h) ∙ field_in_law f small in
    fields_parted k n 1 (set ws (k + n) (field_word f)) ∙ ap₂ (λ l x. l ++ (x ∷ [])) old new

-- the n fields from a place on are the first n of those that the array holds from there on
pub fields_held : (k n : ℕ) (ws : List ℕ) → k + n ≤ length ws → fields_from k n ws ≡ take n (fields_at k ws)
unfolding fields_from
fields_held k zero ws h = refl
fields_held k (suc n) ws h =
    ap (λ l. field_in (get_or ws k 0) ∷ l) (fields_held (suc k) n ws (omega arith))
    ∙ sym (ap (λ l. take (suc n) (map field_in l)) (drop-cons ws k 0 (omega arith)))

take_map : (n : ℕ) (ws : List ℕ) → take n (map field_in ws) ≡ map field_in (take n ws)
take_map zero ws = refl
take_map (suc n) [] = refl
take_map (suc n) (w ∷ ws) = ap (λ l. field_in w ∷ l) (take_map n ws)

-- the first n fields are those of the first n words
pub fields_front : (n : ℕ) (ws : List ℕ) → n ≤ length ws → fields_from 0 n ws ≡ fields_at 0 (take n ws)
fields_front n ws h = fields_held 0 n ws (omega (arith, h)) ∙ take_map n ws

-- where the array has ended there is ELSE
pub field_ended : (ws : List ℕ) (i : ℕ) → length ws ≤ i → Else ≡ field_in (get_or ws i 0)
unfolding field_of shapes
field_ended ws i h = ap field_in (sym (get_or-eq_default ws 0 {n = i} h))
