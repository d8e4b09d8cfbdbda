-- The reader's tests of an order say what `Good` says of it.
use Prim.Native.Nat.{ℕ, ◌+◌, ◌≤◌, ◌<◌}
use mathlib.Core.Path.{◌≡◌, refl, sym, ap, ◌∙◌}
use mathlib.Core.Bool.{Bool, true, false}
use mathlib.Core.List.{List}
use native.Mathlib.Omega.{arith}
use borrow.Author.Tests.{lt-ltb, le-ltb, ltb-true, ltb-false}
use lib.Dec.{ltb}
use lib.ListN.{length, get_or}
use Rattle.base.specs.Choice.{pick}
use Rattle.base.proofs.Cases.{by_test}
use Rattle.text.specs.Pieces.{greatest_number}
use Rattle.order.specs.declared.Order.{Order}
use Rattle.order.specs.declared.Order.TheVariants.{Word, Number, Store, Neg, Not, Jump, Skip, Branch, Cond, Send, Stop}
use Rattle.order.specs.Limits.{most_variables, most_temporaries, most_orders}
use Rattle.order.specs.Order.{operand}
use Rattle.order.specs.Object.{operand_refusal, is_stop}
use Rattle.order.specs.Good.{WordFits, OperandFits, Good}

-- ---- 23 and 24

word_passes : (v t w : ℕ) → WordFits v t w → ◌≡◌ {A = ℕ} (pick (ltb w 2) 23 (pick (ltb w (v + t + 2)) 0 23)) 0
unfolding pick
word_passes v t w h = rw (le-ltb w 2 (omega (arith, h.0)), lt-ltb w (v + t + 2) (omega (arith, h.1))) refl

passed_word : (below inside : Bool) → ◌≡◌ {A = ℕ} (pick below 23 (pick inside 0 23)) 0 → (below ≡ false) × (inside ≡ true)
unfolding pick
passed_word true inside e = absurd (omega (arith, e))
passed_word false true e = (refl, refl)
passed_word false false e = absurd (omega (arith, e))

word_fits : (v t w : ℕ) → ◌≡◌ {A = ℕ} (pick (ltb w 2) 23 (pick (ltb w (v + t + 2)) 0 23)) 0 → WordFits v t w
word_fits v t w e =
    let both = passed_word (ltb w 2) (ltb w (v + t + 2)) e in (ltb-false w 2 both.0, ltb-true w (v + t + 2) both.1)

address_passes : (n a : ℕ) → a < n → ◌≡◌ {A = ℕ} (pick (ltb a n) 0 24) 0
unfolding pick
address_passes n a h = rw (lt-ltb a n h) refl

passed_address : (inside : Bool) → ◌≡◌ {A = ℕ} (pick inside 0 24) 0 → inside ≡ true
unfolding pick
passed_address true e = refl
passed_address false e = absurd (omega (arith, e))

address_fits : (n a : ℕ) → ◌≡◌ {A = ℕ} (pick (ltb a n) 0 24) 0 → a < n
address_fits n a e = ltb-true a n (passed_address (ltb a n) e)

module _ (v t n : ℕ) where
  pub fits_passes : (o : Order) → OperandFits v t n o → operand_refusal (v + t + 2) n o ≡ 0
  fits_passes (Word f w) h = word_passes v t w h
  fits_passes (Number f k) h = refl
  fits_passes (Store w) h = word_passes v t w h
  fits_passes Neg h = refl
  fits_passes Not h = refl
  fits_passes (Jump a) h = address_passes n a (omega (arith, h))
  fits_passes (Skip a) h = address_passes n a (omega (arith, h))
  fits_passes (Branch r a) h = address_passes n a (omega (arith, h))
  fits_passes (Cond k) h = refl
  fits_passes Send h = refl
  fits_passes Stop h = refl

  pub passed_fits : (o : Order) → operand o ≤ greatest_number → operand_refusal (v + t + 2) n o ≡ 0 → OperandFits v t n o
  passed_fits (Word f w) small e = word_fits v t w e
  passed_fits (Number f k) small e = small
  passed_fits (Store w) small e = word_fits v t w e
  passed_fits Neg small e = tt
  passed_fits Not small e = tt
  passed_fits (Jump a) small e = address_fits n a e
  passed_fits (Skip a) small e = address_fits n a e
  passed_fits (Branch r a) small e = address_fits n a e
  passed_fits (Cond k) small e = small
  passed_fits Send small e = tt
  passed_fits Stop small e = tt

  -- what fits is a number of a record, where the limits are kept
  small_operand : v ≤ most_variables → t ≤ most_temporaries → n ≤ most_orders → (o : Order) → OperandFits v t n o → operand o ≤ greatest_number
  small_operand a b c (Word f w) h = omega (arith, a, b, h.1)
  small_operand a b c (Number f k) h = h
  small_operand a b c (Store w) h = omega (arith, a, b, h.1)
  small_operand a b c Neg h = omega arith
  small_operand a b c Not h = omega arith
  small_operand a b c (Jump x) h = omega (arith, c, h)
  small_operand a b c (Skip x) h = omega (arith, c, h)
  small_operand a b c (Branch r x) h = omega (arith, c, h)
  small_operand a b c (Cond k) h = h
  small_operand a b c Send h = omega arith
  small_operand a b c Stop h = omega arith

pub numbers_small : (v t : ℕ) (os : List Order) → Good v t os → (k : ℕ) → k < length os → operand (get_or os k Stop) ≤ greatest_number
numbers_small v t os g k h =
    small_operand v t (length os) g.variables g.temporaries g.few_orders (get_or os k Stop) (g.operands k h)

-- ---- STOP

never : {P : Type 0} → false ≡ true → P
unfolding pick
never e = let z : ◌≡◌ {A = ℕ} 1 0 = ap (λ b. pick b 0 1) e in absurd (omega (arith, z))

pub stop_told : (o : Order) → is_stop o ≡ true → o ≡ Stop
stop_told (Word f w) e = never e
stop_told (Number f n) e = never e
stop_told (Store w) e = never e
stop_told Neg e = never e
stop_told Not e = never e
stop_told (Jump a) e = never e
stop_told (Skip a) e = never e
stop_told (Branch r a) e = never e
stop_told (Cond n) e = never e
stop_told Send e = never e
stop_told Stop e = refl

pub other_told : (o : Order) → (o ≡ Stop → ⊥) → is_stop o ≡ false
other_told o other = by_test (is_stop o) (λ e. absurd (other (stop_told o e))) (λ e. e)

pub not_stop : (o : Order) → is_stop o ≡ false → o ≡ Stop → ⊥
not_stop o e same = never (sym e ∙ ap is_stop same)
