-- Orders by their places, and the orders before a place.
use Prim.Native.Nat.{ℕ, zero, suc, ◌+◌, ◌-◌, ◌≤◌}
use mathlib.Core.Path.{◌≡◌, refl, sym, ap, ◌∙◌}
use mathlib.Core.List.{List, [], ◌∷◌, ◌++◌, map}
use native.Mathlib.Omega.{arith}
use lib.ListN.{length, get_or, take, drop, length-append, length-map, length-drop}
use lib.Seq.{drop-drop, drop-append_seam}
use Rattle.order.specs.declared.Order.{Order}
use Rattle.order.specs.declared.Order.TheVariants.{Stop}
use Rattle.order.specs.Memory.{order_in}
use Rattle.untranslate_expression.specs.Internal.{orders_at, first_order}

pub orders_length : (at : ℕ) (os : List ℕ) → length (orders_at at os) ≡ length os - at
orders_length at os = length-map (drop at os) order_in ∙ length-drop at os

drop_map : {A B : Type 0} (f : A → B) (k : ℕ) (l : List A) → map f (drop k l) ≡ drop k (map f l)
drop_map f zero l = refl
drop_map f (suc k) [] = refl
drop_map f (suc k) (a ∷ l) = drop_map f k l

orders_on : (os : List ℕ) (p k : ℕ) → orders_at (p + k) os ≡ drop k (orders_at p os)
orders_on os p k = ap (map order_in) (sym (drop-drop k p os)) ∙ drop_map order_in k (drop p os)

pub orders_past : (os : List ℕ) (p q : ℕ) (c l : List Order) → orders_at p os ≡ c ++ l → p + length c ≡ q → orders_at q os ≡ l
orders_past os p q c l e there = ap (λ k. orders_at k os) (sym there) ∙ orders_on os p (length c) ∙ ap (drop (length c)) e ∙ drop-append_seam c l

-- what is left tells the place
pub place_told :
    (os : List ℕ) (p r : ℕ) (c l : List Order)
    → orders_at p os ≡ c ++ l
    → orders_at r os ≡ l
    → 1 ≤ length l
    → r ≡ p + length c
place_told os p r c l e g some =
    omega (arith, orders_length p os, ap length e, length-append c l, orders_length r os, ap length g)

first_dropped : (k : ℕ) (l : List Order) → first_order (drop k l) ≡ get_or l k Stop
first_dropped zero [] = refl
first_dropped zero (o ∷ l) = refl
first_dropped (suc k) [] = refl
first_dropped (suc k) (o ∷ l) = first_dropped k l

pub order_told : (os : List ℕ) (p k q : ℕ) → p + k ≡ q → first_order (orders_at q os) ≡ get_or (orders_at p os) k Stop
order_told os p k q there = ap (λ n. first_order (orders_at n os)) (sym there) ∙ ap first_order (orders_on os p k) ∙ first_dropped k (orders_at p os)

-- ---- the orders before order q

take_map : {A B : Type 0} (f : A → B) (k : ℕ) (l : List A) → map f (take k l) ≡ take k (map f l)
take_map f zero l = refl
take_map f (suc k) [] = refl
take_map f (suc k) (a ∷ l) = ap (λ m. f a ∷ m) (take_map f k l)

take_front : (k : ℕ) (c l : List Order) → length c ≡ k → take k (c ++ l) ≡ c
take_front zero [] l e = refl
take_front (suc k) [] l e = absurd (omega arith)
take_front zero (o ∷ c) l e = absurd (omega arith)
take_front (suc k) (o ∷ c) l e = ap (λ m. o ∷ m) (take_front k c l (omega arith))

-- those of them from order p on
pub orders_before : (os : List ℕ) (p q : ℕ) (c l : List Order) → orders_at p os ≡ c ++ l → p + length c ≡ q → orders_at p (take q os) ≡ c
orders_before os zero q c l e there = take_map order_in q os ∙ ap (take q) e ∙ take_front q c l (omega arith)
orders_before [] (suc p) zero c l e there = absurd (omega arith)
orders_before [] (suc p) (suc q) [] l e there = refl
orders_before [] (suc p) (suc q) (o ∷ c) l e there = let z : length (o ∷ (c ++ l)) ≡ 0 = sym (ap length e) in absurd (omega arith)
orders_before (w ∷ os) (suc p) zero c l e there = absurd (omega arith)
orders_before (w ∷ os) (suc p) (suc q) c l e there = orders_before os p q c l e (omega arith)
