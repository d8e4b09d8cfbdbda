-- The header's text and its reading are inverse, within the limits.
use Prim.Native.Nat.{ℕ, ◌≤◌}
use mathlib.Core.Path.{◌≡◌, ap, ◌∙◌}
use mathlib.Core.Bool.{true, false, false≢true}
use mathlib.Core.List.{List, ◌∷◌, ◌++◌, append_assoc}
use native.Mathlib.Omega.{arith}
use borrow.Author.Tests.{lt-ltb, le-ltb, ltb-true, ltb-false}
use lib.Dec.{ltb}
use Rattle.base.specs.Choice.{pick}
use Rattle.base.specs.Text.{bytes}
use Rattle.base.specs.Front.{found, on_front}
use Rattle.base.proofs.Cases.{chosen_second}
use Rattle.base.proofs.Fronts.{let_through, both_found}
use Rattle.text.specs.Pieces.{decimal, fixed, numeral}
use Rattle.text.proofs.Fronts.{fixed_front, front_fixed}
use Rattle.text.proofs.Decimal.{numeral_decimal, decimal_numeral}
use Rattle.order.specs.Limits.{most_variables, most_temporaries, most_orders}
use Rattle.order.specs.Object.{Header, header_text, within_limits, header_at}

-- what `within_limits` tests
pub record Within (v t n : ℕ) : Type 0 where
  pub variables : v ≤ most_variables
  pub temporaries : t ≤ most_temporaries
  pub some_orders : 1 ≤ n
  pub few_orders : n ≤ most_orders

within_limits_law : (v t n : ℕ) → Within v t n → within_limits v t n ≡ true
unfolding within_limits pick
within_limits_law v t n w =
    rw (le-ltb most_variables v w.variables, le-ltb most_temporaries t w.temporaries, le-ltb most_orders n w.few_orders) (lt-ltb 0 n w.some_orders)

limits_within : (v t n : ℕ) → within_limits v t n ≡ true → Within v t n
unfolding within_limits
limits_within v t n e =
    let few_variables = chosen_second (ltb most_variables v) false _ true false≢true e in
    let few_temporaries = chosen_second (ltb most_temporaries t) false _ true false≢true few_variables.1 in
    let few_orders = chosen_second (ltb most_orders n) false _ true false≢true few_temporaries.1 in
    record {
      variables = ltb-false most_variables v few_variables.0;
      temporaries = ltb-false most_temporaries t few_temporaries.0;
      some_orders = ltb-true 0 n few_orders.1;
      few_orders = ltb-false most_orders n few_orders.0;
    }

-- the text field by field
parts : (v t n : ℕ) (rest : List ℕ)
    → header_text v t n ++ rest ≡ bytes "BOX\t" ++ (decimal v ++ 9 ∷ (decimal t ++ 9 ∷ (decimal n ++ 10 ∷ rest)))
parts v t n rest = simp append_assoc

pub header_again : (v t n : ℕ) (rest : List ℕ) → Within v t n
    → header_at (header_text v t n ++ rest) ≡ found (record { variables = v; temporaries = t; orders = n }) rest
unfolding header_at on_front pick
header_again v t n rest w =
    ap header_at (parts v t n rest)
    ∙ rw (fixed_front (bytes "BOX\t") (decimal v ++ 9 ∷ (decimal t ++ 9 ∷ (decimal n ++ 10 ∷ rest))))
    (rw (numeral_decimal 9 v (decimal t ++ 9 ∷ (decimal n ++ 10 ∷ rest)) (omega arith) (omega arith))
    (rw (numeral_decimal 9 t (decimal n ++ 10 ∷ rest) (omega arith) (omega arith))
    (rw (numeral_decimal 10 n rest (omega arith) (omega arith), within_limits_law v t n w))))

pub again_header : (h : Header) (l rest : List ℕ) → header_at l ≡ found h rest
    → (l ≡ header_text h.variables h.temporaries h.orders ++ rest) × Within h.variables h.temporaries h.orders
unfolding header_at
again_header h l rest e =
    both_found (fixed (bytes "BOX\t") l) _ e
    (λ x l₁ e₁ f₁. both_found (numeral 9 l₁) _ f₁
    (λ v l₂ e₂ f₂. both_found (numeral 9 l₂) _ f₂
    (λ t l₃ e₃ f₃. both_found (numeral 10 l₃) _ f₃
    (λ n l₄ e₄ f₄. let told = let_through (within_limits v t n) _ f₄ in
    let header_is : ◌≡◌ {A = Header} (record { variables = v; temporaries = t; orders = n }) h = cc in
    let rest_is : l₄ ≡ rest = cc in
    let front = front_fixed (bytes "BOX\t") l l₁ x e₁ in
    let variables = decimal_numeral 9 v l₁ l₂ e₂ in
    let temporaries = decimal_numeral 9 t l₂ l₃ e₃ in
    let orders = decimal_numeral 10 n l₃ l₄ e₄ in
    rw (← header_is, ← rest_is) (cc (parts v t n l₄), limits_within v t n told.0)))))
