-- The counts of an instruction that is no IF, and of a statement's instruction.
use Prim.Native.Nat.{ℕ, ◌+◌, ◌<◌, ◌≤◌, max}
use mathlib.Core.Path.{◌≡◌, refl, sym, ap, ◌∙◌}
use mathlib.Core.List.{List, [], ◌∷◌, ◌++◌, append-nil}
use native.Mathlib.Omega.{arith}
use lib.ListN.{length, get_or, length-append}
use Rattle.order.specs.declared.Order.TheVariants.{Store, Send as SendOrder}
use Rattle.sheet.specs.declared.Field.{Field}
use Rattle.sheet.specs.declared.Field.TheVariants.{Else, Finish, If, Goto}
use Rattle.sheet.specs.Sheet.{Simple, set, send, goto}
use Rattle.sheet.specs.Fields.{simple_fields}
use Rattle.sheet.specs.Orders.{code, simple_size, simple_temporaries}
use Rattle.sheet.specs.Condition.{asking, condition_temporaries}
use Rattle.sheet_field.specs.Memory.{field_in, fields_at}
use Rattle.translate_expression.specs.Internal.{behind}
use Rattle.translate_expression.proofs.Turns.{fields_behind}
use Rattle.translate_size.specs.declared.Counted.{Counted}
use Rattle.translate_size.specs.declared.Asked.{Asked}
use Rattle.translate_size.specs.declared.Size.{Size}
use Rattle.translate_size.specs.Answers.{capped, SizeOf}
use Rattle.translate_size.specs.Internal.{Past, Measuring, Asking, Simply, Ifs}
use Rattle.translate_size.proofs.Counting.{capped_one, capped_sum, capped_max}
use Rattle.translate_size.proofs.Looking.{left_length, first_field, past_first, none_left}

-- ---- an instruction that is no IF

module _ (fs : List ℕ) (at : ℕ) (f : Field) (known : f ≡ field_in (get_or fs at 0)) (p : ℕ) (past : Past (length fs) at p) where
  module _ (not_goto : (s : ℕ) → f ≡ Goto s → ⊥) (e : Counted) (measured : Measuring fs p e) (n : ℕ) (all : n ≡ capped (e.orders + 1)) where
    pub worked_counted : Simply fs at (record { at = e.at; orders = n; temporaries = e.temporaries })
    worked_counted v (set w x) l h =
        let done = measured.whole v 0 x l (past_first fs at p _ _ past h) in
        record {
          rest = done.rest;
          its_orders =
              all
              ∙ ap (λ m. capped (m + 1)) done.its_orders
              ∙ capped_one (length (code v 0 x))
              ∙ sym (ap capped (length-append (code v 0 x) (Store w ∷ [])));
          its_temporaries = done.its_temporaries;
        }
    worked_counted v (send x) l h =
        let done = measured.whole v 0 x l (past_first fs at p _ _ past h) in
        record {
          rest = done.rest;
          its_orders =
              all
              ∙ ap (λ m. capped (m + 1)) done.its_orders
              ∙ capped_one (length (code v 0 x))
              ∙ sym (ap capped (length-append (code v 0 x) (SendOrder ∷ [])));
          its_temporaries = done.its_temporaries;
        }
    worked_counted v (goto s) l h = absurd (not_goto s (first_field fs at f _ _ known h))

-- ---- behind IF

some_simple : (u : Simple) (l : List Field) → 1 ≤ length (simple_fields u ++ l)
some_simple (set w e) l = omega arith
some_simple (send e) l = omega arith
some_simple (goto s) l = omega arith

module _ (fs : List ℕ) (c : Asked) (asks : Asking fs 1 c) (p : ℕ) (past : Past (length fs) c.at p) where
  -- nothing stands behind START
  pub if_started : length fs ≤ p → Ifs fs (record { orders = c.orders; temporaries = c.temporaries; instructions = 1; comparisons = c.comparisons })
  if_started over = record {
    few = omega arith;
    one = λ v q u e.
        let start = past_first fs c.at p _ _ past (asks.whole v q _ e).rest in
        let n = sym (left_length fs p) ∙ ap length start in
        absurd (omega (arith, n, some_simple u (Finish ∷ [])));
    two = λ v q u w e.
        let start = past_first fs c.at p _ _ past (asks.whole v q _ e).rest in
        let n = sym (left_length fs p) ∙ ap length start in
        absurd (omega (arith, n, some_simple u (Else ∷ (simple_fields w ++ (Finish ∷ [])))));
    none = λ v q e.
        let done = asks.whole v q _ e in
        record {
          its_orders = done.its_orders;
          its_temporaries = done.its_temporaries;
          its_instructions = refl;
          its_comparisons = done.its_comparisons;
        };
  }

  module _ (some : p < length fs) (u : Counted) (simply : Simply fs p u) (f : Field) (known : f ≡ field_in (get_or fs u.at 0))
      (os ts : ℕ) (sums : os ≡ capped (c.orders + u.orders)) (most : ts ≡ max c.temporaries u.temporaries) where
    both_orders : (a b : ℕ) → c.orders ≡ capped a → u.orders ≡ capped b → os ≡ capped (a + b)
    both_orders a b e f = sums ∙ rw (e, f) (capped_sum a b)

    both_temporaries : (a b : ℕ) → c.temporaries ≡ capped a → u.temporaries ≡ capped b → ts ≡ capped (max a b)
    both_temporaries a b e f = most ∙ rw (e, f) (capped_max a b)

    pub if_whole : (f ≡ Else → ⊥) → Ifs fs (record { orders = os; temporaries = ts; instructions = 2; comparisons = c.comparisons })
    if_whole no_else = record {
      few = omega arith;
      one = λ v q x e.
          let asked = asks.whole v q _ e in
          let done = simply v x _ (past_first fs c.at p _ _ past asked.rest) in
          record {
            its_orders = both_orders (asking v q) (simple_size v x) asked.its_orders done.its_orders;
            its_temporaries = both_temporaries (condition_temporaries q) (simple_temporaries x) asked.its_temporaries done.its_temporaries;
            its_instructions = refl;
            its_comparisons = asked.its_comparisons;
          };
      two = λ v q x y e.
          let done = simply v x _ (past_first fs c.at p _ _ past (asks.whole v q _ e).rest) in
          absurd (no_else (first_field fs u.at f _ _ known done.rest));
      none = λ v q e.
          let start = past_first fs c.at p _ _ past (asks.whole v q _ e).rest in
          let n = none_left fs p start in
          absurd (omega arith);
    }

    module _ (is_else : f ≡ Else) (b : ℕ) (past_too : Past (length fs) u.at b) (w : Counted) (simply_too : Simply fs b w) (ps ns us : ℕ)
        (more : ps ≡ capped (os + w.orders)) (all : ns ≡ capped (ps + 1)) (most_too : us ≡ max ts w.temporaries) where
      all_orders : (a m n : ℕ) → os ≡ capped (a + m) → w.orders ≡ capped n → ns ≡ capped (a + m + 1 + n)
      all_orders a m n e f =
          let sum : ps ≡ capped (a + m + n) = more ∙ rw (e, f) (capped_sum (a + m) n) in
          let same : a + m + n + 1 ≡ a + m + 1 + n = omega arith in
          all ∙ rw sum (capped_one (a + m + n)) ∙ ap capped same

      all_temporaries : (a m n : ℕ) → ts ≡ capped (max a m) → w.temporaries ≡ capped n → us ≡ capped (max a (max m n))
      all_temporaries a m n e f =
          let same : max (max a m) n ≡ max a (max m n) = omega arith in
          most_too ∙ rw (e, f) (capped_max (max a m) n) ∙ ap capped same

      pub if_two : Ifs fs (record { orders = ns; temporaries = us; instructions = 3; comparisons = c.comparisons })
      if_two = record {
        few = omega arith;
        one = λ v q x e.
            let done = simply v x _ (past_first fs c.at p _ _ past (asks.whole v q _ e).rest) in
            let its = first_field fs u.at f _ _ known done.rest in
            let z : ◌≡◌ {A = ℕ} 0 1 = cc in
            absurd (omega arith);
        two = λ v q x y e.
            let asked = asks.whole v q _ e in
            let done = simply v x _ (past_first fs c.at p _ _ past asked.rest) in
            let second = simply_too v y _ (past_first fs u.at b _ _ past_too done.rest) in
            record {
              its_orders = all_orders (asking v q) (simple_size v x) (simple_size v y)
                  (both_orders (asking v q) (simple_size v x) asked.its_orders done.its_orders)
                  second.its_orders;
              its_temporaries = all_temporaries (condition_temporaries q) (simple_temporaries x) (simple_temporaries y)
                  (both_temporaries (condition_temporaries q) (simple_temporaries x) asked.its_temporaries done.its_temporaries)
                  second.its_temporaries;
              its_instructions = refl;
              its_comparisons = asked.its_comparisons;
            };
        none = λ v q e.
            let start = past_first fs c.at p _ _ past (asks.whole v q _ e).rest in
            let n = none_left fs p start in
            absurd (omega arith);
      }

-- ---- the statement's instruction

module _ (fs : List ℕ) (f : Field) (known : f ≡ field_in (get_or fs 0 0)) where
  pub size_if : f ≡ If → (r : Size) → Ifs fs r → SizeOf fs r
  size_if told r ifs = record {
    few = ifs.few;
    of_simple = λ v u e. absurd (no_simple u e);
    of_then = λ v c u e. ifs.one v c u (fields_behind 0 fs ∙ ap behind e);
    of_else = λ v c u w e. ifs.two v c u w (fields_behind 0 fs ∙ ap behind e);
    of_start = λ v c e. ifs.none v c (fields_behind 0 fs ∙ ap behind e);
  }
    where
      no_simple : (u : Simple) → fields_at 0 fs ≡ simple_fields u → ⊥
      no_simple (set w x) e = let its = first_field fs 0 f _ _ known e in let z : ◌≡◌ {A = ℕ} 0 1 = cc in omega arith
      no_simple (send x) e = let its = first_field fs 0 f _ _ known e in let z : ◌≡◌ {A = ℕ} 0 1 = cc in omega arith
      no_simple (goto s) e = let its = first_field fs 0 f _ _ known e in let z : ◌≡◌ {A = ℕ} 0 1 = cc in omega arith

  pub size_simple : (f ≡ If → ⊥) → (u : Counted) → Simply fs 0 u
      → SizeOf fs (record { orders = u.orders; temporaries = u.temporaries; instructions = 1; comparisons = 0 })
  size_simple no_if u simply = record {
    few = omega arith;
    of_simple = λ v x e.
        let done = simply v x [] (e ∙ sym (append-nil (simple_fields x))) in
        record { its_orders = done.its_orders; its_temporaries = done.its_temporaries; its_instructions = refl; its_comparisons = refl };
    of_then = λ v c x e. absurd (no_if (first_field fs 0 f _ _ known e));
    of_else = λ v c x y e. absurd (no_if (first_field fs 0 f _ _ known e));
    of_start = λ v c e. absurd (no_if (first_field fs 0 f _ _ known e));
  }
