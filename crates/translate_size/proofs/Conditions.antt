-- The counts of what an IF asks.
use Prim.Native.Nat.{ℕ, ◌+◌, ◌-◌, ◌<◌, ◌≤◌, max}
use mathlib.Core.Path.{◌≡◌, refl, sym, ap, ◌∙◌}
use mathlib.Core.List.{List, [], ◌∷◌, ◌++◌, append_assoc, append-nil}
use native.Mathlib.Omega.{arith}
use lib.ListN.{length, get_or}
use Rattle.order.specs.declared.Operation.TheVariants.{Cmp}
use Rattle.sheet.specs.declared.Field.{Field}
use Rattle.sheet.specs.declared.Field.TheVariants.{Run}
use Rattle.sheet.specs.declared.Joining.{Joining}
use Rattle.sheet.specs.Sheet.{Condition, compares, joins}
use Rattle.sheet.specs.Fields.{expression_fields}
use Rattle.sheet.specs.Memory.{condition_fields}
use Rattle.sheet.specs.Orders.{comparison_code}
use Rattle.sheet.specs.Condition.{comparisons, trying, asking, condition_temporaries}
use Rattle.sheet.proofs.Sizes.{comparisons_some}
use Rattle.sheet_field.specs.Memory.{field_in, fields_at}
use Rattle.translate_expression.specs.declared.Step.{Step}
use Rattle.translate_expression.specs.Internal.{first_node, right_of, right_step}
use Rattle.translate_size.specs.declared.Counted.{Counted}
use Rattle.translate_size.specs.declared.Asked.{Asked}
use Rattle.translate_size.specs.Answers.{capped}
use Rattle.translate_size.specs.Internal.{Past, Measuring, Stepping, Comparing, all_fields, total, most, Open, Onward, Asks, Trying, Asking}
use Rattle.translate_size.proofs.Counting.{capped_one, capped_sum, capped_max, joined_by, right_on}
use Rattle.translate_size.proofs.Looking.{first_field, past_first, run_inside}

-- ---- a comparison and its branch

module _ (fs : List ℕ) (at p : ℕ) (past : Past (length fs) at p) (first : Counted) (one : Measuring fs p first) (step : Step)
    (asked : step ≡ right_step Cmp first.at (right_of (first_node (fields_at first.at fs)))) (both : Counted)
    (two : Stepping fs step first both) (n : ℕ) (all : n ≡ capped (both.orders + 1)) where
  pub comparison_counted : Comparing fs at (record { at = both.at; orders = n; temporaries = both.temporaries })
  unfolding condition_fields trying condition_temporaries
  comparison_counted = record {
    on = omega (arith, past.on, one.on, right_on fs first both Cmp (right_of (first_node (fields_at first.at fs))) step asked two);
    whole = λ v t a b l e.
        let here = past_first fs at p _ _ past e ∙ append_assoc (expression_fields a) (expression_fields b) l in
        let left = one.whole v 0 a (expression_fields b ++ l) here in
        let done = joined_by fs first both Cmp v 0 a b l left _ refl step asked two in
        record {
          rest = done.rest;
          its_orders = all ∙ ap (λ k. capped (k + 1)) done.its_orders ∙ capped_one (length (comparison_code v a b));
          its_temporaries = done.its_temporaries;
        };
  }

-- ---- one field more

module _ (fs : List ℕ) (s : Asked) (some : 0 < s.left) (few : s.left ≤ s.at + 1) (f : Field) (known : f ≡ field_in (get_or fs s.at 0)) where
  -- a run's
  module _ (w : Joining) (n : ℕ) (is_run : f ≡ Run w n) where
    inside : s.at < length fs
    inside = run_inside fs s.at w n (sym is_run ∙ known)

    module _ (p : ℕ) (past : Past (length fs) s.at p) (ns : ℕ) (one : ns ≡ capped (s.comparisons + 1)) where
      abbrev parted : Asked
      parted = record { at = p; left = s.left + 1; orders = s.orders; temporaries = s.temporaries; comparisons = ns }

      run_open :
          (v : ℕ) (c : Condition) (l : List Field) (o : Open fs v c l s) (cs : List Condition)
          → o.to_come ≡ cs
          → Open fs v c l parted
      unfolding condition_fields trying comparisons condition_temporaries all_fields total most
      run_open v c l o [] e = let n = sym (ap length e) ∙ o.many in absurd (omega (arith, n))
      run_open v c l o (compares t a b ∷ cs) e =
          let here = o.rest ∙ ap (λ q. all_fields q ++ l) e in
          let its = first_field fs s.at f _ _ known here in
          let z : ◌≡◌ {A = ℕ} 0 1 = cc in
          absurd (omega arith)
      run_open v c l o (joins w a b ∷ cs) e =
          let here = o.rest ∙ ap (λ q. all_fields q ++ l) e in
          record {
            to_come = a ∷ b ∷ cs;
            os = o.os;
            ts = o.ts;
            ns = o.ns + 1;
            many = let n = sym (ap length e) ∙ o.many in omega (arith, n);
            rest =
                past_first fs s.at p _ _ past here
                ∙ ap (λ q. q ++ l) (append_assoc (condition_fields a) (condition_fields b) (all_fields cs));
            its_orders = o.its_orders;
            its_temporaries = o.its_temporaries;
            its_comparisons = one ∙ rw o.its_comparisons (capped_one o.ns);
            all_orders = let n = ap (λ q. o.os + total (trying v) q) (sym e) ∙ o.all_orders in omega (arith, n);
            all_temporaries = let n = ap (λ q. max o.ts (most condition_temporaries q)) (sym e) ∙ o.all_temporaries in omega (arith, n);
            all_comparisons =
                let n = ap (λ q. o.ns + total comparisons q) (sym e) ∙ o.all_comparisons ∙ ap (λ q. comparisons c + length q) e in
                omega (arith, n);
          }

      pub run_on : Onward fs s parted
      run_on =
          let there = past.inside inside in
          record {
            on = omega (arith, there);
            few = omega (arith, there);
            falls = omega (arith, there, inside);
            still = λ v c l o. run_open v c l o o.to_come refl;
          }

  -- a comparison's
  module _ (no_run : (w : Joining) (n : ℕ) → f ≡ Run w n → ⊥) (c : Counted) (compared : Comparing fs s.at c) (os ts : ℕ) (sums : os ≡ capped (s.orders + c.orders))
      (largest : ts ≡ max s.temporaries c.temporaries) where
    abbrev counted : Asked
    counted = record { at = c.at; left = s.left - 1; orders = os; temporaries = ts; comparisons = s.comparisons }

    compared_open :
        (v : ℕ) (q : Condition) (l : List Field) (o : Open fs v q l s) (cs : List Condition)
        → o.to_come ≡ cs
        → Open fs v q l counted
    unfolding condition_fields trying comparisons condition_temporaries all_fields total most
    compared_open v q l o [] e = let n = sym (ap length e) ∙ o.many in absurd (omega (arith, n))
    compared_open v q l o (compares t a b ∷ cs) e =
        let here = o.rest ∙ ap (λ x. all_fields x ++ l) e ∙ append_assoc (condition_fields (compares t a b)) (all_fields cs) l in
        let done = compared.whole v t a b (all_fields cs ++ l) here in
        record {
          to_come = cs;
          os = o.os + trying v (compares t a b);
          ts = max o.ts (condition_temporaries (compares t a b));
          ns = o.ns;
          many = let n = sym (ap length e) ∙ o.many in omega (arith, n);
          rest = done.rest;
          its_orders = sums ∙ rw (o.its_orders, done.its_orders) (capped_sum o.os (trying v (compares t a b)));
          its_temporaries = largest ∙ rw (o.its_temporaries, done.its_temporaries) (capped_max o.ts (condition_temporaries (compares t a b)));
          its_comparisons = o.its_comparisons;
          all_orders = let n = ap (λ x. o.os + total (trying v) x) (sym e) ∙ o.all_orders in omega (arith, n);
          all_temporaries = let n = ap (λ x. max o.ts (most condition_temporaries x)) (sym e) ∙ o.all_temporaries in omega (arith, n);
          all_comparisons =
              let n = ap (λ x. o.ns + total comparisons x) (sym e) ∙ o.all_comparisons ∙ ap (λ x. comparisons q + length x) e in
              omega (arith, n);
        }
    compared_open v q l o (joins w a b ∷ cs) e =
        let here = o.rest ∙ ap (λ x. all_fields x ++ l) e in
        absurd (no_run _ _ (first_field fs s.at f _ _ known here))

    pub compared_on : Onward fs s counted
    compared_on = record {
      on = compared.on;
      few = omega (arith, compared.on);
      falls = omega (arith, compared.on);
      still = λ v q l o. compared_open v q l o o.to_come refl;
    }

-- ---- the loop over the fields

-- no more conditions are to come than fields were passed, and whatever condition stood there is counted but for those
pub record Tried (fs : List ℕ) (at : ℕ) (s : Asked) : Type 0 where
  pub on : at ≤ s.at
  pub few : s.left ≤ s.at + 1
  pub still : (v : ℕ) (c : Condition) (l : List Field) → fields_at at fs ≡ condition_fields c ++ l → Open fs v c l s

module _ (fs : List ℕ) (at : ℕ) where
  pub try_none : Tried fs at (record { at = at; left = 1; orders = 0; temporaries = 0; comparisons = 1 })
  unfolding all_fields total most
  try_none = record {
    on = omega arith;
    few = omega arith;
    still = λ v c l e. record {
      to_come = c ∷ [];
      os = 0;
      ts = 0;
      ns = 1;
      many = refl;
      rest = e ∙ ap (λ q. q ++ l) (sym (append-nil (condition_fields c)));
      its_orders = refl;
      its_temporaries = refl;
      its_comparisons = refl;
      all_orders = omega arith;
      all_temporaries = omega arith;
      all_comparisons = omega arith;
    };
  }

  none_open : (v : ℕ) (c : Condition) (l : List Field) (s : Asked) → s.left ≤ 0 → (o : Open fs v c l s) (cs : List Condition) → o.to_come ≡ cs
      → Asks fs l (trying v c) (condition_temporaries c) (comparisons c) s
  unfolding all_fields total most
  none_open v c l s none o [] e = record {
    rest = o.rest ∙ ap (λ x. all_fields x ++ l) e;
    its_orders = o.its_orders ∙ ap capped (let n = ap (λ x. o.os + total (trying v) x) (sym e) ∙ o.all_orders in omega (arith, n));
    its_temporaries = o.its_temporaries ∙ ap capped (let n = ap (λ x. max o.ts (most condition_temporaries x)) (sym e) ∙ o.all_temporaries in omega (arith, n));
    its_comparisons =
        o.its_comparisons
        ∙ ap capped (let n = ap (λ x. o.ns + total comparisons x) (sym e) ∙ o.all_comparisons ∙ ap (λ x. comparisons c + length x) e in omega (arith, n));
  }
  none_open v c l s none o (x ∷ cs) e = let n = sym (ap length e) ∙ o.many in absurd (omega (arith, n))

  pub try_ends : (s : Asked) → Tried fs at s → s.left ≤ 0 → Trying fs at s
  try_ends s p none = record { on = p.on; whole = λ v c l e. let o = p.still v c l e in none_open v c l s none o o.to_come refl }

-- ---- all of it

module _ (fs : List ℕ) (at : ℕ) (c : Asked) (tried : Trying fs at c) where
  -- one comparison, for runs have two or more
  single_whole : c.comparisons ≤ 1 → (v : ℕ) (q : Condition) (l : List Field) → fields_at at fs ≡ condition_fields q ++ l
      → Asks fs l (asking v q) (condition_temporaries q) (comparisons q) c
  unfolding asking comparisons
  single_whole one v (compares t a b) l e = tried.whole v (compares t a b) l e
  single_whole one v (joins w a b) l e =
      let done = tried.whole v (joins w a b) l e in
      absurd (omega (arith, done.its_comparisons, comparisons_some a, comparisons_some b))

  pub single_counted : c.comparisons ≤ 1 → Asking fs at c
  single_counted one = record { on = tried.on; whole = single_whole one }

  module _ (more : 1 < c.comparisons) (n : ℕ) (all : n ≡ capped (c.orders + 1)) where
    abbrev begun : Asked
    begun = record { at = c.at; left = c.left; orders = n; temporaries = c.temporaries; comparisons = c.comparisons }

    run_whole : (v : ℕ) (q : Condition) (l : List Field) → fields_at at fs ≡ condition_fields q ++ l
        → Asks fs l (asking v q) (condition_temporaries q) (comparisons q) begun
    unfolding asking comparisons
    run_whole v (compares t a b) l e =
        let done = tried.whole v (compares t a b) l e in
        absurd (omega (arith, done.its_comparisons))
    run_whole v (joins w a b) l e =
        let done = tried.whole v (joins w a b) l e in
        record {
          rest = done.rest;
          its_orders =
              all
              ∙ ap (λ m. capped (m + 1)) done.its_orders
              ∙ capped_one (trying v (joins w a b))
              ∙ ap capped (omega arith);
          its_temporaries = done.its_temporaries;
          its_comparisons = done.its_comparisons;
        }

    pub run_counted : Asking fs at begun
    run_counted = record { on = tried.on; whole = run_whole }
