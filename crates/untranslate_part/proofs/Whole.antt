-- The orders of a whole sheet.
use Prim.Native.Nat.{ℕ, ◌+◌, ◌-◌, ◌≤◌, ◌<◌}
use mathlib.Core.Path.{◌≡◌, refl, sym, ap, ◌∙◌}
use mathlib.Core.Bool.{true}
use mathlib.Core.List.{List, [], ◌∷◌}
use native.Mathlib.Omega.{arith}
use lib.ListN.{length, length-append, length-map}
use lib.Seq.{sets}
use Rattle.std.specs.Prelude.{Some}
use Rattle.order.specs.declared.Order.TheVariants.{Stop}
use Rattle.order.specs.Limits.{most_variables, most_orders}
use Rattle.order.specs.Memory.{order_in, orders_in}
use Rattle.sheet.specs.Sheet.{Part, count, sheet}
use Rattle.sheet.specs.Translation.{size, first_order, part_code, translation}
use Rattle.sheet.specs.Within.{most_levels}
use Rattle.sheet.proofs.Sizes.{code_length}
use Rattle.untranslate_part.specs.Guess.{Guessing, TryGuessing}
use Rattle.untranslate_part.specs.Internal.{numbers, Parting}
use Rattle.untranslate_part.proofs.Numbered.{table_leads}

-- how many orders a sheet has
sheet_length : (v : ℕ) (x : Part) (os : List ℕ) → orders_in os ≡ translation (sheet v x) → length os ≡ size v x + 1
sheet_length v x os same =
    let cs = part_code v (first_order v x) 0 x in
    sym (length-map os order_in) ∙ ap length same ∙ length-append cs (Stop ∷ []) ∙ ap (λ n. n + 1) (code_length v (first_order v x) 0 x)

module _ (os : List ℕ) (v : ℕ) (fs : List ℕ) where
  pub guess_variables : most_variables < v → Guessing os v fs 0 fs
  guess_variables h = record {
    kept = refl;
    inside = omega arith;
    whole = λ x formed shallow same few_variables few_orders room. absurd (omega arith);
  }

  pub guess_orders : most_orders < length os → Guessing os v fs 0 fs
  guess_orders h = record {
    kept = refl;
    inside = omega arith;
    whole = λ x formed shallow same few_variables few_orders room. absurd (omega arith);
  }

  pub guess_empty : length os ≡ 0 → Guessing os v fs 0 fs
  guess_empty h = record {
    kept = refl;
    inside = omega arith;
    whole = λ x formed shallow same few_variables few_orders room. absurd (omega (arith, sheet_length v x os same));
  }

  pub guess_read :
      (base table : List ℕ)
      → table ≡ sets base 0 (numbers (v + 2) true 0 1 (orders_in os))
      → length os ≤ length base
      → (r : ℕ) (after : List ℕ)
      → Parting os table 0 (length os - 1) (v + 2) most_levels fs 0 r after
      → Guessing os v fs r after
  guess_read base table filled fits r after part = record {
    kept = part.safe.kept;
    inside = part.safe.inside (omega arith);
    whole = λ x formed shallow same few_variables few_orders room.
        let many = sheet_length v x os same in
        let w = part.whole v (count x) (first_order v x) x (Stop ∷ [])
        (record {
          known = record {
            start = refl;
            few = omega arith;
            leads = table_leads v x formed base table (filled ∙ ap (λ l. sets base 0 (numbers (v + 2) true 0 1 l)) same)
                (omega (arith, fits, length-map os order_in, ap length same));
          };
          formed = formed;
          shallow = shallow;
          codes = same;
          ends = omega (arith, many);
          more = omega arith;
        })
        (omega (arith, room)) in
        record { many = w.place ∙ omega arith; fields = w.fields };
  }

  -- a guess that is made
  pub guess_made : (r : ℕ) (after : List ℕ) → Guessing os v fs r after → TryGuessing os v fs (Some r) after
  guess_made r after g = record {
    kept = g.kept;
    inside = λ n e. let same : r ≡ n = cc in omega (arith, same, g.inside);
    whole = λ x formed shallow same few_variables few_orders room.
        let w = g.whole x formed shallow same few_variables few_orders room in
        record { many = ap Some w.many; fields = w.fields };
  }
