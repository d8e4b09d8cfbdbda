-- The sheet that is read back.
use Prim.Native.Nat.{ℕ, ◌+◌, ◌≤◌}
use mathlib.Core.Path.{◌≡◌, refl, sym, ap, ap₂, subst, ◌∙◌}
use mathlib.Core.Bool.{Bool, true, false}
use mathlib.Core.List.{List, [], ◌∷◌, map}
use native.Mathlib.Omega.{arith}
use native.Mathlib.Nat.{zero-add}
use lib.ListN.{length, take, length-append, length-map}
use lib.Seq.{length-take-le}
use Rattle.std.specs.Prelude.{Option, Some, None}
use Rattle.base.proofs.Lists.{take_sets}
use Rattle.order.specs.declared.Order.{Order}
use Rattle.order.specs.declared.Order.TheVariants.{Stop}
use Rattle.order.specs.Limits.{most_orders}
use Rattle.order.specs.Good.{Good}
use Rattle.order.specs.Memory.{order_word, orders_in}
use Rattle.order.proofs.Arrays.{Narrow, orders_in_law, good_narrow}
use Rattle.sheet.specs.Sheet.{Part, count, sheet}
use Rattle.sheet.specs.Memory.{part_fields}
use Rattle.sheet.specs.Translation.{size, first_order, part_code, translation, temporaries_of}
use Rattle.sheet.specs.Within.{Within}
use Rattle.sheet.specs.ReadBack.{Given, given, none, untranslate}
use Rattle.sheet.proofs.Sizes.{code_length, count_size}
use Rattle.sheet.proofs.ReadBack.{read_back_law, given_translates}
use Rattle.sheet.proofs.GoodObject.{translation_good}
use Rattle.sheet_field.specs.Memory.{field_word, field_in, fields_at, most_fields}
use Rattle.sheet_check.specs.Answers.{FieldsOf, Checks}
use Rattle.untranslate_part.specs.Guess.{Guessed, Guessing}
use Rattle.sheet.proofs.Lengths.{part_few}
use Rattle.untranslate.specs.declared.Untranslated.{Untranslated}
use Rattle.untranslate.specs.Internal.{Again}
use Rattle.untranslate.specs.Answers.{Answers, Untranslates}
use Rattle.untranslate.proofs.Again.{stored_part}

-- the words of orders tell the orders
words_tell : (os qs : List Order) → Narrow os → Narrow qs → map order_word os ≡ map order_word qs → os ≡ qs
words_tell os qs a b e = sym (orders_in_law os a) ∙ ap orders_in e ∙ orders_in_law qs b

few_count : (v : ℕ) (x : Part) → Within (sheet v x) → count x ≤ most_fields
few_count v x w =
    omega (arith, w.few_orders, count_size v x, length-append (part_code v (first_order v x) 0 x) (Stop ∷ []), code_length v (first_order v x) 0 x)

module _ (ws : List ℕ) (v t : ℕ) (fs : List ℕ) (n : ℕ) (after : List ℕ) (guessed : Guessing ws v fs n after) where
  module _ (os : List Order) (good : Good v t os) (held : ws ≡ map order_word os) (long : length fs ≡ most_fields) where
    front_length : length (take n after) ≡ n
    front_length = length-take-le n after (omega (arith, guessed.inside, guessed.kept))

    small : length (take n after) ≤ most_fields
    small = omega (arith, front_length, guessed.inside, long)

    -- the fields of a sheet that translates to the orders are those that were guessed
    module _ (x : Part) (w : Within (sheet v x)) (all : translation (sheet v x) ≡ os) where
      counted : length (translation (sheet v x)) ≡ size v x + 1
      counted = length-append (part_code v (first_order v x) 0 x) (Stop ∷ []) ∙ omega (arith, code_length v (first_order v x) 0 x)

      right : Guessed x fs n after
      right =
          guessed.whole x w.formed w.few_levels
          (ap orders_in held ∙ orders_in_law os (good_narrow v t os good) ∙ sym all)
          good.variables
          (omega (arith, good.few_orders, ap length held, length-map os order_word))
          (omega (arith, long, part_few v x, counted, w.few_orders))

      fields_are : fields_at 0 (take n after) ≡ part_fields x
      fields_are =
          let k = length-map (part_fields x) field_word in
          ap (map field_in)
          (ap₂ take (right.many ∙ sym k ∙ sym (zero-add (length (map field_word (part_fields x))))) right.fields
          ∙ take_sets fs 0 (map field_word (part_fields x)) (omega (arith, k, right.many, guessed.inside)))
          ∙ stored_part v (count x) good.variables (few_count v x w) x w.formed

      of_fields : FieldsOf (take n after) v x
      of_fields = record { same = fields_are; formed = w.formed; few_levels = w.few_levels }

    -- where none is found none is given
    nothing : ((x : Part) → Within (sheet v x) → temporaries_of x ≡ t → translation (sheet v x) ≡ os → ⊥) → Answers (untranslate v t os) None after
    nothing absent = by (untranslate v t os) refl
      where
        by : (q : Given) → untranslate v t os ≡ q → Answers q None after
        by none h = refl
        by (given (sheet u x)) h =
            let it = given_translates v t os (sheet u x) good h in
            let same : u ≡ v = it.1 in
            absurd (absent x (subst (λ k. Within (sheet k x)) same it.0) it.2 (ap (λ k. translation (sheet k x)) (sym same) ∙ it.3))

    pub no_sheet : (c : Option ℕ) → Checks (take n after) v c → c ≡ None → Answers (untranslate v t os) None after
    no_sheet c checked e = nothing (λ x w used all. checked.none e small good.variables x (of_fields x w all))

    pub no_translation : (b : Bool) → Again (take n after) v t ws b → b ≡ false → Answers (untranslate v t os) None after
    no_translation b again told =
        nothing
        (λ x w used all. (again x w.formed (fields_are x w all) good.variables small).no_so told w.few_orders used (ap (map order_word) all ∙ sym held))

    pub a_sheet :
        (c : Option ℕ) (k : ℕ)
        → Checks (take n after) v c
        → c ≡ Some k
        → (b : Bool)
        → Again (take n after) v t ws b
        → b ≡ true
        → Answers (untranslate v t os) (Some (record { instructions = k; fields = n })) after
    a_sheet c k checked e b again so =
        let it = checked.found k e in
        let x = it.part in
        let are = it.are in
        let told = (again x are.formed are.same good.variables small).yes_so so in
        answer x k it.counted are told.0 told.1 told.2
      where
        answer : (x : Part) (k : ℕ) → k ≡ count x → FieldsOf (take n after) v x → length (translation (sheet v x)) ≤ most_orders → temporaries_of x ≡ t
            → map order_word (translation (sheet v x)) ≡ ws → Answers (untranslate v t os) (Some (record { instructions = k; fields = n })) after
        answer x k counts are room used same =
            let within : Within (sheet v x) = record {
              formed = are.formed;
              few_levels = are.few_levels;
              few_variables = good.variables;
              few_temporaries = rw used good.temporaries;
              few_orders = room;
            } in
            let all : translation (sheet v x) ≡ os =
            words_tell (translation (sheet v x)) os (good_narrow v (temporaries_of x) (translation (sheet v x)) (translation_good (sheet v x) within)) (good_narrow v t os good) (same ∙ held) in
            let back : untranslate v t os ≡ given (sheet v x) = ap₂ (untranslate v) (sym used) (sym all) ∙ read_back_law (sheet v x) within in
            let many : length (part_fields x) ≡ n = sym (ap length are.same) ∙ length-map (take n after) field_in ∙ front_length in
            subst (λ q. Answers q (Some (record { instructions = k; fields = n })) after) (sym back)
            (ap₂ (λ i j. Some (record { instructions = i; fields = j })) counts (sym many), ap (λ j. fields_at 0 (take j after)) many ∙ are.same)

  pub untranslates : (r : Option Untranslated) → ((os : List Order) → Good v t os → ws ≡ map order_word os → length fs ≡ most_fields → Answers (untranslate v t os) r after)
      → Untranslates ws v t fs r after
  untranslates r answers = record { kept = guessed.kept; of = answers }
