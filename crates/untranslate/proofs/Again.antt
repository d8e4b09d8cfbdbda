-- Fields in memory, words compared, and the translation made again.
use Prim.Native.Nat.{ℕ, zero, suc, ◌+◌, ◌≤◌, ◌<◌}
use mathlib.Core.Path.{◌≡◌, refl, sym, ap, ap₂, ◌∙◌}
use mathlib.Core.Bool.{Bool, true, false}
use mathlib.Core.List.{List, [], ◌∷◌, ◌++◌, map}
use native.Mathlib.Omega.{arith}
use native.Mathlib.Nat.{zero-add}
use native.Mathlib.Numerals.{add-one}
use lib.ListN.{length, get_or, take, length-map}
use lib.Seq.{take-suc, take_all}
use Rattle.std.specs.Prelude.{Option, Some}
use Rattle.base.proofs.Cases.{by_less}
use Rattle.base.proofs.Lists.{take_sets}
use Rattle.order.specs.Limits.{most_variables, most_orders}
use Rattle.order.specs.Memory.{order_word}
use Rattle.sheet.specs.declared.Field.{Field}
use Rattle.sheet.specs.declared.Field.TheVariants.{Else, Start, Finish, If}
use Rattle.sheet.specs.Sheet.{Expression, word, constant, negated, inverted, binary, Simple, set, send, goto}
use Rattle.sheet.specs.Sheet.{Condition, compares, joins, Part, end, plain, when, either, count, sheet}
use Rattle.sheet.specs.Formed.{Expressed, SimpleFormed}
use Rattle.sheet.specs.Condition.{AllExpressed}
use Rattle.sheet.specs.Fields.{expression_fields, simple_fields}
use Rattle.sheet.specs.Memory.{condition_fields, part_fields}
use Rattle.sheet.specs.Translation.{translation, temporaries_of}
use Rattle.sheet.specs.Within.{PartFormed}
use Rattle.sheet_field.specs.Memory.{carried, field_word, field_in, fields_at, most_fields}
use Rattle.sheet_field.proofs.Stored.{field_in_law}
use Rattle.translate.specs.declared.Translated.{Translated}
use Rattle.translate.specs.Answers.{TranslatesTo, Translates}
use Rattle.untranslate.specs.Internal.{Same, AgainOf}

-- ---- fields that are stored are read again

stored_append : (xs ys : List Field) → map field_in (map field_word xs) ≡ xs → map field_in (map field_word ys) ≡ ys → map field_in (map field_word (xs ++ ys)) ≡ xs ++ ys
stored_append [] ys p q = q
stored_append (x ∷ xs) ys p q = ap₂ ◌∷◌ (ap head p) (stored_append xs ys (ap behind p) q)
  where
    head : List Field → Field
    head [] = x
    head (y ∷ l) = y

    behind : List Field → List Field
    behind [] = []
    behind (y ∷ l) = l

module _ (v n : ℕ) (few : v ≤ most_variables) (small : n ≤ most_fields) where
  stored_expression : (e : Expression) → Expressed v e → map field_in (map field_word (expression_fields e)) ≡ expression_fields e
  unfolding expression_fields Expressed
  stored_expression (word w) h = ap (λ f. f ∷ []) (field_in_law _ (omega (arith, h.1)))
  stored_expression (constant k) h = ap (λ f. f ∷ []) (field_in_law _ (omega arith))
  stored_expression (negated e) h = ap₂ ◌∷◌ (field_in_law _ (omega arith)) (stored_expression e h)
  stored_expression (inverted e) h = ap₂ ◌∷◌ (field_in_law _ (omega arith)) (stored_expression e h)
  stored_expression (binary o x y) h =
      ap₂ ◌∷◌ (field_in_law _ (omega arith)) (stored_append (expression_fields x) (expression_fields y) (stored_expression x h.0) (stored_expression y h.1))

  stored_simple : (u : Simple) → SimpleFormed v n u → map field_in (map field_word (simple_fields u)) ≡ simple_fields u
  stored_simple (set w e) h = ap₂ ◌∷◌ (field_in_law _ (omega (arith, h.0.1))) (stored_expression e h.1)
  stored_simple (send e) h = ap₂ ◌∷◌ (field_in_law _ (omega arith)) (stored_expression e h)
  stored_simple (goto s) h = ap (λ f. f ∷ []) (field_in_law _ (omega (arith, h.1)))

  stored_condition : (c : Condition) → AllExpressed v c → map field_in (map field_word (condition_fields c)) ≡ condition_fields c
  unfolding condition_fields AllExpressed
  stored_condition (compares r x y) h =
      ap₂ ◌∷◌ (field_in_law _ (omega arith)) (stored_append (expression_fields x) (expression_fields y) (stored_expression x h.0) (stored_expression y h.1))
  stored_condition (joins w x y) h =
      ap₂ ◌∷◌ (field_in_law _ (omega arith)) (stored_append (condition_fields x) (condition_fields y) (stored_condition x h.0) (stored_condition y h.1))

  stored_mark : (f : Field) (l : List Field) → carried f ≡ 0 → map field_in (map field_word l) ≡ l → map field_in (map field_word (f ∷ l)) ≡ f ∷ l
  stored_mark f l e h = ap₂ ◌∷◌ (field_in_law f (omega (arith, e))) h

  pub stored_part : (x : Part) → PartFormed v n x → map field_in (map field_word (part_fields x)) ≡ part_fields x
  unfolding part_fields PartFormed
  stored_part end f = refl
  stored_part (plain u l) f = stored_append (simple_fields u) (part_fields l) (stored_simple u f.0) (stored_part l f.1)
  stored_part (when c x l) f =
      stored_mark If _ refl
      (stored_append (condition_fields c) _ (stored_condition c f.0.0)
      (stored_mark Start _ refl (stored_append (part_fields x) _ (stored_part x f.2) (stored_mark Finish _ refl (stored_part l f.3)))))
  stored_part (either c x y l) f =
      stored_mark If _ refl
      (stored_append (condition_fields c) _ (stored_condition c f.0.0)
      (stored_mark Start _ refl
      (stored_append (part_fields x) _ (stored_part x f.3)
      (stored_mark Else _ refl (stored_append (part_fields y) _ (stored_part y f.4) (stored_mark Finish _ refl (stored_part l f.5)))))))

-- ---- words compared

get_d_take : (l : List ℕ) (n i d : ℕ) → i < n → get_or (take n l) i d ≡ get_or l i d
get_d_take [] zero i d h = absurd (omega arith)
get_d_take [] (suc n) i d h = refl
get_d_take (x ∷ l) zero i d h = absurd (omega arith)
get_d_take (x ∷ l) (suc n) zero d h = refl
get_d_take (x ∷ l) (suc n) (suc i) d h = get_d_take l n i d (omega arith)

module _ (front words : List ℕ) where
  pub record Comparing (i : ℕ) : Type 0 where
    pub so_far : take i front ≡ take i words
    pub inside : i ≤ length words

  pub same_none : Comparing 0
  same_none = record { so_far = refl; inside = omega arith }

  module _ (i : ℕ) (p : Comparing i) (room : length words ≤ length front) (h : i < length words) where
    pub same_more : get_or front i 0 ≡ get_or words i 0 → Comparing (i + 1)
    same_more e = record {
      so_far =
          rw (add-one i)
          (take-suc front i 0 (omega arith) ∙ ap₂ (λ l x. l ++ x ∷ []) p.so_far e ∙ sym (take-suc words i 0 h));
      inside = omega arith;
    }

    pub same_stops : (get_or front i 0 ≡ get_or words i 0 → ⊥) → Same front words false
    same_stops no_same = record {
      yes_so = λ e. let z : ◌≡◌ {A = ℕ} 0 1 = cc in absurd (omega arith);
      no_so = λ e all. no_same (sym (get_d_take front (length words) i 0 h) ∙ ap (λ l. get_or l i 0) all);
    }

  pub same_ends : (i : ℕ) → Comparing i → length words ≤ i → Same front words true
  same_ends i p h =
      let all : i ≡ length words = omega (arith, p.inside) in
      record {
        yes_so = λ e. ap (λ k. take k front) (sym all) ∙ p.so_far ∙ take_all i words h;
        no_so = λ e. let z : ◌≡◌ {A = ℕ} 0 1 = cc in absurd (omega arith);
      }

-- ---- the translation made again

module _ (fs : List ℕ) (v t : ℕ) (os zeros : List ℕ) (long : length zeros ≡ most_orders) (r : Option Translated) (out : List ℕ) (made : Translates fs v zeros r out)
    (x : Part) (formed : PartFormed v (count x) x) (same : fields_at 0 fs ≡ part_fields x) (few : v ≤ most_variables) (small : length fs ≤ most_fields) where
  ws : List ℕ
  ws = map order_word (translation (sheet v x))

  it : TranslatesTo v x zeros r out
  it = made.of x formed same few small long

  module _ (a : Translated) (e : r ≡ Some a) where
    told : length (translation (sheet v x)) ≤ most_orders → (a.temporaries ≡ temporaries_of x) × (a.orders ≡ length (translation (sheet v x)))
    told room =
        let both : Some a ≡ Some (record { temporaries = temporaries_of x; orders = length (translation (sheet v x)) }) = sym e ∙ (it.whole room).0 in
        let same : a ≡ record { temporaries = temporaries_of x; orders = length (translation (sheet v x)) } = cc in
        (ap (λ q. q.temporaries) same, ap (λ q. q.orders) same)

    front : (room : length (translation (sheet v x)) ≤ most_orders) → take (length (map order_word (translation (sheet v x)))) out ≡ map order_word (translation (sheet v x))
    front room =
        let ws = map order_word (translation (sheet v x)) in
        ap₂ take (sym (zero-add (length ws))) (it.whole room).1
        ∙ take_sets zeros 0 ws (omega (arith, long, room, length-map (translation (sheet v x)) order_word))

    roomy : length (translation (sheet v x)) ≤ most_orders
    roomy =
        by_less most_orders (length (translation (sheet v x)))
        (λ over. let both = it.over (λ room. omega arith) in let z : ◌≡◌ {A = ℕ} 0 1 = cc in absurd (omega arith))
        (λ room. room)

    pub again_compared : a.temporaries ≡ t → a.orders ≡ length os → (b : Bool) → Same out os b → AgainOf v x t os b
    again_compared used counted b s = record {
      yes_so = λ yes_so.
          let n = length-map (translation (sheet v x)) order_word in (
            roomy,
            sym (told roomy).0 ∙ used,
            sym (front roomy) ∙ ap (λ k. take k out) (n ∙ sym (told roomy).1 ∙ counted) ∙ s.yes_so yes_so,
          );
      no_so = λ no_so room also all. s.no_so no_so (ap (λ l. take (length l) out) (sym all) ∙ front room ∙ all);
    }
