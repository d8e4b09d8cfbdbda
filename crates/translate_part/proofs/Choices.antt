-- The orders of an IF: its parts behind room for what it asks, then that.
use Prim.Native.Nat.{ℕ, suc, ◌+◌, ◌≤◌, ◌<◌}
use mathlib.Core.Path.{◌≡◌, refl, sym, ap, ap₂, ◌∙◌}
use mathlib.Core.Bool.{Bool, true, false}
use mathlib.Core.List.{List, [], ◌∷◌, ◌++◌, append-nil}
use native.Mathlib.Omega.{arith}
use lib.ListN.{length, length-append}
use Rattle.order.specs.declared.Order.{Order}
use Rattle.order.specs.declared.Order.TheVariants.{Skip}
use Rattle.sheet.specs.declared.Field.{Field}
use Rattle.sheet.specs.declared.Field.TheVariants.{Else, Start, Finish}
use Rattle.sheet.specs.Sheet.{Condition, Part, end, when, either}
use Rattle.sheet.specs.Memory.{condition_fields, part_fields}
use Rattle.sheet.specs.Orders.{temporary}
use Rattle.sheet.specs.Condition.{asking, asking_code}
use Rattle.sheet.specs.Translation.{size, part_code}
use Rattle.sheet.proofs.Sizes.{asking_length, code_length}
use Rattle.sheet_field.specs.Memory.{fields_at}
use Rattle.translate_expression.specs.declared.Spot.{Spot}
use Rattle.translate_expression.specs.Internal.{behind, Puts, Done}
use Rattle.translate_expression.proofs.Turns.{puts_more}
use Rattle.translate_size.specs.declared.Asked.{Asked}
use Rattle.translate_size.specs.Answers.{capped}
use Rattle.translate_size.specs.Internal.{Past, Asking as Sized}
use Rattle.translate_condition.specs.Internal.{Small, Asking}
use Rattle.translate_condition.proofs.Tries.{puts_as, puts_none, small_kept}
use Rattle.translate_part.specs.declared.Closed.{Closed}
use Rattle.translate_part.specs.Internal.{first_opening, is_else, Further, unled, Parting, Closing, Choosing}
use Rattle.translate_part.proofs.Rooms.{further_all_law, puts_before}
use Rattle.translate_part.proofs.Looking.{past_fields}

impossible : {P : Type 0} (a : Bool) → a ≡ true → a ≡ false → P
impossible a e f = let z : ◌≡◌ {A = ℕ} 0 1 = cc in absurd (omega arith)

-- ---- behind the first part

module _ (fs : List ℕ) (word : ℕ) (x : Spot) (out : List ℕ) where
  pub none_closed :
      is_else (fields_at x.at fs) ≡ false
      → (n : ℕ)
      → Past (length fs) x.at n
      → (d : ℕ)
      → (x.i + 0 < 4294967296 → d ≡ x.i + 0)
      → Closing fs word x out (record { at = n; i = x.i; no = d }) out
  none_closed none n beyond d leads = record {
    on = beyond.on;
    one = λ l h small. (
      record { rest = past_fields fs beyond ∙ ap behind h; put = puts_none x.i out },
      λ g. leads (omega (arith, small.orders)) ∙ omega arith,
    );
    two = λ v y l w h small. impossible _ (ap is_else h) none;
  }

  module _ (some : is_else (fields_at x.at fs) ≡ true) (j : ℕ) (far : Further (length out) x.i 1 j) (k : ℕ)
      (past : Past (length fs) x.at k) (y : Spot) (m : List ℕ) (second : Parting fs k word j out y m) (to : ℕ)
      (found : y.i + 0 < 4294967296 → to ≡ y.i + 0) (q : ℕ) (after : List ℕ) (skipped : Puts (Skip to ∷ []) x.i m q after) (n : ℕ)
      (beyond : Past (length fs) y.at n) (d : ℕ) (leads : x.i + 1 < 4294967296 → d ≡ x.i + 1) where
    second_put :
        (v : ℕ) (z : Part) (l : List Field)
        → word ≡ temporary v 0
        → fields_at x.at fs ≡ Else ∷ (part_fields z ++ (Finish ∷ l))
        → Small fs word out
        → Done fs l (Skip (x.i + 1 + size v z) ∷ unled v (x.i + 1) z) x.i out (record { at = n; i = y.i }) after
    second_put v z l w h small =
        let part = second.whole v z (Finish ∷ l) w (past_fields fs past ∙ ap behind h) refl small in
        let all : Puts (Skip to ∷ unled v j z) x.i out y.i after = puts_before far part.put skipped in
        let many = code_length v (λ s. s) j z in
        record {
          rest = past_fields fs beyond ∙ ap behind part.rest;
          put =
              puts_as (ap suc (many ∙ sym (code_length v (λ s. s) (x.i + 1) z)))
              (λ g.
              let from : j ≡ x.i + 1 = far.room (omega (arith, g)) in
              let end_at : y.i ≡ x.i + 1 + size v z = all.place g ∙ omega (arith, many) in
              let over : to ≡ x.i + 1 + size v z = found (omega (arith, g, many, end_at, small.orders)) ∙ omega (arith, end_at) in
              ap₂ (λ e b. Skip e ∷ unled v b z) over from)
              all;
        }

    pub second_closed : Closing fs word x out (record { at = n; i = y.i; no = d }) after
    second_closed = record {
      on = omega (arith, past.on, second.on, beyond.on);
      one = λ l h small. impossible _ some (ap is_else h);
      two = λ v z l w h small. (second_put v z l w h small, λ g. leads (omega (arith, g, small.orders)));
    }

-- ---- the whole

module _ (fs : List ℕ) (at word i : ℕ) (out : List ℕ) (c : Asked) (sized : Sized fs at c) (j : ℕ) (far : Further (length out) i c.orders j)
    (k : ℕ) (past : Past (length fs) c.at k) (x : Spot) (m₁ : List ℕ) (first : Parting fs k word j out x m₁) (r : Closed) (m₂ : List ℕ)
    (closing : Closing fs word x m₁ r m₂) (yes_at : ℕ) (goes : i + c.orders < 4294967296 → yes_at ≡ i + c.orders) (q : ℕ) (after : List ℕ)
    (asked : Asking fs at word i c.comparisons yes_at r.no m₂ q after) where
  module _ (v : ℕ) (t : Condition) (p : Part) (l : List Field) (w : word ≡ temporary v 0)
      (h : fields_at at fs ≡ condition_fields t ++ (Start ∷ (part_fields p ++ l))) (stops : first_opening l ≡ first_opening []) (small : Small fs word out)
    where
      its_size : c.orders ≡ capped (asking v t)
      its_size = (sized.whole v t (Start ∷ (part_fields p ++ l)) h).its_orders

      -- the first part begins behind what the IF asks
      from : i + asking v t ≤ length out → j ≡ i + asking v t
      from g = far.room (omega (arith, its_size)) ∙ omega (arith, its_size, small.orders)

      part_put : Done fs l (unled v j p) j out x m₁
      part_put =
          first.whole v p l w (past_fields fs past ∙ ap behind (sized.whole v t (Start ∷ (part_fields p ++ l)) h).rest) stops small

      middle : i + asking v t + size v p ≤ length out → x.i ≡ i + asking v t + size v p
      middle g =
          let b = from (omega arith) in
          let many = code_length v (λ s. s) j p in
          part_put.put.place (omega (arith, g, b, many)) ∙ omega (arith, b, many)

      -- all of it, with the orders os behind the first part
      all_put : (os : List Order) → Puts os x.i m₁ r.i m₂ → Puts (asking_code v i t r.no ++ (unled v j p ++ os)) i out r.i after
      all_put os closed =
          let parts = puts_more part_put.put closed in
          let kept = parts.kept in
          let done = sized.whole v t (Start ∷ (part_fields p ++ l)) h in
          puts_before
          (further_all_law (length (asking_code v i t r.no)) (its_size ∙ sym (ap capped (asking_length v i t r.no))) small.orders far)
          parts
          (asked v t (Start ∷ (part_fields p ++ l)) w h (record { fields = small.fields; orders = omega (arith, small.orders, kept) })
          done.its_comparisons
          (λ g. goes (omega (arith, g, kept, small.orders, its_size)) ∙ omega (arith, g, kept, small.orders, its_size)))

      all_many : (os : List Order) → length (asking_code v i t r.no ++ (unled v j p ++ os)) ≡ asking v t + size v p + length os
      all_many os =
          length-append (asking_code v i t r.no) (unled v j p ++ os)
          ∙ omega (arith, asking_length v i t r.no, length-append (unled v j p) os, code_length v (λ s. s) j p)

  one_put :
      (v : ℕ) (t : Condition) (p : Part) (l : List Field)
      → word ≡ temporary v 0
      → fields_at at fs ≡ condition_fields t ++ (Start ∷ (part_fields p ++ (Finish ∷ l)))
      → Small fs word out
      → Done fs l (unled v i (when t p end)) i out (record { at = r.at; i = r.i }) after
  unfolding part_code size
  one_put v t p l w h small =
      let part = part_put v t p (Finish ∷ l) w h refl small in
      let closed = closing.one l part.rest (small_kept fs word part.put small) in
      let many = all_many v t p (Finish ∷ l) w h refl small [] in
      record {
        rest = closed.0.rest;
        put =
            puts_as (many ∙ omega arith ∙ sym (code_length v (λ s. s) i (when t p end)))
            (λ g.
            let b = from v t p (Finish ∷ l) w h refl small (omega (arith, g, many)) in
            let e = middle v t p (Finish ∷ l) w h refl small (omega (arith, g, many)) in
            let to : r.no ≡ i + asking v t + size v p = closed.1 (omega (arith, g, many, e, part.put.kept)) ∙ e in
            ap₂ (λ d y. asking_code v i t d ++ (unled v y p ++ [])) to b)
            (all_put v t p (Finish ∷ l) w h refl small [] closed.0.put);
      }

  two_put :
      (v : ℕ) (t : Condition) (p z : Part) (l : List Field)
      → word ≡ temporary v 0
      → fields_at at fs ≡ condition_fields t ++ (Start ∷ (part_fields p ++ (Else ∷ (part_fields z ++ (Finish ∷ l)))))
      → Small fs word out
      → Done fs l (unled v i (either t p z end)) i out (record { at = r.at; i = r.i }) after
  unfolding part_code size
  two_put v t p z l w h small =
      let rest = Else ∷ (part_fields z ++ (Finish ∷ l)) in
      let part = part_put v t p rest w h refl small in
      let closed = closing.two v z l w part.rest (small_kept fs word part.put small) in
      let os = Skip (x.i + 1 + size v z) ∷ unled v (x.i + 1) z in
      let zs_many = code_length v (λ s. s) (x.i + 1) z in
      let many = all_many v t p rest w h refl small os in
      record {
        rest = closed.0.rest;
        put =
            puts_as (many ∙ omega (arith, zs_many) ∙ sym (code_length v (λ s. s) i (either t p z end)))
            (λ g.
            let b = from v t p rest w h refl small (omega (arith, g, many)) in
            let e = middle v t p rest w h refl small (omega (arith, g, many)) in
            let to : r.no ≡ i + asking v t + size v p + 1 = closed.1 (omega (arith, g, many, e, zs_many, part.put.kept)) ∙ omega (arith, e) in
            ap₂ (λ d y. asking_code v i t d ++ (unled v y p ++ os)) to b
            ∙ ap (λ y. asking_code v i t (i + asking v t + size v p + 1) ++ (unled v (i + asking v t) p ++ Skip (y + 1 + size v z) ∷ unled v (y + 1) z)) e
            ∙ ap
            (λ y. asking_code v i t (i + asking v t + size v p + 1) ++ (unled v (i + asking v t) p ++ Skip (i + asking v t + size v p + 1 + size v z) ∷ y))
            (sym (append-nil (unled v (i + asking v t + size v p + 1) z))))
            (all_put v t p rest w h refl small os closed.0.put);
      }

  pub chosen : Choosing fs at word i out (record { at = r.at; i = r.i }) after
  chosen = record { on = omega (arith, sized.on, past.on, first.on, closing.on); one = one_put; two = two_put }
