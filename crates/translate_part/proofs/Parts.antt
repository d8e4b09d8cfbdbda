-- The orders of instructions, one behind the other.
use Prim.Native.Nat.{ℕ, ◌+◌}
use mathlib.Core.Path.{◌≡◌, refl, sym, ap, subst, ◌∙◌}
use Rattle.std.specs.Prelude.{None, Some}
use mathlib.Core.List.{List, [], ◌∷◌, ◌++◌, append_assoc}
use native.Mathlib.Omega.{arith}
use lib.ListN.{length, length-append}
use Rattle.order.specs.declared.Order.{Order}
use Rattle.order.specs.declared.Order.TheVariants.{Store, Jump, Skip, Send as SendOrder}
use Rattle.sheet.specs.declared.Field.{Field}
use Rattle.sheet.specs.declared.Field.TheVariants.{Else, Start, Finish}
use Rattle.sheet.specs.Sheet.{Simple, set as setting, send, goto, Part, end, plain, when, either}
use Rattle.sheet.specs.Fields.{expression_fields}
use Rattle.sheet.specs.Memory.{condition_fields, part_fields}
use Rattle.sheet.specs.Orders.{temporary, code, simple_code, simple_size}
use Rattle.sheet.specs.Condition.{asking, asking_code}
use Rattle.sheet.specs.Translation.{size, part_code}
use Rattle.sheet.proofs.Sizes.{simple_length, code_length}
use Rattle.sheet_field.specs.Memory.{fields_at}
use Rattle.translate_expression.specs.declared.Spot.{Spot}
use Rattle.translate_expression.specs.Internal.{behind, Puts, Done, Putting}
use Rattle.translate_expression.proofs.Turns.{puts_more, fields_behind}
use Rattle.translate_condition.specs.Internal.{Small}
use Rattle.translate_condition.proofs.Looking.{not_longer}
use Rattle.translate_condition.proofs.Tries.{puts_as, puts_none, small_kept}
use Rattle.translate_part.specs.declared.Opening.TheVariants.{Last, Goto as Jumps, If as Asks}
use Rattle.translate_part.specs.Internal.{first_opening, unled, Ending, Parting, Choosing}

-- ---- an instruction with an expression

pub ending_put :
    (fs : List ℕ) (at : ℕ) (o : Order) (word i : ℕ) (out : List ℕ) (s : Spot) (m : List ℕ)
    → Putting fs at word i out s m
    → (r : ℕ) (after : List ℕ)
    → Puts (o ∷ []) s.i m r after
    → Ending fs at o word i out (record { at = s.at; i = r }) after
ending_put fs at o word i out s m p r after q = record {
  on = p.on;
  whole = λ v e l w h small.
      let done = p.whole v 0 e l w h (omega (arith, small.fields, not_longer fs at (expression_fields e) l h)) in
      record { rest = done.rest; put = puts_more done.put q };
}

-- ---- instructions behind instructions

module _ (fs : List ℕ) (word : ℕ) where
  -- the orders os have n orders and end before those of l
  then_part :
      {mid l : List Field} (v n : ℕ) (os qs : List Order) (x : Part) {i : ℕ} {out m last : List ℕ} {r t : Spot}
      → Done fs mid os i out r m
      → Done fs l (unled v r.i x) r.i m t last
      → length os ≡ n
      → os ++ unled v (i + n) x ≡ qs
      → Done fs l qs i out t last
  then_part v n os qs x {i} {out} {m} {last} {r} {t} one two many all = record {
    rest = two.rest;
    put =
        puts_as
        (length-append os (unled v r.i x) ∙ ap (λ k. length os + k) (code_length v (λ s. s) r.i x ∙ sym (code_length v (λ s. s) (i + n) x))
        ∙ sym (length-append os (unled v (i + n) x)) ∙ ap length all)
        (λ h. let place = one.put.place (omega (arith, h, length-append os (unled v r.i x))) in
        ap (λ k. os ++ unled v k x) (place ∙ ap (λ k. i + k) many) ∙ all)
        (puts_more one.put two.put);
  }

  module _ (at i : ℕ) (out : List ℕ) where
    -- no instruction
    pub part_ends : first_opening (fields_at at fs) ≡ None → Parting fs at word i out (record { at = at; i = i }) out
    unfolding part_fields part_code
    part_ends none = record { on = omega arith; whole = ended }
      where
        ended :
            (v : ℕ) (x : Part) (l : List Field)
            → word ≡ temporary v 0
            → fields_at at fs ≡ part_fields x ++ l
            → first_opening l ≡ None
            → Small fs word out
            → Done fs l (unled v i x) i out (record { at = at; i = i }) out
        ended v end l w h stops small = record { rest = h; put = puts_none i out }
        ended v (plain (setting n e) x) l w h stops small = let z : ◌≡◌ {A = ℕ} 0 1 = cc (ap first_opening h) in absurd (omega arith)
        ended v (plain (send e) x) l w h stops small = let z : ◌≡◌ {A = ℕ} 0 1 = cc (ap first_opening h) in absurd (omega arith)
        ended v (plain (goto s) x) l w h stops small = let z : ◌≡◌ {A = ℕ} 0 1 = cc (ap first_opening h) in absurd (omega arith)
        ended v (when c x y) l w h stops small = let z : ◌≡◌ {A = ℕ} 0 1 = cc (ap first_opening h) in absurd (omega arith)
        ended v (either c x y z) l w h stops small = let z : ◌≡◌ {A = ℕ} 0 1 = cc (ap first_opening h) in absurd (omega arith)

    module _ (r : Spot) (m : List ℕ) (t : Spot) (last : List ℕ) (rest : Parting fs r.at word r.i m t last) where
      -- an instruction that is no IF, and those behind it
      simply :
          (v : ℕ) (u : Simple) (x : Part) (l : List Field)
          → word ≡ temporary v 0
          → first_opening l ≡ None
          → Small fs word out
          → Done fs (part_fields x ++ l) (simple_code v (λ s. s) u) i out r m
          → Done fs l (unled v i (plain u x)) i out t last
      unfolding part_code
      simply v u x l w stops small done =
          then_part v (simple_size v u) (simple_code v (λ s. s) u) (unled v i (plain u x)) x done
          (rest.whole v x l w done.rest stops (small_kept fs word done.put small))
          (simple_length v (λ s. s) u) refl

      pub last_whole :
          (o : Order)
          → Some (Last o) ≡ first_opening (fields_at at fs)
          → Ending fs (at + 1) o word i out r m
          → (v : ℕ) (x : Part) (l : List Field)
          → word ≡ temporary v 0
          → fields_at at fs ≡ part_fields x ++ l
          → first_opening l ≡ None
          → Small fs word out
          → Done fs l (unled v i x) i out t last
      unfolding part_fields
      last_whole o known p v end l w h stops small = let z : ◌≡◌ {A = ℕ} 0 1 = cc (ap first_opening h) in absurd (omega arith)
      last_whole o known p v (plain (setting n e) x) l w h stops small =
          let same : o ≡ Store n = cc (ap first_opening h) in
          simply v (setting n e) x l w stops small
          (subst (λ q. Done fs (part_fields x ++ l) (code v 0 e ++ q ∷ []) i out r m) same
          (p.whole v e (part_fields x ++ l) w (fields_behind at fs ∙ ap behind h ∙ append_assoc (expression_fields e) (part_fields x) l) small))
      last_whole o known p v (plain (send e) x) l w h stops small =
          let same : o ≡ SendOrder = cc (ap first_opening h) in
          simply v (send e) x l w stops small
          (subst (λ q. Done fs (part_fields x ++ l) (code v 0 e ++ q ∷ []) i out r m) same
          (p.whole v e (part_fields x ++ l) w (fields_behind at fs ∙ ap behind h ∙ append_assoc (expression_fields e) (part_fields x) l) small))
      last_whole o known p v (plain (goto s) x) l w h stops small = let z : ◌≡◌ {A = ℕ} 0 1 = cc (ap first_opening h) in absurd (omega arith)
      last_whole o known p v (when c x y) l w h stops small = let z : ◌≡◌ {A = ℕ} 0 1 = cc (ap first_opening h) in absurd (omega arith)
      last_whole o known p v (either c x y z) l w h stops small = let z : ◌≡◌ {A = ℕ} 0 1 = cc (ap first_opening h) in absurd (omega arith)

      pub goto_whole :
          (n : ℕ)
          → Some (Jumps n) ≡ first_opening (fields_at at fs)
          → r.at ≡ at + 1
          → Puts (Jump n ∷ []) i out r.i m
          → (v : ℕ) (x : Part) (l : List Field)
          → word ≡ temporary v 0
          → fields_at at fs ≡ part_fields x ++ l
          → first_opening l ≡ None
          → Small fs word out
          → Done fs l (unled v i x) i out t last
      unfolding part_fields
      goto_whole n known here p v end l w h stops small = let z : ◌≡◌ {A = ℕ} 0 1 = cc (ap first_opening h) in absurd (omega arith)
      goto_whole n known here p v (plain (setting k e) x) l w h stops small = let z : ◌≡◌ {A = ℕ} 0 1 = cc (ap first_opening h) in absurd (omega arith)
      goto_whole n known here p v (plain (send e) x) l w h stops small = let z : ◌≡◌ {A = ℕ} 0 1 = cc (ap first_opening h) in absurd (omega arith)
      goto_whole n known here p v (plain (goto s) x) l w h stops small =
          let same : n ≡ s = cc (ap first_opening h) in
          simply v (goto s) x l w stops small
          (record {
            rest = ap (λ k. fields_at k fs) here ∙ fields_behind at fs ∙ ap behind h;
            put = subst (λ k. Puts (Jump k ∷ []) i out r.i m) same p;
          })
      goto_whole n known here p v (when c x y) l w h stops small = let z : ◌≡◌ {A = ℕ} 0 1 = cc (ap first_opening h) in absurd (omega arith)
      goto_whole n known here p v (either c x y z) l w h stops small = let z : ◌≡◌ {A = ℕ} 0 1 = cc (ap first_opening h) in absurd (omega arith)

      pub if_whole :
          Some Asks ≡ first_opening (fields_at at fs)
          → Choosing fs (at + 1) word i out r m
          → (v : ℕ) (x : Part) (l : List Field)
          → word ≡ temporary v 0
          → fields_at at fs ≡ part_fields x ++ l
          → first_opening l ≡ None
          → Small fs word out
          → Done fs l (unled v i x) i out t last
      unfolding part_fields part_code size
      if_whole known p v end l w h stops small = let z : ◌≡◌ {A = ℕ} 0 1 = cc (ap first_opening h) in absurd (omega arith)
      if_whole known p v (plain (setting k e) x) l w h stops small = let z : ◌≡◌ {A = ℕ} 0 1 = cc (ap first_opening h) in absurd (omega arith)
      if_whole known p v (plain (send e) x) l w h stops small = let z : ◌≡◌ {A = ℕ} 0 1 = cc (ap first_opening h) in absurd (omega arith)
      if_whole known p v (plain (goto s) x) l w h stops small = let z : ◌≡◌ {A = ℕ} 0 1 = cc (ap first_opening h) in absurd (omega arith)
      if_whole known p v (when c x y) l w h stops small =
          let done = p.one v c x (part_fields y ++ l) w
          (fields_behind at fs ∙ ap behind h
          ∙ append_assoc (condition_fields c) (Start ∷ (part_fields x ++ (Finish ∷ part_fields y))) l
          ∙ ap (λ k. condition_fields c ++ (Start ∷ k)) (append_assoc (part_fields x) (Finish ∷ part_fields y) l)) small in
          then_part v (asking v c + size v x) (unled v i (when c x end)) (unled v i (when c x y)) y done
          (rest.whole v y l w done.rest stops (small_kept fs word done.put small))
          (code_length v (λ s. s) i (when c x end) ∙ omega arith)
          (append_assoc (asking_code v i c (i + asking v c + size v x)) (unled v (i + asking v c) x ++ []) (unled v (i + (asking v c + size v x)) y)
          ∙ ap (λ k. asking_code v i c (i + asking v c + size v x) ++ k)
          (append_assoc (unled v (i + asking v c) x) [] (unled v (i + (asking v c + size v x)) y)
          ∙ ap (λ k. unled v (i + asking v c) x ++ unled v k y) (omega arith)))
      if_whole known p v (either c x y y₂) l w h stops small =
          let done = p.two v c x y (part_fields y₂ ++ l) w
          (fields_behind at fs ∙ ap behind h
          ∙ append_assoc (condition_fields c) (Start ∷ (part_fields x ++ (Else ∷ (part_fields y ++ (Finish ∷ part_fields y₂))))) l
          ∙ ap (λ k. condition_fields c ++ (Start ∷ k))
          (append_assoc (part_fields x) (Else ∷ (part_fields y ++ (Finish ∷ part_fields y₂))) l
          ∙ ap (λ k. part_fields x ++ (Else ∷ k)) (append_assoc (part_fields y) (Finish ∷ part_fields y₂) l))) small in
          then_part v (asking v c + size v x + 1 + size v y) (unled v i (either c x y end)) (unled v i (either c x y y₂)) y₂ done
          (rest.whole v y₂ l w done.rest stops (small_kept fs word done.put small))
          (code_length v (λ s. s) i (either c x y end) ∙ omega arith)
          (append_assoc (asking_code v i c (i + asking v c + size v x + 1)) _ (unled v (i + (asking v c + size v x + 1 + size v y)) y₂)
          ∙ ap (λ k. asking_code v i c (i + asking v c + size v x + 1) ++ k)
          (append_assoc (unled v (i + asking v c) x) _ (unled v (i + (asking v c + size v x + 1 + size v y)) y₂)
          ∙ ap (λ k. unled v (i + asking v c) x ++ (Skip (i + asking v c + size v x + 1 + size v y) ∷ k))
          (append_assoc (unled v (i + asking v c + size v x + 1) y) [] (unled v (i + (asking v c + size v x + 1 + size v y)) y₂)
          ∙ ap (λ k. unled v (i + asking v c + size v x + 1) y ++ unled v k y₂) (omega arith))))
