-- No part ends with a SKIP, so the order before a branch's target tells whether there is a second part.
use Prim.Native.Nat.{ℕ, ◌+◌, ◌-◌, ◌≤◌}
use mathlib.Core.Path.{◌≡◌, refl, ap, ◌∙◌}
use mathlib.Core.Bool.{false}
use mathlib.Core.List.{List, [], ◌∷◌, ◌++◌}
use native.Mathlib.Omega.{arith}
use lib.ListN.{length, get_or}
use Rattle.order.specs.declared.Order.{Order}
use Rattle.order.specs.declared.Order.TheVariants.{Store, Send, Stop}
use Rattle.sheet.specs.Sheet.{Simple, set, send, goto, Part, end, plain, when, either, count}
use Rattle.sheet.specs.Orders.{code, simple_code, simple_size}
use Rattle.sheet.specs.Condition.{asking, asking_code}
use Rattle.sheet.specs.Translation.{size, part_code}
use Rattle.sheet.specs.Within.{PartFormed}
use Rattle.sheet.specs.Guess.{is_skip}
use Rattle.sheet.proofs.Sizes.{count_size, code_length}

-- the last order of a list, o where it is empty
unfoldable last : Order → List Order → Order
last o [] = o
last o (q ∷ l) = last q l

last_append : (o : Order) (l m : List Order) → last o (l ++ m) ≡ last (last o l) m
unfolding last
last_append o [] m = refl
last_append o (q ∷ l) m = last_append q l m

last_at : (o : Order) (l m : List Order) (d : Order) → get_or (o ∷ (l ++ m)) (length l) d ≡ last o l
unfolding last
last_at o [] m d = refl
last_at o (q ∷ l) m d = last_at q l m d

last_before : (l m : List Order) (d : Order) → 1 ≤ length l → get_or (l ++ m) (length l - 1) d ≡ last d l
unfolding last
last_before [] m d h = absurd (omega arith)
last_before (o ∷ l) m d h =
    let k : length (o ∷ l) - 1 ≡ length l = omega arith in ap (λ i. get_or (o ∷ (l ++ m)) i d) k ∙ last_at o l m d

module _ (v n : ℕ) (to : ℕ → ℕ) where
  simple_last : (o : Order) (u : Simple) → is_skip (last o (simple_code v to u)) ≡ false
  unfolding last
  simple_last o (set w e) = rw (last_append o (code v 0 e) (Store w ∷ [])) refl
  simple_last o (send e) = rw (last_append o (code v 0 e) (Send ∷ [])) refl
  simple_last o (goto s) = refl

  -- o is the order before the part
  part_last :
      (p : ℕ) (x : Part) (o : Order)
      → PartFormed v n x
      → (count x ≡ 0 → is_skip o ≡ false)
      → is_skip (last o (part_code v to p x)) ≡ false
  unfolding last part_code PartFormed count
  part_last p end o f h = h refl
  part_last p (plain u l) o f h =
      let b = p + simple_size v u in
      rw (last_append o (simple_code v to u) (part_code v to b l)) (part_last b l _ f.1 (λ z. simple_last o u))
  part_last p (when c x l) o f h =
      let b = p + asking v c in
      rw (
        last_append o (asking_code v p c _) _,
        last_append _ (part_code v to b x) (part_code v to (b + size v x) l),
      )
      (part_last (b + size v x) l _ f.3 (λ z. part_last b x _ f.2 (λ z. absurd (omega (arith, f.1)))))
  part_last p (either c x y l) o f h =
      let b = p + asking v c in
      let d = b + size v x + 1 in
      rw (
        last_append o (asking_code v p c _) _,
        last_append _ (part_code v to b x) _,
        last_append _ (part_code v to d y) (part_code v to (d + size v y) l),
      )
      (part_last (d + size v y) l _ f.5 (λ z. part_last d y _ f.4 (λ z. absurd (omega (arith, f.2)))))

  pub no_skip_last :
      (p : ℕ) (x : Part) (l : List Order)
      → PartFormed v n x
      → 1 ≤ count x
      → is_skip (get_or (part_code v to p x ++ l) (size v x - 1) Stop) ≡ false
  no_skip_last p x l f some =
      let many = code_length v to p x in
      let enough = count_size v x in
      rw (← many, last_before (part_code v to p x) l Stop (omega arith)) (part_last p x Stop f (λ z. absurd (omega arith)))
