-- Orders put, and others put later where room was left for them.
use Prim.Native.Nat.{ℕ, suc, ◌+◌, ◌≤◌, ◌<◌}
use mathlib.Core.Path.{◌≡◌, refl, sym, ap, ◌∙◌}
use mathlib.Core.List.{List, [], ◌∷◌, ◌++◌, map}
use native.Mathlib.Omega.{arith}
use lib.ListN.{length, set, length-append, length-map}
use lib.Seq.{sets, set_comm}
use Rattle.base.proofs.Cases.{by_less}
use Rattle.base.proofs.Lists.{sets_append}
use Rattle.order.specs.declared.Order.{Order}
use Rattle.order.specs.Memory.{order_word}
use Rattle.translate_expression.specs.Internal.{Puts}
use Rattle.translate_expression.proofs.Turns.{map_append}
use Rattle.translate_size.specs.Answers.{capped}
use Rattle.translate_part.specs.Internal.{Further}

module _ {A : Type 0} where
  set_before : (l bs : List A) (k j : ℕ) (o : A) → k < j → set (sets l j bs) k o ≡ sets (set l k o) j bs
  set_before l [] k j o h = refl
  set_before l (b ∷ bs) k j o h =
      set_before (set l j b) bs k (suc j) o (omega arith) ∙ ap (λ m. sets m (suc j) bs) (set_comm l j k b o (λ e. omega arith))

  sets_before : (l xs ys : List A) (i j : ℕ) → i + length xs ≤ j → sets (sets l j ys) i xs ≡ sets (sets l i xs) j ys
  sets_before l [] ys i j h = refl
  sets_before l (x ∷ xs) ys i j h =
      ap (λ m. sets m (suc i) xs) (set_before l ys i j x (omega arith)) ∙ sets_before (set l i x) xs ys (suc i) j (omega arith)

-- room for as many as a word can count is room for all, in an array whose length is a word
pub further_all_law : {long i n j : ℕ} (k : ℕ) → n ≡ capped k → long < 4294967295 → Further long i n j → Further long i k j
further_all_law k e few p = record { room = λ h. p.room (omega (arith, e)) ∙ omega (arith, e); over = λ g h. p.over g (omega (arith, e)) }

-- ys are put behind the room for xs, and then xs
pub puts_before :
    {xs ys : List Order} {i j r q : ℕ} {out m after : List ℕ}
    → Further (length out) i (length xs) j
    → Puts ys j out r m
    → Puts xs i m q after
    → Puts (xs ++ ys) i out r after
puts_before {xs} {ys} {i} {j} {r} {q} {out} {m} {after} far p w = record {
  place = λ h. let k = here h in p.place (omega (arith, h, many, k)) ∙ omega (arith, many, k);
  orders = λ h.
      let k = here h in
      w.orders (omega (arith, h, many, p.kept))
      ∙ ap (λ l. sets l i (map order_word xs)) (p.orders (omega (arith, h, many, k)) ∙ ap (λ n. sets out n (map order_word ys)) k)
      ∙ sets_before out (map order_word xs) (map order_word ys) i (i + length xs) (omega (arith, length-map xs order_word))
      ∙ ap (λ n. sets (sets out i (map order_word xs)) (i + n) (map order_word ys)) (sym (length-map xs order_word))
      ∙ sym (sets_append out i (map order_word xs) (map order_word ys))
      ∙ ap (sets out i) (sym (map_append order_word xs ys));
  full = λ g h.
      by_less (i + length xs) (length out)
      (λ l. let k = far.room (omega arith) in p.full (omega (arith, k)) (omega (arith, k, h, many)))
      (λ l. let k = far.over g l in p.full (omega (arith, k)) (omega (arith, k)));
  kept = w.kept ∙ p.kept;
}
  where
    many : length (xs ++ ys) ≡ length xs + length ys
    many = length-append xs ys

    here : i + length (xs ++ ys) ≤ length out → j ≡ i + length xs
    here h = far.room (omega (arith, h, many))
