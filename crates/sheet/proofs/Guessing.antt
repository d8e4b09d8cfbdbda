-- The guess at the orders of a sheet is that sheet.
use Prim.Native.Nat.{ℕ, zero, suc, ◌+◌, ◌-◌, ◌≤◌, ◌<◌}
use mathlib.Core.Path.{◌≡◌, refl, sym, ap, ◌∙◌}
use mathlib.Core.Bool.{Bool, true, false}
use mathlib.Core.List.{List, [], ◌∷◌, ◌++◌, append_assoc}
use native.Mathlib.Omega.{arith}
use native.Mathlib.Nat.{zero-add}
use borrow.Author.Tests.{lt-ltb, le-leb, lt-leb}
use lib.ListN.{length, get_or, drop, length-append}
use lib.Seq.{drop-drop, drop-append_seam, get_or-drop}
use Rattle.base.specs.Choice.{pick}
use Rattle.order.specs.declared.Operation.{Operation}
use Rattle.order.specs.declared.Operation.TheVariants.{Cmp}
use Rattle.order.specs.declared.Order.{Order}
use Rattle.order.specs.declared.Order.TheVariants.{Store, Jump, Skip, Branch, Cond, Send, Stop}
use Rattle.sheet.specs.declared.Joining.{Joining}
use Rattle.sheet.specs.declared.Joining.TheVariants.{And, Or}
use Rattle.sheet.specs.Sheet.{Expression, word, constant, negated, inverted, binary, Operand, in_word, itself, worked_out, operand}
use Rattle.sheet.specs.Sheet.{Simple, set, send, goto, Condition, compares, joins, Part, end, plain, when, either, count, sheet}
use Rattle.sheet.specs.Sheet.{retarget, retarget_part}
use Rattle.sheet.specs.Orders.{operation, temporary, joined, code, simple_code, simple_size, comparison_code, opposite}
use Rattle.sheet.specs.Formed.{SimpleFormed}
use Rattle.sheet.specs.Condition.{comparisons, AllExpressed, most_comparisons, ConditionFormed}
use Rattle.sheet.specs.Condition.{trying, leaving, try_code, asking, asking_code}
use Rattle.sheet.specs.Translation.{size, first_order, part_code, translation}
use Rattle.sheet.specs.Within.{PartFormed, most_levels, depth}
use Rattle.sheet.specs.Guess.{Read, one, forward, Test, Tests, tests, one_more, test_read, tests_from, is_skip, is_cond, between, on_at, alike}
use Rattle.sheet.specs.Guess.{choice, on_read, guess, place, number_of, numbered, guessed}
use Rattle.sheet.proofs.Sizes.{simple_length, simple_some, try_length, asking_some, asking_length, count_size, code_length}
use Rattle.sheet.proofs.Starts.{number_first}
use Rattle.sheet.proofs.Retargeted.{starts_same, part_again}
use Rattle.sheet.proofs.Reading.{expression_again, comparison_again, stops_before}
use Rattle.sheet.proofs.Lasts.{no_skip_last}
use Rattle.sheet.proofs.Trees.{tests_of, tests_to, opposite_twice, tree_again}

-- ---- places in the orders

-- the orders l stand at the end of os, from order p on
record Ends (os : List Order) (p : ℕ) (l : List Order) : Type 0 where
  left : drop p os ≡ l
  counted : p + length l ≡ length os

ends_behind : (os : List Order) (p q : ℕ) (c l : List Order) → p + length c ≡ q → Ends os p (c ++ l) → Ends os q l
ends_behind os p q c l e s =
    let many = length-append c l in
    let all = s.counted in
    record {
      left = ap (λ k. drop k os) (sym e) ∙ sym (drop-drop (length c) p os) ∙ ap (drop (length c)) s.left ∙ drop-append_seam c l;
      counted = omega arith;
    }

-- the order before order d
before_told :
    (os : List Order) (p d : ℕ) (l : List Order) (k : ℕ)
    → Ends os p l
    → p + k ≡ d - 1
    → get_or os (d - 1) Stop ≡ get_or l k Stop
before_told os p d l k s e =
    ap (λ i. get_or os i Stop) (sym e) ∙ sym (get_or-drop p os k Stop) ∙ ap (λ m. get_or m k Stop) s.left

between_yes : (p a q : ℕ) → p < a → a ≤ q → between p a q ≡ true
unfolding pick
between_yes p a q h k = rw (lt-ltb p a h) (le-leb a q k)

-- ---- the tests of a condition are read from its orders

module _ (v : ℕ) where
  -- a run's first member goes on, at the answer of its word, to the rest of the run, which begins with order q
  try_joins :
      (p : ℕ) (g : Bool) (y n : ℕ) (w : Joining) (a b : Condition) (q : ℕ)
      → p + trying v a ≡ q
      → try_code v p g y n (joins w a b)
      ≡ try_code v p (on_at w) (pick (on_at w) q y) (pick (on_at w) n q) a ++ try_code v q g y n b
  unfolding try_code pick
  try_joins p g y n And a b q e = rw e
  try_joins p g y n Or a b q e = rw e

  goes_on_law : (w : Joining) (y n q : ℕ) → pick (on_at w) (pick (on_at w) q y) (pick (on_at w) n q) ≡ q
  unfolding pick
  goes_on_law And y n q = refl
  goes_on_law Or y n q = refl

  -- where the first member leads on the answer that settles the run, whose end is order e
  settles :
      (w : Joining) (g : Bool) (y n q e d : ℕ)
      → pick g y n ≡ e
      → pick g n y ≡ d
      → pick (on_at w) (pick (on_at w) n q) (pick (on_at w) q y) ≡ pick (alike (on_at w) g) d e
  unfolding pick
  settles And true y n q e d near far = far
  settles And false y n q e d near far = near
  settles Or true y n q e d near far = near
  settles Or false y n q e d near far = far

module _ (v : ℕ) (os : List Order) where
  abbrev more_tests : List Test → Tests → Tests
  more_tests [] k = k
  more_tests (t ∷ ts) k = one_more t (more_tests ts k)

  more_append : (xs ys : List Test) (k : Tests) → more_tests (xs ++ ys) k ≡ more_tests xs (more_tests ys k)
  more_append [] ys k = refl
  more_append (t ∷ xs) ys k = ap (one_more t) (more_append xs ys k)

  all_tests : (ts : List Test) (l : List Order) → more_tests ts (tests [] l) ≡ tests ts l
  all_tests [] l = refl
  all_tests (t ∷ ts) l = ap (one_more t) (all_tests ts l)

  -- m tests, of which k are behind those of c; a yes leads to order y and a no to order n, and one of the two is right behind
  tests_read :
      (c : Condition) (m k p : ℕ) (g : Bool) (y n d : ℕ) (l : List Order)
      → AllExpressed v c
      → m ≡ comparisons c + k
      → pick g y n ≡ p + trying v c
      → pick g n y ≡ d
      → Ends os p (try_code v p g y n c ++ l)
      → tests_from os m v (try_code v p g y n c ++ l) ≡ more_tests (tests_of v p g d c) (tests_from os k v l)
  unfolding AllExpressed comparisons trying try_code tests_from tests_of
  tests_read (compares r a b) zero k p g y n d l f e near far s = absurd (omega arith)
  tests_read (compares r a b) (suc m) k p g y n d l f e near far s =
      let cs = comparison_code v a b in
      let branch = Branch (leaving g r) (pick g n y) in
      let all = s.counted in
      let many = length-append (cs ++ branch ∷ []) l in
      let of_it = length-append cs (branch ∷ []) in
      let behind : length os - length l ≡ p + (length cs + 1) = omega arith in
      let left : m ≡ k = omega arith in
      ap (λ o. test_read os (tests_from os m v) (forward v [] (word 0) o)) (append_assoc cs (branch ∷ []) l)
      ∙ ap (test_read os (tests_from os m v)) (comparison_again v a b f.0 f.1 [] (word 0) (branch ∷ l))
      ∙ rw (behind, far, left)
  tests_read (joins w a b) m k p g y n d l f e near far s =
      let q = p + trying v a in
      let z = q + trying v b in
      let yes_at = pick (on_at w) q y in
      let no_at = pick (on_at w) n q in
      let xs = try_code v p (on_at w) yes_at no_at a in
      let ys = try_code v q g y n b in
      let firsts = tests_of v p (on_at w) (pick (alike (on_at w) g) d z) a in
      let parted = ap (λ o. o ++ l) (try_joins v p g y n w a b q refl) ∙ append_assoc xs ys l in
      let here : Ends os p (xs ++ (ys ++ l)) = rw parted at s in
      let after : Ends os q (ys ++ l) = ends_behind os p q xs _ (omega (arith, try_length v p (on_at w) yes_at no_at a)) here in
      let near_b : pick g y n ≡ z = near ∙ omega arith in
      ap (tests_from os m v) parted
      ∙ tests_read a m (comparisons b + k) p (on_at w) yes_at no_at _ (ys ++ l) f.0 (omega arith) (goes_on_law v w y n q)
      (settles v w g y n q z d near_b far) here
      ∙ ap (more_tests firsts) (tests_read b (comparisons b + k) k q g y n d l f.1 refl near_b far after)
      ∙ sym (more_append firsts (tests_of v q g d b) _)

-- ---- only a condition of two or more begins with COND

module _ (v : ℕ) where
  abbrev Opens : List Order → Type 0
  Opens l = (m : List Order) → is_cond (get_or (l ++ m) 0 Stop) ≡ false

  opens_append : (l k : List Order) → Opens l → Opens (l ++ k)
  opens_append l k o m = rw (append_assoc l k m) (o (k ++ m))

  joined_opens :
      (f : Operation) (d : ℕ) (x : Operand) (left right : List Order)
      → Opens left
      → Opens (joined f v d x left right)
  joined_opens f d (in_word w) left right o = opens_append left _ o
  joined_opens f d (itself n) left right o = opens_append left _ o
  joined_opens f d worked_out left right o =
      opens_append (left ++ Store (temporary v d) ∷ right) _ (opens_append left (Store (temporary v d) ∷ right) o)

  code_opens : (d : ℕ) (e : Expression) → Opens (code v d e)
  unfolding code
  code_opens d (word w) = λ m. refl
  code_opens d (constant n) = λ m. refl
  code_opens d (negated e) = opens_append (code v d e) _ (code_opens d e)
  code_opens d (inverted e) = opens_append (code v d e) _ (code_opens d e)
  code_opens d (binary o a b) = joined_opens (operation o) d (operand b) (code v d a) (code v (suc d) b) (code_opens d a)

  simple_opens : (to : ℕ → ℕ) (u : Simple) → Opens (simple_code v to u)
  simple_opens to (set w e) = opens_append (code v 0 e) _ (code_opens 0 e)
  simple_opens to (send e) = opens_append (code v 0 e) _ (code_opens 0 e)
  simple_opens to (goto s) = λ m. refl

  comparison_opens : (a b : Expression) → Opens (comparison_code v a b)
  comparison_opens a b = joined_opens Cmp 0 (operand b) (code v 0 a) (code v 1 b) (code_opens 0 a)

module _ (v n : ℕ) (to : ℕ → ℕ) (os : List Order) where
  -- ---- one instruction, of the orders before order q

  abbrev by : ℕ → ℕ → ℕ → List Order → Part
  by f deep q l = guess os f deep v q l

  end_guess : (f deep p q : ℕ) (l : List Order) → Ends os p l → p ≡ q → by f deep q l ≡ end
  unfolding guess pick
  end_guess zero deep p q l s e = refl
  end_guess (suc f) zero p q l s e = let all = s.counted in rw (le-leb q (length os - length l) (omega arith))
  end_guess (suc f) (suc deep) p q l s e = let all = s.counted in rw (le-leb q (length os - length l) (omega arith))

  -- what is read at the orders of u
  abbrev simple_read : Simple → List Order → Read
  simple_read (set w e) l = one e (Store w ∷ l)
  simple_read (send e) l = one e (Send ∷ l)
  simple_read (goto s) l = one (word 0) (Jump (to s) ∷ l)

  simple_read_law :
      (u : Simple) (l : List Order)
      → SimpleFormed v n u
      → forward v [] (word 0) (simple_code v to u ++ l) ≡ simple_read u l
  unfolding forward
  simple_read_law (set w e) l x =
      ap (forward v [] (word 0)) (append_assoc (code v 0 e) _ l)
      ∙ expression_again v 0 e x.1 [] (word 0) (Store w ∷ l)
      ∙ stops_before v [] e w l x.0.1
  simple_read_law (send e) l x =
      ap (forward v [] (word 0)) (append_assoc (code v 0 e) _ l) ∙ expression_again v 0 e x [] (word 0) (Send ∷ l)
  simple_read_law (goto s) l x = refl

  simple_told :
      (inner : ℕ → List Order → Part) (h : List Order → Part) (q : ℕ) (u : Simple) (l : List Order)
      → on_read os inner h q (simple_read u l) ≡ plain (retarget to u) (h l)
  simple_told inner h q (set w e) l = refl
  simple_told inner h q (send e) l = refl
  simple_told inner h q (goto s) l = refl

  plain_guess :
      (f deep p q : ℕ) (u : Simple) (l : List Order)
      → SimpleFormed v n u
      → Ends os p (simple_code v to u ++ l)
      → p < q
      → by (suc f) deep q (simple_code v to u ++ l) ≡ plain (retarget to u) (by f deep q l)
  unfolding guess pick
  plain_guess f zero p q u l x s h =
      let all = s.counted in
      rw (lt-leb q (length os - length (simple_code v to u ++ l)) (omega arith), simple_opens v to u l, simple_read_law u l x)
      (simple_told (λ q l. end) (by f zero q) q u l)
  plain_guess f (suc deep) p q u l x s h =
      let all = s.counted in
      rw (lt-leb q (length os - length (simple_code v to u ++ l)) (omega arith), simple_opens v to u l, simple_read_law u l x)
      (simple_told (by f deep) (by f (suc deep) q) q u l)

  asking_guess :
      (f deep p q : ℕ) (c : Condition) (d : ℕ) (l : List Order)
      → ConditionFormed v c
      → Ends os p (asking_code v p c d ++ l)
      → p < q
      → p + asking v c < d
      → by (suc f) (suc deep) q (asking_code v p c d ++ l) ≡ choice os (by f deep) (by f (suc deep) q) q c d l
  unfolding guess pick asking asking_code try_code AllExpressed tests_from
  asking_guess f deep p q (compares r a b) d l x s h ahead =
      let all = s.counted in
      rw (
        lt-leb q (length os - length (asking_code v p (compares r a b) d ++ l)) (omega arith),
        append_assoc (comparison_code v a b) (Branch (opposite r) d ∷ []) l,
        comparison_opens v a b (Branch (opposite r) d ∷ l),
        comparison_again v a b x.0.0 x.0.1 [] (word 0) (Branch (opposite r) d ∷ l),
        opposite_twice r,
      )
  asking_guess f deep p q (joins w a b) d l x s h ahead =
      let all = s.counted in
      let c = joins w a b in
      let k = comparisons c in
      let z = p + (1 + trying v c) in
      let cs = try_code v (p + 1) true z d c in
      let inside : Ends os (p + 1) (cs ++ l) = ends_behind os p (p + 1) (Cond k ∷ []) _ (omega arith) s in
      let them =
      tests_read v os c k 0 (p + 1) true z d d l x.0 (omega arith) (omega arith) refl inside
      ∙ all_tests v os (tests_of v (p + 1) true d c) l
      in
      rw (
        lt-leb q (length os - length (Cond k ∷ (cs ++ l))) (omega arith),
        le-leb k most_comparisons x.2,
        them,
        tests_to v (p + 1) true d c,
        tree_again v k (p + 1) true d c (omega arith) x.1 (omega arith),
      )

  -- ---- parts

  part_guess :
      (f deep p q : ℕ) (x : Part) (rest : List Order)
      → Ends os p (part_code v to p x ++ rest)
      → PartFormed v n x
      → count x ≤ f
      → depth x ≤ deep
      → p + size v x ≡ q
      → by f deep q (part_code v to p x ++ rest) ≡ retarget_part to x
  unfolding part_code size count depth PartFormed retarget_part pick
  part_guess f deep p q end rest s w enough room e = end_guess f deep p q rest s (omega arith)
  part_guess zero deep p q (plain u l) rest s w enough room e = absurd (omega arith)
  part_guess zero deep p q (when c x l) rest s w enough room e = absurd (omega arith)
  part_guess zero deep p q (either c x y l) rest s w enough room e = absurd (omega arith)
  part_guess (suc f) deep p q (plain u l) rest s w enough room e =
      let us = simple_code v to u in
      let d = p + simple_size v u in
      let ls = part_code v to d l in
      let some = simple_some v u in
      let many = simple_length v to u in
      let parted = append_assoc us ls rest in
      let here : Ends os p (us ++ (ls ++ rest)) = rw parted at s in
      let after : Ends os d (ls ++ rest) = ends_behind os p d us _ (omega arith) here in
      rw parted
      (plain_guess f deep p q u (ls ++ rest) w.0 here (omega arith)
      ∙ ap (plain (retarget to u)) (part_guess f deep d q l rest after w.1 (omega arith) room (omega arith)))
  part_guess (suc f) zero p q (when c x l) rest s w enough room e = absurd (omega arith)
  part_guess (suc f) zero p q (either c x y l) rest s w enough room e = absurd (omega arith)
  part_guess (suc f) (suc deep) p q (when c x l) rest s w enough room e =
      let b = p + asking v c in
      let z = b + size v x in
      let cs = asking_code v p c z in
      let xs = part_code v to b x in
      let ls = part_code v to z l in
      let some_asked = asking_some v c in
      let asked = asking_length v p c z in
      let first = code_length v to b x in
      let some = count_size v x in
      let filled = w.1 in
      let parted = append_assoc cs (xs ++ ls) rest ∙ ap (λ m. cs ++ m) (append_assoc xs ls rest) in
      let here : Ends os p (cs ++ (xs ++ (ls ++ rest))) = rw parted at s in
      let bodies : Ends os b (xs ++ (ls ++ rest)) = ends_behind os p b cs _ (omega arith) here in
      let after : Ends os z (ls ++ rest) = ends_behind os b z xs _ (omega arith) bodies in
      let there = bodies.counted in
      let no_skip : is_skip (get_or os (z - 1) Stop) ≡ false =
      ap is_skip (before_told os b z _ (size v x - 1) bodies (omega arith))
      ∙ no_skip_last v n to b x (ls ++ rest) w.2 w.1
      in
      rw parted
      (asking_guess f deep p q c z (xs ++ (ls ++ rest)) w.0 here (omega arith) (omega arith)
      ∙ rw (
        between_yes (length os - length (xs ++ (ls ++ rest))) z q (omega arith) (omega arith),
        no_skip,
        after.left,
        part_guess f deep b z x (ls ++ rest) bodies w.2 (omega arith) (omega arith) refl,
        part_guess f (suc deep) z q l rest after w.3 (omega arith) (omega arith) (omega arith),
      ))
  part_guess (suc f) (suc deep) p q (either c x y l) rest s w enough room e =
      let b = p + asking v c in
      let d = b + size v x + 1 in
      let z = d + size v y in
      let cs = asking_code v p c d in
      let xs = part_code v to b x in
      let ys = part_code v to d y in
      let ls = part_code v to z l in
      let some_asked = asking_some v c in
      let asked = asking_length v p c d in
      let first = code_length v to b x in
      let second = code_length v to d y in
      let some = count_size v y in
      let filled = w.2 in
      let parted =
      append_assoc cs (xs ++ Skip z ∷ (ys ++ ls)) rest
      ∙ ap (λ m. cs ++ m) (append_assoc xs (Skip z ∷ (ys ++ ls)) rest ∙ ap (λ m. xs ++ Skip z ∷ m) (append_assoc ys ls rest))
      in
      let here : Ends os p (cs ++ (xs ++ Skip z ∷ (ys ++ (ls ++ rest)))) = rw parted at s in
      let bodies : Ends os b (xs ++ Skip z ∷ (ys ++ (ls ++ rest))) = ends_behind os p b cs _ (omega arith) here in
      let at_skip : Ends os (b + size v x) (Skip z ∷ (ys ++ (ls ++ rest))) = ends_behind os b _ xs _ (omega arith) bodies in
      let seconds : Ends os d (ys ++ (ls ++ rest)) = ends_behind os (b + size v x) d (Skip z ∷ []) _ (omega arith) at_skip in
      let after : Ends os z (ls ++ rest) = ends_behind os d z ys _ (omega arith) seconds in
      let there = bodies.counted in
      let skip_there : get_or os (d - 1) Stop ≡ Skip z = before_told os (b + size v x) d _ 0 at_skip (omega arith) in
      rw parted
      (asking_guess f deep p q c d (xs ++ Skip z ∷ (ys ++ (ls ++ rest))) w.0 here (omega arith) (omega arith)
      ∙ rw (
        between_yes (length os - length (xs ++ Skip z ∷ (ys ++ (ls ++ rest)))) d q (omega arith) (omega arith),
        skip_there,
        between_yes d z q (omega arith) (omega arith),
        seconds.left,
        after.left,
        part_guess f deep b (d - 1) x (Skip z ∷ (ys ++ (ls ++ rest))) bodies w.3 (omega arith) (omega arith) (omega arith),
        part_guess f deep d z y (ls ++ rest) seconds w.4 (omega arith) (omega arith) refl,
        part_guess f (suc deep) z q l rest after w.5 (omega arith) (omega arith) (omega arith),
      ))

-- ---- the whole

pub guess_right :
    (v : ℕ) (x : Part)
    → PartFormed v (count x) x
    → depth x ≤ most_levels
    → guessed v (translation (sheet v x)) ≡ x
guess_right v x f shallow =
    let to = first_order v x in
    let os = translation (sheet v x) in
    let many = code_length v to 0 x in
    let few = count_size v x in
    let all = length-append (part_code v to 0 x) (Stop ∷ []) in
    ap (numbered v)
    (part_guess v (count x) to os (length os) most_levels 0 (length os - 1) x (Stop ∷ [])
    (record { left = refl; counted = zero-add (length os) }) f (omega arith) shallow (omega arith))
    ∙ part_again v (count x) to (number_of v (retarget_part to x))
    (λ s h. ap (λ l. suc (place (to s) l)) (starts_same v to 0 x) ∙ number_first v x s h) x f
