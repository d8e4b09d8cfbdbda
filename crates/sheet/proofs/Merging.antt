-- Conditions that are joined as a sheet does are merged, and have the comparisons, the orders and the meaning that they have where
-- they are only put together.
use Prim.Native.Nat.{ℕ, ◌+◌, max}
use mathlib.Core.Path.{◌≡◌, refl, sym, ap, ◌∙◌}
use mathlib.Core.Bool.{Bool, true, false}
use mathlib.Core.List.{List, append_assoc}
use native.Mathlib.Omega.{arith}
use native.Mathlib.Nat.{add_assoc}
use Rattle.base.specs.Choice.{pick}
use Rattle.sheet.specs.declared.Joining.{Joining}
use Rattle.sheet.specs.declared.Joining.TheVariants.{And, Or}
use Rattle.sheet.specs.Sheet.{Condition, compares, joins}
use Rattle.sheet.specs.Worth.{Counted, gives, faults, and_then}
use Rattle.sheet.specs.Condition.{comparisons, Merged, AllExpressed, condition_temporaries, trying, try_code, tried}
use Rattle.sheet.specs.Merge.{join_of}

pub join_merged : (w : Joining) (a b : Condition) → Merged a → Merged b → Merged (join_of w a b)
unfolding join_of Merged pick
join_merged w (compares r x y) b f g = (refl, tt, g)
join_merged And (joins And a c) b f g = (f.0, f.1, join_merged And c b f.2 g)
join_merged And (joins Or a c) b f g = (refl, f, g)
join_merged Or (joins And a c) b f g = (refl, f, g)
join_merged Or (joins Or a c) b f g = (f.0, f.1, join_merged Or c b f.2 g)

-- ---- what does not tell how runs of one word are nested

-- Where R says in what way two conditions are alike, joined ones are like those that are only put together, if R does not tell how
-- a run is nested: where d is like c and b put together, a and d are like the run of a and c, put together with b
module _ (R : Condition → Condition → Type 0) where
  join_alike :
      ((c : Condition) → R c c)
      → ((w : Joining) (a b c d : Condition) → R d (joins w c b) → R (joins w a d) (joins w (joins w a c) b))
      → (w : Joining) (a b : Condition)
      → R (join_of w a b) (joins w a b)
  unfolding join_of pick
  join_alike same on w (compares r x y) b = same _
  join_alike same on And (joins And a c) b = on And a b c (join_of And c b) (join_alike same on And c b)
  join_alike same on And (joins Or a c) b = same _
  join_alike same on Or (joins And a c) b = same _
  join_alike same on Or (joins Or a c) b = on Or a b c (join_of Or c b) (join_alike same on Or c b)

pub join_comparisons : (w : Joining) (a b : Condition) → comparisons (join_of w a b) ≡ comparisons a + comparisons b
unfolding comparisons
join_comparisons =
    join_alike (λ c d. comparisons c ≡ comparisons d) (λ c. refl) (λ w a b c d e. omega (arith, e))

pub join_temporaries :
    (w : Joining) (a b : Condition)
    → condition_temporaries (join_of w a b) ≡ max (condition_temporaries a) (condition_temporaries b)
unfolding condition_temporaries
join_temporaries =
    join_alike (λ c d. condition_temporaries c ≡ condition_temporaries d) (λ c. refl) (λ w a b c d e. omega (arith, e))

module _ (v : ℕ) where
  pub join_expressed :
      (w : Joining) (a b : Condition)
      → AllExpressed v a
      → AllExpressed v b
      → AllExpressed v (join_of w a b)
  unfolding AllExpressed
  join_expressed w a b f g =
      join_alike (λ c d. AllExpressed v d → AllExpressed v c) (λ c f. f) (λ w a b c d on f. (f.0.0, on (f.0.1, f.1)))
      w a b (f, g)

  pub join_trying : (w : Joining) (a b : Condition) → trying v (join_of w a b) ≡ trying v a + trying v b
  unfolding trying
  join_trying = join_alike (λ c d. trying v c ≡ trying v d) (λ c. refl) (λ w a b c d e. omega (arith, e))

  -- ---- orders

  abbrev SameCode : Condition → Condition → Type 0
  SameCode c d = (p : ℕ) (g : Bool) (y n : ℕ) → try_code v p g y n c ≡ try_code v p g y n d

  code_alike :
      (w : Joining) (a b c d : Condition) → SameCode d (joins w c b) → SameCode (joins w a d) (joins w (joins w a c) b)
  unfolding try_code trying
  code_alike And a b c d e p g y n =
      rw (e (p + trying v a) g y n, ← (add_assoc p (trying v a) (trying v c)))
      (sym (append_assoc (try_code v p true (p + trying v a) n a) _ _))
  code_alike Or a b c d e p g y n =
      rw (e (p + trying v a) g y n, ← (add_assoc p (trying v a) (trying v c)))
      (sym (append_assoc (try_code v p false y (p + trying v a) a) _ _))

  pub join_code :
      (w : Joining) (a b : Condition) (p : ℕ) (g : Bool) (y n : ℕ)
      → try_code v p g y n (join_of w a b) ≡ try_code v p g y n (joins w a b)
  join_code = join_alike SameCode (λ c p g y n. refl) code_alike

-- ---- meaning

-- two that are joined by a word, as `tried` has it. Three of one word come to the same, nested either way: faults, counts and all
abbrev tried_and : Counted Bool → Counted Bool → Counted Bool
tried_and x y = and_then x (λ yes_so. pick yes_so y (gives false 0))

abbrev tried_or : Counted Bool → Counted Bool → Counted Bool
tried_or x y = and_then x (λ yes_so. pick yes_so (gives true 0) y)

and_again : (x y z : Counted Bool) → tried_and x (tried_and y z) ≡ tried_and (tried_and x y) z
unfolding pick
and_again (gives true k) (gives true j) (gives t i) = ap (gives t) (omega arith)
and_again (gives true k) (gives true j) (faults n i) = ap (faults n) (omega arith)
and_again (gives true k) (gives false j) z = ap (gives false) (omega arith)
and_again (gives true k) (faults n j) z = refl
and_again (gives false k) y z = ap (gives false) (omega arith)
and_again (faults n k) y z = refl

or_again : (x y z : Counted Bool) → tried_or x (tried_or y z) ≡ tried_or (tried_or x y) z
unfolding pick
or_again (gives false k) (gives false j) (gives t i) = ap (gives t) (omega arith)
or_again (gives false k) (gives false j) (faults n i) = ap (faults n) (omega arith)
or_again (gives false k) (gives true j) z = ap (gives true) (omega arith)
or_again (gives false k) (faults n j) z = refl
or_again (gives true k) y z = ap (gives true) (omega arith)
or_again (faults n k) y z = refl

module _ (ws : List ℕ) where
  tried_alike :
      (w : Joining) (a b c d : Condition)
      → tried ws d ≡ tried ws (joins w c b)
      → tried ws (joins w a d) ≡ tried ws (joins w (joins w a c) b)
  unfolding tried
  tried_alike And a b c d e = ap (tried_and (tried ws a)) e ∙ and_again (tried ws a) (tried ws c) (tried ws b)
  tried_alike Or a b c d e = ap (tried_or (tried ws a)) e ∙ or_again (tried ws a) (tried ws c) (tried ws b)

  pub join_tried : (w : Joining) (a b : Condition) → tried ws (join_of w a b) ≡ tried ws (joins w a b)
  join_tried = join_alike (λ c d. tried ws c ≡ tried ws d) (λ c. refl) tried_alike
