-- Laws of lists of what stands at each of some places.
use Prim.Native.Nat.{ℕ, zero, suc, ◌+◌, ◌-◌, ◌<◌, ◌≤◌}
use mathlib.Core.Path.{◌≡◌, refl, sym, ap, ap₂, ◌∙◌}
use mathlib.Core.List.{List, [], ◌∷◌, ◌++◌, map}
use native.Mathlib.Omega.{arith}
use native.Mathlib.Nat.{add-zero, zero-add}
use lib.ListN.{length, get_or}
use Rattle.base.specs.Places.{each}

module _ {A : Type 0} where
  -- the first place of those that are left before n
  pub each_more : (f : ℕ → A) (k n : ℕ) → k < n → each f k (n - k) ≡ f k ∷ each f (k + 1) (n - (k + 1))
  unfolding each
  each_more f k n h =
      let e : n - k ≡ suc (n - (k + 1)) = omega arith in
      let g : k + 1 ≡ suc k = omega arith in
      rw (e, g) refl

  pub each_over : (f : ℕ → A) (k n : ℕ) → n ≤ k → each f k (n - k) ≡ []
  unfolding each
  each_over f k n h = let e : n - k ≡ 0 = omega arith in rw e refl

  -- the first m of m + n places, and those behind them
  pub each_parted : (f : ℕ → A) (k m n : ℕ) → each f k (m + n) ≡ each f k m ++ each f (k + m) n
  unfolding each
  each_parted f k zero n =
      let e : 0 + n ≡ n = omega arith in
      let d : k + 0 ≡ k = omega arith in
      rw (e, d) refl
  each_parted f k (suc m) n =
      let e : suc m + n ≡ suc (m + n) = omega arith in
      let d : k + suc m ≡ suc k + m = omega arith in
      rw (e, d) (ap (λ l. f k ∷ l) (each_parted f (suc k) m n))

  -- one place more
  pub each_append : (f : ℕ → A) (n : ℕ) → each f 0 (n + 1) ≡ each f 0 n ++ f n ∷ []
  unfolding each
  each_append f n = each_parted f 0 n 1 ∙ ap (λ j. each f 0 n ++ f j ∷ []) (zero-add n)

  -- what is the same at every place
  pub each_same : (f g : ℕ → A) (k n : ℕ) → ((i : ℕ) → k ≤ i → i < k + n → f i ≡ g i) → each f k n ≡ each g k n
  unfolding each
  each_same f g k zero h = refl
  each_same f g k (suc n) h =
      ap₂ ◌∷◌ (h k (omega arith) (omega arith)) (each_same f g (suc k) n (λ i l m. h i (omega (arith, l)) (omega (arith, m))))

  pub each_none : (f g : ℕ → A) (k : ℕ) → each f k 0 ≡ each g k 0
  unfolding each
  each_none f g k = refl

  pub each_length : (f : ℕ → A) (k n : ℕ) → length (each f k n) ≡ n
  unfolding each
  each_length f k zero = refl
  each_length f k (suc n) = ap suc (each_length f (suc k) n)

  pub each_map : {B : Type 0} (g : A → B) (f : ℕ → A) (k n : ℕ) → map g (each f k n) ≡ each (λ i. g (f i)) k n
  unfolding each
  each_map g f k zero = refl
  each_map g f k (suc n) = ap (λ l. g (f k) ∷ l) (each_map g f (suc k) n)

  -- what stands at one of the places; so two such lists that are the same, as computed, say the same at each of them
  get_d_each : (f : ℕ → A) (k n i : ℕ) (d : A) → i < n → get_or (each f k n) i d ≡ f (k + i)
  unfolding each
  get_d_each f k zero i d h = absurd (omega arith)
  get_d_each f k (suc n) zero d h = ap f (sym (add-zero k))
  get_d_each f k (suc n) (suc i) d h =
      let e : suc k + i ≡ k + suc i = omega arith in
      get_d_each f (suc k) n i d (omega arith) ∙ ap f e

  pub each_at : (f g : ℕ → A) (n : ℕ) → each f 0 n ≡ each g 0 n → (i : ℕ) → i < n → f i ≡ g i
  each_at f g n all i h =
      ap f (sym (zero-add i))
      ∙ sym (get_d_each f 0 n i (f i) h)
      ∙ ap (λ l. get_or l i (f i)) all
      ∙ get_d_each g 0 n i (f i) h
      ∙ ap g (zero-add i)

  -- what two arrays hold is such a list: those that are left at place k of n
  module _ (f : ℕ → A) (from : ℕ → ℕ → List A) (same : (k n : ℕ) → from k n ≡ each f k n) (k n : ℕ) where
    pub from_more : k < n → from k (n - k) ≡ f k ∷ from (k + 1) (n - (k + 1))
    from_more h = same k (n - k) ∙ each_more f k n h ∙ ap (λ l. f k ∷ l) (sym (same (k + 1) (n - (k + 1))))

    pub from_over : n ≤ k → from k (n - k) ≡ []
    from_over h = same k (n - k) ∙ each_over f k n h

-- a place before n, in an array that is as long as it was
pub inside : {a b i n : ℕ} → a ≡ b → n ≤ b → i < n → i < a
inside e h g = omega (arith, e, h, g)
