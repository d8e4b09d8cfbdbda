-- Laws of lists that the kit lacks, over any element type. `sets l i vs` is l with the elements of vs stored from place i on.
use Prim.Native.Nat.{ℕ, zero, suc, ◌+◌, ◌-◌, ◌<◌, ◌≤◌}
use mathlib.Core.Path.{◌≡◌, refl, sym, ap, ap₂, ◌∙◌}
use mathlib.Core.List.{List, [], ◌∷◌, ◌++◌, map, append-nil}
use native.Mathlib.Omega.{arith}
use native.Mathlib.Nat.{add-zero, add-suc, suc-add}
use native.Mathlib.Numerals.{add-one}
use lib.ListN.{length, get_or, take, drop, set, replicate, length-set, length-append, length-drop, drop_of_length-le, get_or-map, get_or-append}
use lib.Seq.{sets, sets-eq, drop-cons, take-suc, get_or-set_same, get_or-set_other, length-take-le, take_at, drop_at, take_all, get_or-append-add}

module _ {A : Type 0} where
  -- ---- one element more, as a loop's counter has it

  pub drop_more : (l : List A) (i : ℕ) (d : A) → i < length l → drop i l ≡ get_or l i d ∷ drop (i + 1) l
  drop_more l i d h = rw (add-one i) (drop-cons l i d h)

  pub take_more : (l : List A) (i : ℕ) (d : A) → i < length l → take (i + 1) l ≡ take i l ++ (get_or l i d ∷ [])
  take_more l i d h = rw (add-one i) (take-suc l i d h)

  -- an element inside a list is the same whatever stands for one outside
  pub get_d_map_inside : {B : Type 0} (f : A → B) (l : List A) (i : ℕ) (d : B) (e : A) → i < length l → get_or (map f l) i d ≡ f (get_or l i e)
  get_d_map_inside f [] i d e h = absurd (omega arith)
  get_d_map_inside f (x ∷ l) zero d e h = refl
  get_d_map_inside f (x ∷ l) (suc i) d e h = get_d_map_inside f l i d e (omega arith)

  -- ---- a run of stores

  pub sets_append : (l : List A) (i : ℕ) (vs ws : List A) → sets l i (vs ++ ws) ≡ sets (sets l i vs) (i + length vs) ws
  sets_append l i [] ws = ap (λ k. sets l k ws) (sym (add-zero i))
  sets_append l i (v ∷ vs) ws =
      sets_append (set l i v) (suc i) vs ws
      ∙ ap (λ k. sets (sets (set l i v) (suc i) vs) k ws) (suc-add i (length vs) ∙ sym (add-suc i (length vs)))

  -- a turn of a loop that fills a list from place i on
  pub sets_more : (l : List A) (i : ℕ) (vs : List A) (a : A) → set (sets l i vs) (i + length vs) a ≡ sets l i (vs ++ (a ∷ []))
  sets_more l i vs a = sym (sets_append l i vs (a ∷ []))

  -- what lies before the stores, and what lies behind them
  pub get_d_sets_before : (vs l : List A) (i j : ℕ) (d : A) → j < i → get_or (sets l i vs) j d ≡ get_or l j d
  get_d_sets_before [] l i j d h = refl
  get_d_sets_before (v ∷ vs) l i j d h = get_d_sets_before vs (set l i v) (suc i) j d (omega arith) ∙ get_or-set_other l i j v d (omega arith)

  pub get_d_sets_behind : (vs l : List A) (i j : ℕ) (d : A) → i + length vs ≤ j → get_or (sets l i vs) j d ≡ get_or l j d
  get_d_sets_behind [] l i j d h = refl
  get_d_sets_behind (v ∷ vs) l i j d h = get_d_sets_behind vs (set l i v) (suc i) j d (omega arith) ∙ get_or-set_other l i j v d (omega arith)

  -- what is stored
  pub get_d_sets : (vs l : List A) (i k : ℕ) (d : A) → k < length vs → i + length vs ≤ length l → get_or (sets l i vs) (i + k) d ≡ get_or vs k d
  get_d_sets [] l i k d h w = absurd (omega arith)
  get_d_sets (v ∷ vs) l i zero d h w =
      rw (add-zero i) (get_d_sets_before vs (set l i v) (suc i) i d (omega arith) ∙ get_or-set_same l i v d (omega arith))
  get_d_sets (v ∷ vs) l i (suc k) d h w =
      ap (λ n. get_or (sets (set l i v) (suc i) vs) n d) (add-suc i k ∙ sym (suc-add i k))
      ∙ get_d_sets vs (set l i v) (suc i) k d (omega arith) (rw (length-set l i v) (omega arith))

  module _ (l : List A) (i : ℕ) (vs : List A) (room : i + length vs ≤ length l) where
    front_length : length (take i l ++ vs) ≡ i + length vs
    front_length = length-append (take i l) vs ∙ ap (λ n. n + length vs) (length-take-le i l (omega arith))

    parted : sets l i vs ≡ (take i l ++ vs) ++ drop (i + length vs) l
    parted = sets-eq vs l i room

    pub take_sets : take (i + length vs) (sets l i vs) ≡ take i l ++ vs
    take_sets = rw parted (take_at (take i l ++ vs) (drop (i + length vs) l) (i + length vs) front_length)

    pub drop_sets : drop (i + length vs) (sets l i vs) ≡ drop (i + length vs) l
    drop_sets = rw parted (drop_at (take i l ++ vs) (drop (i + length vs) l) (i + length vs) front_length)

  -- stores over the whole list leave what was stored
  pub sets_whole : (l vs : List A) → length vs ≡ length l → sets l 0 vs ≡ vs
  sets_whole l vs e =
      sets-eq vs l 0 (omega arith)
      ∙ ap (λ r. vs ++ r) (drop_of_length-le l {i = 0 + length vs} (omega arith))
      ∙ append-nil vs

  -- four stores one behind the other are one run of stores
  pub four_stores : (l : List A) (i : ℕ) (a b c d : A) → set (set (set (set l i a) (i + 1) b) (i + 2) c) (i + 3) d ≡ sets l i (a ∷ b ∷ c ∷ d ∷ [])
  four_stores l i a b c d =
      let one : i + 1 ≡ suc i = omega arith in
      let two : i + 2 ≡ suc (suc i) = omega arith in
      let three : i + 3 ≡ suc (suc (suc i)) = omega arith in
      rw (one, two, three)

  -- ---- a part of a list: `count` elements from place `from` on

  module _ (s : List A) (from count : ℕ) where
    pub part_none : length s ≤ from → [] ≡ take count (drop from s)
    part_none h = rw (drop_of_length-le s h) (sym (take_all count [] (omega arith)))

    pub part_rest : length s - from ≤ count → take (length s - from) (drop from s) ≡ take count (drop from s)
    part_rest h =
        take_all (length s - from) (drop from s) (rw (length-drop from s) (omega arith))
        ∙ sym (take_all count (drop from s) (rw (length-drop from s) h))

    pub part_inside : take (from + count - from) (drop from s) ≡ take count (drop from s)
    part_inside = let e : from + count - from ≡ count = omega arith in rw e refl

  -- ---- a list that repeats one element

  pub get_d_repeated : (n i : ℕ) (d : A) → get_or (replicate n d) i d ≡ d
  get_d_repeated zero i d = refl
  get_d_repeated (suc n) zero d = refl
  get_d_repeated (suc n) (suc i) d = get_d_repeated n i d

-- what holds of a head and of the n elements behind it
pub each_cons : {A : Type 0} (P : A → Type 0) (a d : A) (l : List A) (n : ℕ) → P a → ((i : ℕ) → i < n → P (get_or l i d))
    → (i : ℕ) → i < suc n → P (get_or (a ∷ l) i d)
each_cons P a d l n here there zero h = here
each_cons P a d l n here there (suc i) h = there i (omega arith)

-- what holds of every element of a table, as a computation over the whole table shows it, holds at each place
pub map_at : {A B : Type 0} (f g : A → B) (l : List A) (d : A) → map f l ≡ map g l → f d ≡ g d → (k : ℕ) → f (get_or l k d) ≡ g (get_or l k d)
map_at f g l d all default k = sym (get_or-map f l k d) ∙ ap₂ (λ m e. get_or m k e) all default ∙ get_or-map g l k d

-- the last of a list stands for every place behind it
pub last_of_law : {A : Type 0} (xs : List A) (a : A) (k : ℕ) → length xs ≤ k → a ≡ get_or (xs ++ a ∷ []) k a
last_of_law xs a k h =
    let e : length xs + (k - length xs) ≡ k = omega (arith, h) in
    sym (rw e at (get_or-append-add xs (a ∷ []) (k - length xs) a) ∙ one (k - length xs))
  where
    one : (j : ℕ) → get_or (a ∷ []) j a ≡ a
    one zero = refl
    one (suc j) = refl

-- what stands in the middle of a list
pub among : {A : Type 0} (before xs after : List A) (k : ℕ) (d : A) → k < length xs → get_or (before ++ (xs ++ after)) (length before + k) d ≡ get_or xs k d
among before xs after k d h = get_or-append-add before (xs ++ after) k d ∙ get_or-append xs after d k h
