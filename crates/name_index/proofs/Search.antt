-- A search by halves finds a name where it stands, or where it would stand, with few comparisons.
use Prim.Native.Nat.{ℕ, zero, suc, ◌+◌, ◌-◌, ◌/◌, ◌^◌, ◌<◌, ◌≤◌}
use mathlib.Core.Path.{◌≡◌, refl, sym, ap, ◌∙◌}
use mathlib.Core.List.{List, [], ◌∷◌}
use native.Mathlib.Omega.{arith}
use native.Mathlib.Nat.{add-zero, pow-suc}
use lib.Pow.{pow-add}
use lib.ListN.{length, get_or}
use Rattle.base.specs.Choice.{pick}
use Rattle.base.proofs.Cases.{by_less}
use Rattle.source.specs.Program.{word_from}
use Rattle.std.specs.declared.cmp.Ordering.{Ordering}
use Rattle.std.specs.declared.cmp.Ordering.TheVariants.{Less, Equal, Greater}
use Rattle.name_index.specs.Order.{side_of}
use Rattle.name_index.specs.Memory.{number_in, name_at, NamesHeld}
use Rattle.name_index.specs.Answers.{Searches, nowhere, here, first_half, second_half, side_at, word_at, FewComparisons, AsAsked, Fits}
use Rattle.name_index.proofs.Order.{after_before, before_after, before_all, side_same, side_self, never_before_itself, same_name_self, other_name}

-- ---- the number of comparisons

pub search_few : {side : ℕ → Ordering} {word : ℕ → ℕ} {from left w place n : ℕ} → Searches side word from left w place n → FewComparisons left n
search_few (nowhere from) d h = omega arith
search_few (here from left some e) zero h = absurd (omega (arith, some, h))
search_few (here from left some e) (suc d) h = omega arith
search_few (first_half from left some e s) zero h = absurd (omega (arith, some, h))
search_few (first_half from left some e s) (suc d) h =
    let fewer : left / 2 < 2 ^ d = omega (arith, rw (pow-suc 2 d) at h) in
    let l = search_few s d fewer in
    omega (arith, l)
search_few (second_half from left some e s) zero h = absurd (omega (arith, some, h))
search_few (second_half from left some e s) (suc d) h =
    let fewer : left - (left / 2 + 1) < 2 ^ d = omega (arith, rw (pow-suc 2 d) at h) in
    let l = search_few s d fewer in
    omega (arith, l)

power_some : (d : ℕ) → 0 < 2 ^ d
power_some zero = omega arith
power_some (suc d) = let h = power_some d in rw (pow-suc 2 d) (omega (arith, h))

pub as_asked : (v n : ℕ) → FewComparisons v n → AsAsked v n
as_asked v n few d h =
    let some = power_some d in
    few (7 + d) (rw (pow-add 2 7 d) (omega (arith, h, some)))

pub at_128 : (v n : ℕ) → FewComparisons v n → v ≤ 128 → n ≤ 8
at_128 v n few h = as_asked v n few 1 h

-- the bound is met: among 2^d names, each of which the sought one stands before
pub bound_met : (word : ℕ → ℕ) (d : ℕ) → Searches (λ i. Less) word 0 (2 ^ d) 0 0 (suc d)
bound_met word zero = first_half 0 1 (omega arith) refl (nowhere 0)
bound_met word (suc d) =
    let some = power_some (suc d) in
    let half : 2 ^ suc d / 2 ≡ 2 ^ d = rw (pow-suc 2 d) (omega arith) in
    let rest : Searches (λ i. Less) word 0 (2 ^ suc d / 2) 0 0 (suc d) = rw half (bound_met word d) in
    first_half 0 (2 ^ suc d) some refl rest

-- ---- there is one search

pub search_only : {side : ℕ → Ordering} {word : ℕ → ℕ} {from left w place n w' place' n' : ℕ} → Searches side word from left w place n
    → Searches side word from left w' place' n' → (w ≡ w') × (place ≡ place') × (n ≡ n')
search_only (nowhere from) (nowhere at) = (refl, refl, refl)
search_only (nowhere from) (here at left some e) = absurd (omega (arith, some))
search_only (nowhere from) (first_half at left some e s) = absurd (omega (arith, some))
search_only (nowhere from) (second_half at left some e s) = absurd (omega (arith, some))
search_only (here from left some e) (nowhere at) = absurd (omega (arith, some))
search_only (here from left some e) (here at rest more g) = (refl, refl, refl)
search_only (here from left some e) (first_half at rest more g t) = absurd (cc)
search_only (here from left some e) (second_half at rest more g t) = absurd (cc)
search_only (first_half from left some e s) (nowhere at) = absurd (omega (arith, some))
search_only (first_half from left some e s) (here at rest more g) = absurd (cc)
search_only (first_half from left some e s) (first_half at rest more g t) = let h = search_only s t in (h.0, h.1, ap suc h.2)
search_only (first_half from left some e s) (second_half at rest more g t) = absurd (cc)
search_only (second_half from left some e s) (nowhere at) = absurd (omega (arith, some))
search_only (second_half from left some e s) (here at rest more g) = absurd (cc)
search_only (second_half from left some e s) (first_half at rest more g t) = absurd (cc)
search_only (second_half from left some e s) (second_half at rest more g t) = let h = search_only s t in (h.0, h.1, ap suc h.2)

-- ---- the turns of the loop

-- a search of what is left goes on to one of all, behind the comparisons made so far
abbrev pub GoesOn : (ℕ → Ordering) → (ℕ → ℕ) → ℕ → ℕ → ℕ → ℕ → Type 0
GoesOn side word v from left made = (w place n : ℕ) → Searches side word from left w place n → Searches side word 0 v w place (made + n)

module _ {side : ℕ → Ordering} {word : ℕ → ℕ} {v from left : ℕ} (made : ℕ) (goes : GoesOn side word v from left made) where
  pub search_over : left ≤ 0 → Searches side word 0 v 0 from made
  search_over h =
      let none : left ≡ 0 = omega (arith, h) in
      rw (← add-zero made) (goes 0 from 0 (rw none (nowhere from)))

  module _ (some : 0 < left) where
    pub search_here : (w : ℕ) → w ≡ word (from + left / 2) → side (from + left / 2) ≡ Equal → Searches side word 0 v w (from + left / 2) (made + 1)
    search_here w same_word_law e = goes w _ 1 (rw same_word_law (here from left some e))

    pub search_first : side (from + left / 2) ≡ Less → GoesOn side word v from (left / 2) (made + 1)
    search_first e w place n s = let z : made + 1 + n ≡ made + suc n = omega arith in rw z (goes w place (suc n) (first_half from left some e s))

    pub search_second : side (from + left / 2) ≡ Greater → GoesOn side word v (from + (left / 2 + 1)) (left - (left / 2 + 1)) (made + 1)
    search_second e w place n s = let z : made + 1 + n ≡ made + suc n = omega arith in rw z (goes w place (suc n) (second_half from left some e s))

-- ---- where it ends

pub data Ends (side : ℕ → Ordering) (word : ℕ → ℕ) (from left w place : ℕ) : Type 0 where
  missing : w ≡ 0 → from ≤ place → place ≤ from + left → ((i : ℕ) → from ≤ i → i < place → side i ≡ Greater)
      → ((i : ℕ) → place ≤ i → i < from + left → side i ≡ Less) → Ends side word from left w place
  present : w ≡ word place → from ≤ place → place < from + left → side place ≡ Equal → Ends side word from left w place

-- among places whose names are in order
module _ (name : List ℕ) (at : ℕ → List ℕ) (v : ℕ) (ordered : (i j : ℕ) → i < j → j < v → side_of (at i) (at j) ≡ Less) where
  abbrev side : ℕ → Ordering
  side i = side_of name (at i)

  before_too : (m i : ℕ) → m ≤ i → i < v → side m ≡ Less → side i ≡ Less
  before_too m i h g e =
      by_less m i
      (λ l. before_all name (at m) (at i) e (ordered m i l g))
      (λ l. let z : m ≡ i = omega (arith, h, l) in rw (← z) e)

  after_too : (m i : ℕ) → i ≤ m → m < v → side m ≡ Greater → side i ≡ Greater
  after_too m i h g e =
      by_less i m
      (λ l. before_after (at i) name (before_all (at i) (at m) name (ordered i m l g) (after_before name (at m) e)))
      (λ l. let z : m ≡ i = omega (arith, h, l) in rw (← z) e)

  module _ (word : ℕ → ℕ) where
    pub search_ends : {from left w place n : ℕ} → Searches side word from left w place n → from + left ≤ v → Ends side word from left w place
    search_ends (nowhere from) h = missing refl (omega arith) (omega arith) (λ i a b. absurd (omega (arith, a, b))) (λ i a b. absurd (omega (arith, a, b)))
    search_ends (here from left some e) h = present refl (omega arith) (omega (arith, some)) e
    search_ends (first_half from left some e s) h = in_first (search_ends s (omega (arith, h)))
      where
        in_first : {w place : ℕ} → Ends side word from (left / 2) w place → Ends side word from left w place
        in_first (missing z a b behind before) =
            missing z a (omega (arith, b)) behind
            (λ i c d. by_less i (from + left / 2) (λ l. before i c l) (λ l. before_too (from + left / 2) i l (omega (arith, d, h)) e))
        in_first (present z a b here_too) = present z a (omega (arith, b)) here_too
    search_ends (second_half from left some e s) h = in_second (search_ends s (omega (arith, h, some)))
      where
        in_second : {w place : ℕ} → Ends side word (from + (left / 2 + 1)) (left - (left / 2 + 1)) w place → Ends side word from left w place
        in_second (missing z a b behind before) =
            missing z (omega (arith, a)) (omega (arith, b, some))
            (λ i c d. by_less (from + left / 2) i (λ l. behind i (omega (arith, l)) d) (λ l. after_too (from + left / 2) i l (omega (arith, h, some)) e))
            (λ i c d. before i c (omega (arith, d, some)))
        in_second (present z a b here_too) = present z (omega (arith, a)) (omega (arith, b, some)) here_too

-- ---- the word of a name

word_first : (ns : List (List ℕ)) (name : List ℕ) (w k : ℕ) → k < length ns → get_or ns k [] ≡ name
    → ((j : ℕ) → j < k → get_or ns j [] ≡ name → ⊥) → k + w ≡ word_from w ns name
unfolding word_from pick
word_first [] name w k h e others = absurd (omega (arith, h))
word_first (m ∷ ns) name w zero h e others = rw (e, same_name_self name) (omega arith)
word_first (m ∷ ns) name w (suc k) h e others =
    let z : suc k + w ≡ k + suc w = omega arith in
    rw (other_name m name (others 0 (omega arith)))
    (z ∙ word_first ns name (suc w) k (omega (arith, h)) e (λ j l. others (suc j) (omega (arith, l))))

word_unknown : (ns : List (List ℕ)) (name : List ℕ) (w : ℕ) → ((k : ℕ) → k < length ns → get_or ns k [] ≡ name → ⊥) → 0 ≡ word_from w ns name
unfolding word_from pick
word_unknown [] name w others = refl
word_unknown (m ∷ ns) name w others =
    rw (other_name m name (others 0 (omega arith))) (word_unknown ns name (suc w) (λ k h. others (suc k) (omega (arith, h))))

module _ {ns : List (List ℕ)} {v filled : ℕ} {letters index : List ℕ} (held : NamesHeld ns v filled letters index) (name : List ℕ) {w place n : ℕ}
    (s : Searches (side_at name letters index) (word_at index) 0 v w place n) where
  ends : Ends (side_at name letters index) (word_at index) 0 v w place
  ends = search_ends name (name_at letters index) v held.ordered (word_at index) s (omega arith)

  -- the number of the name at a place stands at no other
  numbered_once : (i j : ℕ) → i < v → j < v → name_at letters index i ≡ name_at letters index j → i ≡ j
  numbered_once i j h g e =
      by_less i j
      (λ l. never_before_itself _ _ e (held.ordered i j l g))
      (λ l. by_less j i (λ m. never_before_itself _ _ (sym e) (held.ordered j i m h)) (λ m. omega (arith, l, m)))

  by_end : Ends (side_at name letters index) (word_at index) 0 v w place → w ≡ word_from 2 ns name
  by_end (present z a inside e) =
      let b : place < v = omega (arith, inside) in
      let row = held.rows place b in
      let known : name ≡ name_at letters index place = side_same name _ e in
      z ∙ word_first ns name 2 (number_in (get_or index place 0)) row.numbered (sym row.named ∙ sym known)
      (λ j l g.
      let other = held.indexed j (let c = held.counted in omega (arith, c, l, row.numbered)) in
      let its_row = held.rows other.place other.inside in
      let same_place = numbered_once other.place place other.inside b (its_row.named ∙ ap (λ k. get_or ns k []) other.numbered ∙ g ∙ known) in
      let number : number_in (get_or index place 0) ≡ j = sym (ap (λ i. number_in (get_or index i 0)) same_place) ∙ other.numbered in
      absurd (omega (arith, number, l)))
  by_end (missing z a b behind before) =
      z ∙ word_unknown ns name 2
      (λ k l g.
      let its = held.indexed k (let c = held.counted in omega (arith, c, l)) in
      let its_row = held.rows its.place its.inside in
      let same_side : side_at name letters index its.place ≡ Equal = side_is (sym g ∙ sym (ap (λ j. get_or ns j []) its.numbered) ∙ sym its_row.named) in
      by_less its.place place
      (λ m. let z = behind its.place (omega arith) m in absurd (cc))
      (λ m. let c = its.inside in let z = before its.place m (omega (arith, c)) in absurd (cc)))
    where
      side_is : {m : List ℕ} → name ≡ m → side_of name m ≡ Equal
      side_is e = ap (side_of name) (sym e) ∙ side_self name

  -- a lookup tells the word of a name
  pub word_found : w ≡ word_from 2 ns name
  word_found = by_end ends

  -- where an unknown name would stand
  pub place_found : w ≡ 0 → Fits name letters index v place
  place_found e = by_place ends
    where
      by_place : Ends (side_at name letters index) (word_at index) 0 v w place → Fits name letters index v place
      by_place (present z a b here_too) = absurd (omega (arith, z, e))
      by_place (missing z a b behind before) = record { inside = omega (arith, b); behind = λ i h. behind i (omega arith) h; before = λ i h g. before i h (omega (arith, g)) }
