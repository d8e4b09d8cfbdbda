-- Where the instructions stand in the orders, by their numbers, and where their ways lead.
use Prim.Native.Nat.{ℕ, zero, suc, ◌+◌, ◌≤◌, ◌<◌}
use mathlib.Core.Path.{◌≡◌, refl, sym, ap, ◌∙◌}
use mathlib.Core.List.{List, [], ◌∷◌, ◌++◌}
use native.Mathlib.Omega.{arith}
use native.Mathlib.Nat.{add-zero}
use native.Mathlib.Numerals.{one-add}
use lib.ListN.{length, get_or}
use Rattle.order.specs.declared.Order.{Order}
use Rattle.order.specs.declared.Order.TheVariants.{Skip, Stop}
use Rattle.machine.specs.Machine.{Machine}
use Rattle.sheet.specs.Sheet.{Simple, Condition, Part, end, plain, when, either, count}
use Rattle.sheet.specs.Orders.{simple_code, simple_size, simple_temporaries}
use Rattle.sheet.specs.Formed.{Leads, SimpleFormed}
use Rattle.sheet.specs.Condition.{asking, asking_code, condition_temporaries, ConditionFormed}
use Rattle.sheet.specs.Translation.{size, starts, part_code, temporaries_of}
use Rattle.sheet.specs.Within.{PartFormed}
use Rattle.sheet.specs.Meaning.{Way, Move, deed, question, straight, over_skip, way_to, moves, Progress, move_at}
use Rattle.sheet.proofs.Reach.{here, Reaches, at_once, and_on, Stands, stands_first, stands_left, stands_behind, stands_rest, carried_out}
use Rattle.sheet.proofs.Sizes.{simple_length, asking_length, count_starts, code_length}

-- a program: its orders, V, T, how many instructions it has, and where GOTO leads
module _ (os : List Order) (v t n : ℕ) (to : ℕ → ℕ) where
  -- ---- ways

  -- from order q the way w leads to its instruction, by its SKIPs
  pub record Leading (q : ℕ) (w : Way) : Type 0 where
    pub lawful : Leads n w.number
    pub runs :
        (a c : ℕ) (ws out : List ℕ) → Reaches os w.skips (here a q c ws out) (here a (to w.number) c ws out)

  straight_on : (q i : ℕ) → to i ≡ q → Leads n i → Leading q (straight i)
  straight_on q i e h = record { lawful = h; runs = λ a c ws out. rw e (at_once os _) }

  in_as_many : (k j : ℕ) (m n : Machine) → k ≡ j → Reaches os k m n → Reaches os j m n
  in_as_many k j m n e reach = rw e at reach

  over_skip_law : (q d : ℕ) (w : Way) → get_or os q Stop ≡ Skip d → Leading d w → Leading q (over_skip w)
  over_skip_law q d w e l =
      record {
        lawful = l.lawful;
        runs =
            λ a c ws out. in_as_many (1 + w.skips) (suc w.skips) _ _ (one-add w.skips)
            (and_on os 1 w.skips _ _ _ (carried_out os a q c ws out (Skip d) _ e refl) (l.runs a c ws out));
      }

  lead_at_law : (q d : ℕ) (w : Way) → q ≡ d → Leading q w → Leading d w
  lead_at_law q d w e lead = rw e at lead

  -- ---- what stands under a number, and its first order p

  pub data Placed (p : ℕ) : Move → Type 0 where
    deeds :
        (u : Simple) (w : Way)
        → SimpleFormed v n u
        → simple_temporaries u ≤ t
        → Stands os p (simple_code v to u)
        → Leading (p + length (simple_code v to u)) w
        → Placed p (deed u w)
    questions :
        (c : Condition) (yes_way no_way : Way) (d : ℕ)
        → ConditionFormed v c
        → condition_temporaries c ≤ t
        → Stands os p (asking_code v p c d)
        → Leading (p + asking v c) yes_way
        → Leading d no_way
        → Placed p (question c yes_way no_way)

  -- each has its first order
  pub data Along : List Move → List ℕ → Type 0 where
    none : Along [] []
    more : {p : ℕ} {m : Move} {ms : List Move} {ps : List ℕ} → Placed p m → Along ms ps → Along (m ∷ ms) (p ∷ ps)

  along_append : {ms ns : List Move} {ps qs : List ℕ} → Along ms ps → Along ns qs → Along (ms ++ ns) (ps ++ qs)
  along_append none b = b
  along_append (more x a) b = more x (along_append a b)

  -- ---- numbers

  -- the numbers from i on have the first orders l
  abbrev Numbers : ℕ → List ℕ → Type 0
  Numbers i [] = Unit {0}
  Numbers i (p ∷ l) = (to i ≡ p) × Numbers (suc i) l

  numbers_append : (i k : ℕ) (l m : List ℕ) → i + length l ≡ k → Numbers i (l ++ m) → Numbers i l × Numbers k m
  numbers_append i k [] m e h = (tt, rw (← e, add-zero i) h)
  numbers_append i k (p ∷ l) m e h =
      let two = numbers_append (suc i) k l m (omega arith) h.1 in ((h.0, two.0), two.1)

  pub numbers_told : (i : ℕ) (l : List ℕ) (e : ℕ) → ((k : ℕ) → k < length l → to (i + k) ≡ get_or l k e) → Numbers i l
  numbers_told i [] e h = tt
  numbers_told i (p ∷ l) e h = (
    ap to (sym (add-zero i)) ∙ h 0 (omega arith),
    numbers_told (suc i) l e (λ k g. let z : suc i + k ≡ i + suc k = omega arith in ap to z ∙ h (suc k) (omega arith)),
  )

  -- the way to the instructions l, which stand from order p to order q
  way_leads :
      (l : Part) (p q i : ℕ) (w : Way)
      → p + size v l ≡ q
      → Numbers i (starts v p l)
      → 1 ≤ i
      → i + count l ≤ n + 1
      → Leading q w
      → Leading p (way_to i w l)
  unfolding starts size count
  way_leads end p q i w e h g k lead = lead_at_law q p w (omega arith) lead
  way_leads (plain u l) p q i w e h g k lead = straight_on p i h.0 (g, omega arith)
  way_leads (when c x l) p q i w e h g k lead = straight_on p i h.0 (g, omega arith)
  way_leads (either c x y l) p q i w e h g k lead = straight_on p i h.0 (g, omega arith)

  first_leads :
      (x : Part) (p i : ℕ)
      → 1 ≤ count x
      → Numbers i (starts v p x)
      → 1 ≤ i
      → i + count x ≤ n + 1
      → Leading p (straight i)
  unfolding starts count
  first_leads end p i some h g k = absurd (omega arith)
  first_leads (plain u l) p i some h g k = straight_on p i h.0 (g, omega arith)
  first_leads (when c x l) p i some h g k = straight_on p i h.0 (g, omega arith)
  first_leads (either c x y l) p i some h g k = straight_on p i h.0 (g, omega arith)

  -- ---- a part, which stands from order p to order q; its first instruction has the number i

  pub places :
      (x : Part) (p q i : ℕ) (w : Way)
      → p + size v x ≡ q
      → PartFormed v n x
      → temporaries_of x ≤ t
      → Numbers i (starts v p x)
      → 1 ≤ i
      → i + count x ≤ n + 1
      → Stands os p (part_code v to p x)
      → Leading q w
      → Along (moves i w x) (starts v p x)
  unfolding PartFormed temporaries_of starts count size part_code moves
  places end p q i w e f room h g k s lead = none
  places (plain u l) p q i w e f room h g k s lead =
      let d = p + simple_size v u in
      let here_is : p + length (simple_code v to u) ≡ d = ap (λ k. p + k) (simple_length v to u) in
      more
      (deeds u (way_to (suc i) w l) f.0 (omega arith) (stands_left os p (simple_code v to u) _ s)
      (lead_at_law d _ _ (sym here_is) (way_leads l d q (suc i) w (omega arith) h.1 (omega arith) (omega arith) lead)))
      (places l d q (suc i) w (omega arith) f.1 (omega arith) h.1 (omega arith) (omega arith)
      (stands_behind os p (simple_size v u) (simple_code v to u) _ (simple_length v to u) s) lead)
  places (when c x l) p q i w e f room h g k s lead =
      let b = p + asking v c in
      let z = b + size v x in
      let j = suc i + count x in
      let many = count_starts v b x in
      let numbers = numbers_append (suc i) j (starts v b x) (starts v z l) (omega arith) h.1 in
      let bodies = stands_behind os p (asking v c) (asking_code v p c z) _ (asking_length v p c z) s in
      let lead_on : Leading z (way_to j w l) = way_leads l z q j w (omega arith) numbers.1 (omega arith) (omega arith) lead in
      more
      (questions c (straight (suc i)) (way_to j w l) z f.0 (omega arith)
      (stands_left os p (asking_code v p c z) _ s)
      (first_leads x b (suc i) f.1 numbers.0 (omega arith) (omega arith))
      lead_on)
      (along_append
      (places x b z (suc i) (way_to j w l) refl f.2 (omega arith) numbers.0 (omega arith) (omega arith)
      (stands_left os b (part_code v to b x) _ bodies) lead_on)
      (places l z q j w (omega arith) f.3 (omega arith) numbers.1 (omega arith) (omega arith)
      (stands_behind os b (size v x) (part_code v to b x) _ (code_length v to b x) bodies) lead))
  places (either c x y l) p q i w e f room h g k s lead =
      let b = p + asking v c in
      let d = b + size v x + 1 in
      let z = d + size v y in
      let j = suc i + count x in
      let m = j + count y in
      let first_many = count_starts v b x in
      let second_many = count_starts v d y in
      let numbers = numbers_append (suc i) j (starts v b x) _ (omega arith) h.1 in
      let more_numbers = numbers_append j m (starts v d y) (starts v z l) (omega arith) numbers.1 in
      let bodies = stands_behind os p (asking v c) (asking_code v p c d) _ (asking_length v p c d) s in
      let skip_on = stands_behind os b (size v x) (part_code v to b x) _ (code_length v to b x) bodies in
      let seconds = stands_rest os (b + size v x) (Skip z) _ skip_on in
      let lead_on : Leading z (way_to m w l) = way_leads l z q m w (omega arith) more_numbers.1 (omega arith) (omega arith) lead in
      more
      (questions c (straight (suc i)) (straight j) d f.0 (omega arith)
      (stands_left os p (asking_code v p c d) _ s)
      (first_leads x b (suc i) f.1 numbers.0 (omega arith) (omega arith))
      (first_leads y d j f.2 more_numbers.0 (omega arith) (omega arith)))
      (along_append
      (places x b (b + size v x) (suc i) (over_skip (way_to m w l)) refl f.3 (omega arith) numbers.0 (omega arith) (omega arith)
      (stands_left os b (part_code v to b x) _ bodies)
      (over_skip_law (b + size v x) z (way_to m w l) (stands_first os (b + size v x) (Skip z) _ skip_on) lead_on))
      (along_append
      (places y d z j (way_to m w l) refl f.4 (omega arith) more_numbers.0 (omega arith) (omega arith)
      (stands_left os d (part_code v to d y) _ seconds)
      lead_on)
      (places l z q m w (omega arith) f.5 (omega arith) more_numbers.1 (omega arith) (omega arith)
      (stands_behind os d (size v y) (part_code v to d y) _ (code_length v to d y) seconds)
      lead)))

-- ---- the instruction with a number

module _ (os : List Order) (v t n : ℕ) (to : ℕ → ℕ) where
  -- what stands under the number behind the first j: an instruction, or the end of the program, at order e
  pub data Place (ms : List Move) (ps : List ℕ) (e j : ℕ) : Type 0 where
    begins :
        (m : Move)
        → ((f : Move → Progress) (stop : Progress) → move_at (suc j) ms f stop ≡ f m)
        → Placed os v t n to (get_or ps j e) m
        → Place ms ps e j
    ends :
        ((f : Move → Progress) (stop : Progress) → move_at (suc j) ms f stop ≡ stop)
        → get_or ps j e ≡ e
        → Place ms ps e j

  pub placed : {ms : List Move} {ps : List ℕ} (e j : ℕ) → Along os v t n to ms ps → j ≤ length ps → Place ms ps e j
  unfolding move_at
  placed e zero none h = ends (λ f stop. refl) refl
  placed e (suc j) none h = absurd (omega arith)
  placed e zero (more {m = m} x a) h = begins m (λ f stop. refl) x
  placed e (suc j) (more x a) h = farther (placed e j a (omega arith))
    where
      farther : {p : ℕ} {m : Move} {ms : List Move} {ps : List ℕ} → Place ms ps e j → Place (m ∷ ms) (p ∷ ps) e (suc j)
      farther (begins k which y) = begins k which y
      farther (ends which y) = ends which y
