-- The orders of a condition carried out lead to where its answer leads, with the same count and the same fault.
use Prim.Native.Nat.{ℕ, ◌+◌, ◌≤◌}
use mathlib.Core.Path.{◌≡◌, refl, sym, ap, ◌∙◌}
use mathlib.Core.Bool.{Bool, true, false, not}
use mathlib.Core.List.{List, [], ◌∷◌, ◌++◌}
use native.Mathlib.Omega.{arith}
use lib.ListN.{length}
use lib.Seq.{sets}
use Rattle.base.specs.Choice.{pick}
use Rattle.word.specs.declared.Relation.{Relation}
use Rattle.word.specs.declared.Relation.TheVariants.{Equal, Unequal, Less, AtMost, Greater, AtLeast}
use Rattle.word.specs.Word.{signed, related, related_to_zero, comparison}
use Rattle.word.proofs.Comparison.{at_most_not}
use Rattle.order.specs.declared.Operation.TheVariants.{Cmp}
use Rattle.order.specs.declared.Order.{Order}
use Rattle.order.specs.declared.Order.TheVariants.{Branch, Cond}
use Rattle.machine.specs.Machine.{Machine, done, effect}
use Rattle.sheet.specs.declared.Joining.TheVariants.{And, Or}
use Rattle.sheet.specs.Sheet.{Expression, operand, Condition, compares, joins}
use Rattle.sheet.specs.Orders.{code, comparison_code, opposite, temporaries, comparison_temporaries}
use Rattle.sheet.specs.Formed.{Expressed}
use Rattle.sheet.specs.Worth.{Counted, gives, and_then, both, worth, holds, Store}
use Rattle.sheet.specs.Condition.{comparisons, AllExpressed, ConditionFormed, condition_temporaries, leaving, trying, try_code}
use Rattle.sheet.specs.Condition.{asking, asking_code, tried, answer}
use Rattle.sheet.specs.Following.{sent_bytes}
use Rattle.sheet.proofs.Sizes.{try_length}
use Rattle.sheet.proofs.Reach.{here, at_once, Stands, stands_first, stands_left, stands_behind, stands_last, stands_rest, carried_out}
use Rattle.sheet.proofs.Values.{compared}
use Rattle.sheet.proofs.Simulation.{Comes, lands, comes_behind, comes_then, landed, works, joins as brings_together, plain_operand}
use Rattle.sheet.proofs.Doing.{Sound, holding, Faulting, LandedAt}

-- ---- a branch

not_not : (t : Bool) → t ≡ not (not t)
not_not true = refl
not_not false = refl

opposite_holds : (r : Relation) (a b : ℕ) → related (opposite r) a b ≡ not (related r a b)
opposite_holds Equal a b = refl
opposite_holds Unequal a b = not_not _
opposite_holds Less a b = at_most_not (signed b) (signed a)
opposite_holds AtMost a b = not_not _ ∙ ap not (sym (at_most_not (signed a) (signed b)))
opposite_holds Greater a b = at_most_not (signed a) (signed b)
opposite_holds AtLeast a b = not_not _ ∙ ap not (sym (at_most_not (signed b) (signed a)))

-- one answer falls through to the order behind, and the branch is taken on the other
branch_leads :
    (falls yes_so : Bool) (s : Relation) (z q yes_at no_at c : ℕ) (ws out : List ℕ)
    → related_to_zero s z ≡ pick falls (not yes_so) yes_so
    → pick falls yes_at no_at ≡ q + 1
    → effect (Branch s (pick falls no_at yes_at)) (here z q c ws out) ≡ done (here z (pick yes_so yes_at no_at) c ws out)
unfolding pick
branch_leads true true s z q yes_at no_at c ws out asks next = rw (asks, next) refl
branch_leads true false s z q yes_at no_at c ws out asks next = rw asks refl
branch_leads false true s z q yes_at no_at c ws out asks next = rw asks refl
branch_leads false false s z q yes_at no_at c ws out asks next = rw (asks, next) refl

-- the branch asks for the answer that does not fall through
leaving_holds :
    (falls : Bool) (r : Relation) (z : ℕ)
    → related_to_zero (leaving falls r) z ≡ pick falls (not (related_to_zero r z)) (related_to_zero r z)
unfolding pick
leaving_holds true r z = opposite_holds r z 0
leaving_holds false r z = refl

-- ---- the program, as in proofs/Doing.antt, and its store, which no condition changes

module _ (os : List Order) (v t n : ℕ) (out : List ℕ) (to : ℕ → ℕ) (m : Store) (sound : Sound os v t n out to m) where
  abbrev keeping : ℕ → ℕ → List ℕ → Machine
  keeping = holding os v t n out to m

  abbrev Faults : Machine → Type 0
  Faults = Faulting os v t n out to m sound

  abbrev Compared : ℕ → List ℕ → ℕ → Machine → Type 0
  Compared = LandedAt os v t n out to m sound

  -- the answer is had: after a yes order yes-at is next, after a no order no-at
  pub data Told (yes_at no_at : ℕ) : Bool → Machine → Type 0 where
    told :
        (yes_so : Bool) (a : ℕ) (us : List ℕ)
        → length us ≡ t
        → Told yes_at no_at yes_so (keeping a (pick yes_so yes_at no_at) us)

  abbrev pub Tells : ℕ → ℕ → Machine → Counted Bool → Type 0
  Tells yes_at no_at k x = Comes os (Told yes_at no_at) Faults k x

  -- ---- one comparison

  module _ (x y : Expression) (fx : Expressed v x) (fy : Expressed v y) where
    compares_both :
        (a p : ℕ) (ts : List ℕ)
        → length ts ≡ t
        → comparison_temporaries x y ≤ t
        → Stands os p (comparison_code v x y)
        → Comes
        os
        (Compared (p + length (comparison_code v x y)) ts)
        Faults
        (keeping a p ts)
        (both (λ b d. gives (comparison b d) 1) m.words (operand y) (worth m.words x) (worth m.words y))
    compares_both a p ts long room s =
        brings_together
        os
        v
        (length m.sent)
        t
        m.words
        (sets out 0 (sent_bytes m.sent))
        sound.as_many
        Cmp
        (λ b d. gives (comparison b d) 1)
        0
        (temporaries x)
        (temporaries y)
        (operand y)
        (code v 0 x)
        (code v 1 y)
        (worth m.words x)
        (worth m.words y)
        (λ b d. refl)
        (plain_operand os v (length m.sent) t m.words (sets out 0 (sent_bytes m.sent)) sound.as_many y fy)
        (works os v (length m.sent) t m.words (sets out 0 (sent_bytes m.sent)) sound.as_many x 0 fx)
        (works os v (length m.sent) t m.words (sets out 0 (sent_bytes m.sent)) sound.as_many y 1 fy)
        a
        p
        ts
        long
        (omega (arith, room))
        s

    tries_one :
        (r : Relation) (falls : Bool) (p yes_at no_at a : ℕ) (ts : List ℕ)
        → comparison_temporaries x y ≤ t
        → pick falls yes_at no_at ≡ p + length (comparison_code v x y) + 1
        → Stands os p (comparison_code v x y ++ Branch (leaving falls r) (pick falls no_at yes_at) ∷ [])
        → length ts ≡ t
        → Tells yes_at no_at (keeping a p ts) (holds m.words r x y)
    tries_one r falls p yes_at no_at a ts room next s long =
        rw (compared m.words sound.words_all v r x y fx fy)
        (comes_then os (keeping a p ts) _ (λ z. gives (related_to_zero r z) 1)
        (compares_both a p ts long room (stands_left os p (comparison_code v x y) _ s))
        on_compared)
      where
        on_compared :
            (z : ℕ) (k : Machine)
            → Compared (p + length (comparison_code v x y)) ts z k
            → Tells yes_at no_at k (gives (related_to_zero r z) 1)
        on_compared z k (landed us still keeps) =
            lands (related_to_zero r z) 1 _
            (carried_out os z _ _ _ _ _ _ (stands_last os p (comparison_code v x y) _ s)
            (branch_leads falls (related_to_zero r z) (leaving falls r) z _ yes_at no_at _ _ _ (leaving_holds falls r z) next))
            (told (related_to_zero r z) z us still)

  -- ---- a run

  -- the orders that try a condition lead to where its answer leads, if the answer that falls through leads to the order behind them
  abbrev Tries : Condition → Type 0
  Tries c =
      (falls : Bool) (p yes_at no_at a : ℕ) (ts : List ℕ)
      → AllExpressed v c
      → condition_temporaries c ≤ t
      → pick falls yes_at no_at ≡ p + trying v c
      → Stands os p (try_code v p falls yes_at no_at c)
      → length ts ≡ t
      → Tells yes_at no_at (keeping a p ts) (tried m.words c)

  -- the second, whose first order is order q, is tried where the first answers `goes`; else the answer of the first is that of both
  goes_on_law :
      (goes : Bool) (q yes_at no_at : ℕ) (x : Counted Bool)
      → ((a : ℕ) (us : List ℕ) → length us ≡ t → Tells yes_at no_at (keeping a q us) x)
      → (yes_so : Bool) (k : Machine)
      → Told (pick goes q yes_at) (pick goes no_at q) yes_so k
      → Tells yes_at no_at k (pick yes_so (pick goes x (gives true 0)) (pick goes (gives false 0) x))
  unfolding pick
  goes_on_law true q yes_at no_at x second yes_so k (told true a us long) = second a us long
  goes_on_law true q yes_at no_at x second yes_so k (told false a us long) = lands false 0 _ (at_once os _) (told false a us long)
  goes_on_law false q yes_at no_at x second yes_so k (told true a us long) = lands true 0 _ (at_once os _) (told true a us long)
  goes_on_law false q yes_at no_at x second yes_so k (told false a us long) = second a us long

  -- one proof for both words: a run of %AND goes on at a yes, one of %OR at a no
  tries_two :
      (goes : Bool) (x y : Condition)
      → Tries x
      → Tries y
      → (falls : Bool) (p yes_at no_at a : ℕ) (ts : List ℕ)
      → AllExpressed v x × AllExpressed v y
      → condition_temporaries x ≤ t
      → condition_temporaries y ≤ t
      → pick falls yes_at no_at ≡ p + (trying v x + trying v y)
      → Stands os p
      (try_code v p goes (pick goes (p + trying v x) yes_at) (pick goes no_at (p + trying v x)) x
      ++ try_code v (p + trying v x) falls yes_at no_at y)
      → length ts ≡ t
      → Tells yes_at no_at (keeping a p ts)
      (and_then (tried m.words x)
      (λ yes_so. pick yes_so (pick goes (tried m.words y) (gives true 0)) (pick goes (gives false 0) (tried m.words y))))
  unfolding pick
  tries_two goes x y first second falls p yes_at no_at a ts f room more_room next s long =
      let q = p + trying v x in
      let l = try_code v p goes (pick goes q yes_at) (pick goes no_at q) x in
      comes_then os (keeping a p ts) (tried m.words x) _
      (first goes p (pick goes q yes_at) (pick goes no_at q) a ts f.0 room (falls_to goes q) (stands_left os p l _ s) long)
      (goes_on_law goes q yes_at no_at (tried m.words y)
      (λ b us still. second falls q yes_at no_at b us f.1 more_room (next ∙ omega arith)
      (stands_behind os p (trying v x) l _ (try_length v p goes _ _ x) s) still))
    where
      falls_to : (g : Bool) (q : ℕ) → pick g (pick g q yes_at) (pick g no_at q) ≡ q
      falls_to true q = refl
      falls_to false q = refl

  tries : (c : Condition) → Tries c
  unfolding AllExpressed condition_temporaries trying try_code tried pick
  tries (compares r x y) falls p yes_at no_at a ts f room next s long =
      tries_one x y f.0 f.1 r falls p yes_at no_at a ts room (next ∙ omega arith) s long
  tries (joins And x y) falls p yes_at no_at a ts f room next s long =
      tries_two true x y (tries x) (tries y) falls p yes_at no_at a ts f (omega arith) (omega arith) next s long
  tries (joins Or x y) falls p yes_at no_at a ts f room next s long =
      tries_two false x y (tries x) (tries y) falls p yes_at no_at a ts f (omega arith) (omega arith) next s long

  -- ---- all the orders of a condition

  -- whatever the accumulator and the temporaries hold
  pub asks :
      (c : Condition) (p d a : ℕ) (ts : List ℕ)
      → ConditionFormed v c
      → condition_temporaries c ≤ t
      → Stands os p (asking_code v p c d)
      → length ts ≡ t
      → Tells (p + asking v c) d (keeping a p ts) (answer m.words c)
  unfolding asking asking_code pick
  asks (compares r x y) p d a ts f room s long = tries (compares r x y) true p _ d a ts f.0 room refl s long
  asks (joins w x y) p d a ts f room s long =
      comes_behind os 1 (keeping a p ts) (keeping a (p + 1) ts) (tried m.words (joins w x y))
      (carried_out os a p _ _ _ (Cond (comparisons (joins w x y))) _ (stands_first os p _ _ s) refl)
      (tries (joins w x y) true (p + 1) _ d a ts f.0 room (omega arith) (stands_rest os p _ _ s) long)
