-- Instructions one behind the other, and the whole guess.
use Prim.Native.Nat.{ℕ, ◌+◌, ◌-◌, ◌≤◌, ◌<◌}
use mathlib.Core.Path.{◌≡◌, refl, sym, ap, subst, ◌∙◌}
use mathlib.Core.List.{List, [], ◌∷◌, ◌++◌, append_assoc}
use native.Mathlib.Omega.{arith}
use lib.ListN.{length, length-append}
use Rattle.std.specs.Prelude.{Option, Some, None}
use Rattle.order.specs.declared.Order.{Order}
use Rattle.sheet.specs.declared.Field.{Field}
use Rattle.sheet.specs.declared.Field.TheVariants.{Else, Start, Finish, If}
use Rattle.sheet.specs.Sheet.{Condition, Part, end, plain, when, either}
use Rattle.sheet.specs.Fields.{simple_fields}
use Rattle.sheet.specs.Memory.{condition_fields, part_fields}
use Rattle.sheet.specs.Translation.{size}
use Rattle.sheet.proofs.Sizes.{simple_some, asking_some}
use Rattle.untranslate_expression.specs.declared.Spot.{Spot}
use Rattle.untranslate_expression.specs.Internal.{orders_at, Safe, Writes}
use Rattle.untranslate_expression.proofs.Places.{writes_none, writes_more, safe_more}
use Rattle.untranslate_part.specs.declared.Begun.{Begun}
use Rattle.untranslate_part.specs.declared.Begun.TheVariants.{Whole, Asked}
use Rattle.untranslate_part.specs.Internal.{Beginning, Stands, Wholly, Parting, Choosing, Onward, Turning}
use Rattle.untranslate_part.proofs.Standing.{plain_stands, when_stands, either_stands}

-- ---- answers

whole_same : {b : Option Begun} {r s : Spot} → b ≡ Some (Whole r) → b ≡ Some (Whole s) → r ≡ s
whole_same x y = cc

asked_same : {b : Option Begun} {r s : Spot} {a d : ℕ} → b ≡ Some (Asked r a) → b ≡ Some (Asked s d) → (r ≡ s) × (a ≡ d)
asked_same x y = (cc, cc)

whole_asked : {b : Option Begun} {r s : Spot} {a : ℕ} → b ≡ Some (Whole r) → b ≡ Some (Asked s a) → ⊥
whole_asked x y = let no : ◌≡◌ {A = ℕ} 0 1 = cc in omega arith

missing_whole : {b : Option Begun} {r : Spot} → b ≡ None → b ≡ Some (Whole r) → ⊥
missing_whole x y = let no : ◌≡◌ {A = ℕ} 0 1 = cc in omega arith

missing_asked : {b : Option Begun} {r : Spot} {a : ℕ} → b ≡ None → b ≡ Some (Asked r a) → ⊥
missing_asked x y = let no : ◌≡◌ {A = ℕ} 0 1 = cc in omega arith

more_same : {t : Option Spot} {r s : Spot} → t ≡ Some r → t ≡ Some s → r ≡ s
more_same x y = cc

done_more : {t : Option Spot} {r : Spot} → t ≡ None → t ≡ Some r → ⊥
done_more x y = let no : ◌≡◌ {A = ℕ} 0 1 = cc in omega arith

-- ---- one instruction

module _ (os table : List ℕ) (q first deep : ℕ) (s : Spot) (fs : List ℕ) where
  -- it is whole
  pub turn_whole :
      (b : Option Begun) (after : List ℕ)
      → Beginning os table first s fs b after
      → (r : Spot)
      → b ≡ Some (Whole r)
      → Turning os table q first deep s fs (Some r) after
  unfolding part_fields size
  turn_whole b after begun r whole = record {
    more = λ k is.
        let same = more_same refl is in
        subst (λ k. Onward os table q first deep s fs k after) same
        (record { further = begun.whole r whole; onward = λ inside n last next. onward inside n last next });
    done = λ is. absurd (done_more is refl);
  }
    where
      onward :
          s.at < q
          → (n : ℕ) (last : List ℕ)
          → Wholly os table r.at q first deep after r.n n last
          → Wholly os table s.at q first deep fs s.n n last
      onward inside n last next v m to end rest st room = absurd (omega (arith, st.ends))
      onward inside n last next v m to (plain u l) rest st room =
          let a = plain_stands os table first s.at q deep v m to rest u l st in
          let all = length-append (simple_fields u) (part_fields l) in
          let g = begun.simple v m to u a.left st.known a.formed a.codes (omega arith) in
          let same = whole_same g.is whole in
          let w = subst (λ k. Writes (simple_fields u) s.n fs k.n after) same g.wrote.writes in
          writes_more w
          (next v m to l rest (a.behind r.at (ap (λ k. orders_at k.at os) (sym same) ∙ g.wrote.rest))
          (omega (arith, w.place, all, begun.kept)))
      onward inside n last next v m to (when c x l) rest st room =
          let a = when_stands os table first s.at q deep v m to rest c x l st in
          let all = length-append (condition_fields c) (Start ∷ (part_fields x ++ (Finish ∷ part_fields l))) in
          let g = begun.asks v m to c a.z a.left st.known a.formed a.codes a.ahead (omega arith) in
          absurd (whole_asked whole g.is)
      onward inside n last next v m to (either c x y l) rest st room =
          let a = either_stands os table first s.at q deep v m to rest c x y l st in
          let all = length-append (condition_fields c) (Start ∷ (part_fields x ++ (Else ∷ (part_fields y ++ (Finish ∷ part_fields l))))) in
          let g = begun.asks v m to c a.d a.left st.known a.formed a.codes a.ahead (omega arith) in
          absurd (whole_asked whole g.is)

  -- it is missing
  pub turn_missing :
      (b : Option Begun) (after : List ℕ)
      → Beginning os table first s fs b after
      → b ≡ None
      → Turning os table q first deep s fs None after
  unfolding part_fields size
  turn_missing b after begun missing = record {
    more = λ k is. absurd (done_more refl is);
    done = λ is. record { kept = begun.kept; never = never };
  }
    where
      never :
          s.at < q
          → (v m : ℕ) (to : ℕ → ℕ) (x : Part) (rest : List Order)
          → Stands os table first s.at q deep v m to x rest
          → s.n + length (part_fields x) ≤ length fs
          → ⊥
      never inside v m to end rest st room = omega (arith, st.ends)
      never inside v m to (plain u l) rest st room =
          let a = plain_stands os table first s.at q deep v m to rest u l st in
          let all = length-append (simple_fields u) (part_fields l) in
          let g = begun.simple v m to u a.left st.known a.formed a.codes (omega arith) in
          missing_whole missing g.is
      never inside v m to (when c x l) rest st room =
          let a = when_stands os table first s.at q deep v m to rest c x l st in
          let all = length-append (condition_fields c) (Start ∷ (part_fields x ++ (Finish ∷ part_fields l))) in
          let g = begun.asks v m to c a.z a.left st.known a.formed a.codes a.ahead (omega arith) in
          missing_asked missing g.is
      never inside v m to (either c x y l) rest st room =
          let a = either_stands os table first s.at q deep v m to rest c x y l st in
          let all = length-append (condition_fields c) (Start ∷ (part_fields x ++ (Else ∷ (part_fields y ++ (Finish ∷ part_fields l))))) in
          let g = begun.asks v m to c a.d a.left st.known a.formed a.codes a.ahead (omega arith) in
          missing_asked missing g.is

  -- it is an IF, of which the parts are read
  module _ (i : Option Begun) (mid : List ℕ) (begun : Beginning os table first s fs i mid) (b : Spot) (a : ℕ) (asked : i ≡ Some (Asked b a)) (t : Option Spot)
      (after : List ℕ) (chosen : Choosing os table b a q first deep mid t after) where
    -- the fields of an IF, and the place behind it
    record Chosen (es : List Field) (z : ℕ) : Type 0 where
      spot : Spot
      is : t ≡ Some spot
      there : spot.at ≡ z
      writes : Writes es s.n fs spot.n after

    one_chosen :
        (v m : ℕ) (to : ℕ → ℕ) (c : Condition) (x l : Part) (rest : List Order)
        → (st : Stands os table first s.at q deep v m to (when c x l) rest)
        → s.n + length (part_fields (when c x l)) ≤ length fs
        → Chosen ((If ∷ condition_fields c) ++ (Start ∷ (part_fields x ++ (Finish ∷ [])))) (when_stands os table first s.at q deep v m to rest c x l st).z
    unfolding part_fields
    one_chosen v m to c x l rest st room =
        let k = when_stands os table first s.at q deep v m to rest c x l st in
        let all = length-append (condition_fields c) (Start ∷ (part_fields x ++ (Finish ∷ part_fields l))) in
        let parts = length-append (part_fields x) (Finish ∷ part_fields l) in
        let ends = length-append (part_fields x) (Finish ∷ []) in
        let g = begun.asks v m to c k.z k.left st.known k.formed k.codes k.ahead (omega arith) in
        let its = asked_same g.is asked in
        let same = its.0 in
        let there = its.1 in
        let w = subst (λ i. Writes (If ∷ condition_fields c) s.n fs i.n mid) same g.wrote.writes in
        let part = k.part b.at (ap (λ i. orders_at i.at os) (sym same) ∙ g.wrote.rest) in
        let leaves =
        chosen.one v m to x k.others (subst (λ i. Stands os table first b.at i (deep - 1) v m to x k.others) there part.1)
        k.levels (rw there at k.alone) (omega (arith, part.0, there)) (omega (arith, k.high, there))
        (omega (arith, w.place, all, parts, ends, begun.kept)) in
        record { spot = leaves.spot; is = leaves.is; there = leaves.there ∙ sym there; writes = writes_more w leaves.writes }

    two_chosen :
        (v m : ℕ) (to : ℕ → ℕ) (c : Condition) (x y l : Part) (rest : List Order)
        → (st : Stands os table first s.at q deep v m to (either c x y l) rest)
        → s.n + length (part_fields (either c x y l)) ≤ length fs
        → Chosen ((If ∷ condition_fields c) ++ (Start ∷ (part_fields x ++ (Else ∷ (part_fields y ++ (Finish ∷ []))))))
        (either_stands os table first s.at q deep v m to rest c x y l st).z
    unfolding part_fields
    two_chosen v m to c x y l rest st room =
        let k = either_stands os table first s.at q deep v m to rest c x y l st in
        let all = length-append (condition_fields c) (Start ∷ (part_fields x ++ (Else ∷ (part_fields y ++ (Finish ∷ part_fields l))))) in
        let parts = length-append (part_fields x) (Else ∷ (part_fields y ++ (Finish ∷ part_fields l))) in
        let seconds = length-append (part_fields y) (Finish ∷ part_fields l) in
        let ends = length-append (part_fields x) (Else ∷ (part_fields y ++ (Finish ∷ []))) in
        let second_ends = length-append (part_fields y) (Finish ∷ []) in
        let g = begun.asks v m to c k.d k.left st.known k.formed k.codes k.ahead (omega arith) in
        let its = asked_same g.is asked in
        let same = its.0 in
        let there = its.1 in
        let w = subst (λ i. Writes (If ∷ condition_fields c) s.n fs i.n mid) same g.wrote.writes in
        let part = k.part b.at (ap (λ i. orders_at i.at os) (sym same) ∙ g.wrote.rest) in
        let leaves =
        chosen.two v m to x y k.z k.others k.behind_second
        (subst (λ i. Stands os table first b.at (i - 1) (deep - 1) v m to x k.others) there part.1)
        (subst (λ i. Stands os table first i k.z (deep - 1) v m to y k.behind_second) there k.second)
        k.levels (rw there at k.skips) (omega (arith, part.0, there)) (omega (arith, k.low, there)) k.high
        (omega (arith, w.place, all, parts, seconds, ends, second_ends, begun.kept)) in
        record { spot = leaves.spot; is = leaves.is; there = leaves.there; writes = writes_more w leaves.writes }

    -- what is right from behind it is right from it
    asked_onward :
        (r : Spot)
        → t ≡ Some r
        → s.at < q
        → (n : ℕ) (last : List ℕ)
        → Wholly os table r.at q first deep after r.n n last
        → Wholly os table s.at q first deep fs s.n n last
    unfolding part_fields size
    asked_onward r is inside n last next v m to end rest st room = absurd (omega (arith, st.ends))
    asked_onward r is inside n last next v m to (plain u l) rest st room =
        let a = plain_stands os table first s.at q deep v m to rest u l st in
        let all = length-append (simple_fields u) (part_fields l) in
        let g = begun.simple v m to u a.left st.known a.formed a.codes (omega arith) in
        absurd (whole_asked g.is asked)
    asked_onward r is inside n last next v m to (when c x l) rest st room =
        let k = when_stands os table first s.at q deep v m to rest c x l st in
        let g = one_chosen v m to c x l rest st room in
        let same = more_same g.is is in
        let place = ap (λ i. i.at) (sym same) ∙ g.there in
        let w = subst (λ i. Writes ((If ∷ condition_fields c) ++ (Start ∷ (part_fields x ++ (Finish ∷ [])))) s.n fs i.n after) same g.writes in
        let whole =
        append_assoc (If ∷ condition_fields c) (Start ∷ (part_fields x ++ (Finish ∷ []))) (part_fields l)
        ∙ ap (λ i. If ∷ (condition_fields c ++ (Start ∷ i))) (append_assoc (part_fields x) (Finish ∷ []) (part_fields l)) in
        let all = ap length (sym whole) ∙ length-append ((If ∷ condition_fields c) ++ (Start ∷ (part_fields x ++ (Finish ∷ [])))) (part_fields l) in
        subst (λ es. Writes es s.n fs n last) whole
        (writes_more w (next v m to l rest (k.behind r.at place) (omega (arith, w.place, all, chosen.kept, begun.kept))))
    asked_onward r is inside n last next v m to (either c x y l) rest st room =
        let k = either_stands os table first s.at q deep v m to rest c x y l st in
        let g = two_chosen v m to c x y l rest st room in
        let same = more_same g.is is in
        let place = ap (λ i. i.at) (sym same) ∙ g.there in
        let es = (If ∷ condition_fields c) ++ (Start ∷ (part_fields x ++ (Else ∷ (part_fields y ++ (Finish ∷ []))))) in
        let w = subst (λ i. Writes es s.n fs i.n after) same g.writes in
        let whole =
        append_assoc (If ∷ condition_fields c) (Start ∷ (part_fields x ++ (Else ∷ (part_fields y ++ (Finish ∷ []))))) (part_fields l)
        ∙ ap (λ i. If ∷ (condition_fields c ++ (Start ∷ i)))
        (append_assoc (part_fields x) (Else ∷ (part_fields y ++ (Finish ∷ []))) (part_fields l)
        ∙ ap (λ i. part_fields x ++ (Else ∷ i)) (append_assoc (part_fields y) (Finish ∷ []) (part_fields l))) in
        let all = ap length (sym whole) ∙ length-append es (part_fields l) in
        subst (λ es. Writes es s.n fs n last) whole
        (writes_more w (next v m to l rest (k.behind r.at place) (omega (arith, w.place, all, chosen.kept, begun.kept))))

    asked_never :
        t ≡ None
        → s.at < q
        → (v m : ℕ) (to : ℕ → ℕ) (x : Part) (rest : List Order)
        → Stands os table first s.at q deep v m to x rest
        → s.n + length (part_fields x) ≤ length fs
        → ⊥
    unfolding part_fields size
    asked_never is inside v m to end rest st room = omega (arith, st.ends)
    asked_never is inside v m to (plain u l) rest st room =
        let a = plain_stands os table first s.at q deep v m to rest u l st in
        let all = length-append (simple_fields u) (part_fields l) in
        let g = begun.simple v m to u a.left st.known a.formed a.codes (omega arith) in
        whole_asked g.is asked
    asked_never is inside v m to (when c x l) rest st room =
        done_more is (one_chosen v m to c x l rest st room).is
    asked_never is inside v m to (either c x y l) rest st room =
        done_more is (two_chosen v m to c x y l rest st room).is

    pub turn_asked : Turning os table q first deep s fs t after
    turn_asked = record {
      more = λ r is.
          let one = begun.asked b a asked in
          let two = chosen.more r is in
          record {
            further = record { on = omega (arith, one.on, two.on); safe = safe_more one.safe two.safe };
            onward = λ inside n last next. asked_onward r is inside n last next;
          };
      done = λ is. record { kept = chosen.kept ∙ begun.kept; never = λ inside v m to x rest st room. asked_never is inside v m to x rest st room };
    }

-- ---- the loop

-- what is right from place s is right from the start
pub record Reached (os table : List ℕ) (at q first deep : ℕ) (fs₀ : List ℕ) (n : ℕ) (s : Spot) (fs : List ℕ) : Type 0 where
  pub safe : Safe n fs₀ s.n fs
  pub onward :
      (r : ℕ) (last : List ℕ)
      → Wholly os table s.at q first deep fs s.n r last
      → Wholly os table at q first deep fs₀ n r last

module _ (os table : List ℕ) (at q first deep : ℕ) (fs₀ : List ℕ) (n : ℕ) where
  module _ (s : Spot) (fs : List ℕ) (so : Reached os table at q first deep fs₀ n s fs) where
    pub reach_more :
        s.at < q
        → (t : Option Spot) (after : List ℕ)
        → Turning os table q first deep s fs t after
        → (r : Spot)
        → t ≡ Some r
        → Reached os table at q first deep fs₀ n r after
    reach_more inside t after turn r is =
        let o = turn.more r is in
        record {
          safe = safe_more so.safe o.further.safe;
          onward = λ k last next. so.onward k last (o.onward inside k last next);
        }

    pub reach_never : s.at < q → (t : Option Spot) (after : List ℕ) → Turning os table q first deep s fs t after → t ≡ None → Parting os table at q first deep fs₀ n s.n after
    reach_never inside t after turn is =
        let e = turn.done is in
        record {
          safe = record { kept = e.kept ∙ so.safe.kept; inside = so.safe.inside };
          whole = so.onward s.n after (λ v m to x rest st room. absurd (e.never inside v m to x rest st room));
        }

    at_end : q ≤ s.at → Wholly os table s.at q first deep fs s.n s.n fs
    unfolding part_fields size
    at_end past v m to end rest st room = writes_none s.n fs
    at_end past v m to (plain u l) rest st room = absurd (omega (arith, st.ends, simple_some v u))
    at_end past v m to (when c x l) rest st room = absurd (omega (arith, st.ends, asking_some v c))
    at_end past v m to (either c x y l) rest st room = absurd (omega (arith, st.ends, asking_some v c))

    pub reach_end : q ≤ s.at → Parting os table at q first deep fs₀ n s.n fs
    reach_end past = record { safe = so.safe; whole = so.onward s.n fs (at_end past) }
