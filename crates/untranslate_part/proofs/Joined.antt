-- COND and the condition behind it, to behind the last branch.
use Prim.Native.Nat.{ℕ, ◌+◌, ◌-◌, ◌<◌}
use mathlib.Core.Path.{◌≡◌, refl, sym, ap, subst, ◌∙◌}
use mathlib.Core.Bool.{true}
use mathlib.Core.List.{List, [], ◌∷◌, ◌++◌}
use native.Mathlib.Omega.{arith}
use lib.ListN.{length, take}
use lib.Seq.{length-take-le}
use Rattle.std.specs.Prelude.{Some, None, unwrap_or}
use Rattle.base.specs.Choice.{pick}
use Rattle.word.specs.declared.Relation.{Relation}
use Rattle.order.specs.declared.Order.{Order}
use Rattle.sheet.specs.declared.Joining.{Joining}
use Rattle.sheet.specs.declared.Field.TheVariants.{If}
use Rattle.sheet.specs.Sheet.{Condition, joins}
use Rattle.sheet.specs.Condition.{comparisons, AllExpressed, trying, asking, asking_code}
use Rattle.untranslate_expression.specs.declared.Spot.{Spot}
use Rattle.untranslate_expression.specs.Internal.{orders_at, behind, Put}
use Rattle.untranslate_expression.proofs.Places.{orders_behind, writes_more, safe_more}
use Rattle.untranslate_condition.specs.Internal.{lead_at, branches_end, PastBranches, far_code, Trying}
use Rattle.untranslate_condition.proofs.Places.{orders_past, orders_before}
use Rattle.untranslate_condition.proofs.Leads.{condition_branches}
use Rattle.untranslate_condition.proofs.Conditions.{far_length, try_far, Leads, branch_before}
use Rattle.untranslate_part.specs.declared.Begun.TheVariants.{Asked}
use Rattle.untranslate_part.specs.Internal.{Further, Joined}

none_left : (q : ℕ) (l : List Order) → branches_end 0 q l ≡ q
unfolding branches_end pick
none_left q [] = refl
none_left q (o ∷ l) = refl

module _ (os : List ℕ) (first : ℕ) (s : Spot) (many : ℕ) (fs : List ℕ) where
  module _ (e : ℕ) (past : PastBranches os (s.at + 1) many e) where
    -- where the condition ends, and what its last branch tells
    record Placed (v : ℕ) (c : Condition) (d : ℕ) (l : List Order) : Type 0 where
      codes : orders_at (s.at + 1) os ≡ far_code v (s.at + 1) true d c ++ l
      there : s.at + 1 + trying v c ≡ e
      leads : Leads os e d

    placed :
        (v : ℕ) (w : Joining) (x y : Condition) (d : ℕ) (l : List Order)
        → AllExpressed v (joins w x y)
        → many ≡ comparisons (joins w x y)
        → orders_at s.at os ≡ asking_code v s.at (joins w x y) d ++ l
        → Placed v (joins w x y) d l
    unfolding asking_code asking pick
    placed v w x y d l all its stands =
        let c = joins w x y in
        let p = s.at + 1 in
        let codes : orders_at p os ≡ far_code v p true d c ++ l =
        orders_behind s.at os
        ∙ ap behind stands
        ∙ ap (λ k. k ++ l) (try_far v p (s.at + (1 + trying v c)) true (s.at + (1 + trying v c)) d c (omega arith) refl) in
        let there : p + trying v c ≡ e =
        sym (past.is
        ∙ ap (branches_end many p) codes
        ∙ condition_branches v p true d c many 0 p (p + trying v c) l all (omega arith) refl
        ∙ none_left (p + trying v c) l) in
        record { codes = codes; there = there; leads = branch_before os v p e true d c l codes there }

    pub joined_none : None ≡ lead_at (e - 1) os → Joined os first s many fs None fs
    joined_none none = record {
      kept = refl;
      never = λ r is. let z : ◌≡◌ {A = ℕ} 0 1 = cc in omega arith;
      asked = λ r a is. let z : ◌≡◌ {A = ℕ} 0 1 = cc in absurd (omega arith);
      asks = λ v w x y d l start few formed its stands far fits.
          let leads = (placed v w x y d l formed.0 its stands).leads.is in
          let z : ◌≡◌ {A = ℕ} 0 1 = cc in
          absurd (omega arith);
    }

    pub joined_read :
        s.at < length os
        → (t : Relation) (a : ℕ)
        → Some (t, a) ≡ lead_at (e - 1) os
        → (u : ℕ) (mid : List ℕ)
        → Put If s.n fs u mid
        → (m : ℕ) (after : List ℕ)
        → Trying (take e os) (s.at + 1) true first mid u m after
        → Joined os first s many fs (Some (Asked (record { at = e; n = m }) a)) after
    unfolding asking
    joined_read inside t a known u mid put m after tried = record {
      kept = tried.safe.kept ∙ put.safe.kept;
      never = λ r is. let z : ◌≡◌ {A = ℕ} 0 1 = cc in omega arith;
      asked = λ r d is.
          let same : record { at = e; n = m } ≡ r = cc in
          subst (λ k. Further s fs k after) same (record { on = omega (arith, past.on); safe = safe_more put.safe tried.safe });
      asks = λ v w x y d l start few formed its stands far fits.
          let c = joins w x y in
          let g = placed v w x y d l formed.0 its stands in
          let leads = g.leads.is in
          let there : a ≡ d = ap (λ x. (unwrap_or {T = Relation × ℕ} x (t, a)).1) (known ∙ leads) in
          let xs = far_code v (s.at + 1) true d c in
          let end : s.at + 1 + length xs ≡ e = ap (λ i. s.at + 1 + i) (far_length v (s.at + 1) true d c) ∙ g.there in
          let short = length-take-le e os (past.inside (omega arith)) in
          let low = past.inside (omega arith) in
          let one = put.writes (omega arith) in
          let two =
          tried.whole v d c start (omega (arith, short, low)) formed.0 formed.1 (orders_before os (s.at + 1) e xs l g.codes end)
          (omega (arith, short, far, g.there)) (omega (arith, one.place, put.safe.kept)) in
          record {
            spot = record { at = e; n = m };
            is = ap (λ k. Some (Asked (record { at = e; n = m }) k)) there;
            wrote = record { rest = orders_past os (s.at + 1) e xs l g.codes end; writes = writes_more one two };
          };
    }
