-- The parts of an IF: which there are, and their fields.
use Prim.Native.Nat.{ℕ, ◌-◌, ◌≤◌, ◌<◌}
use mathlib.Core.Path.{◌≡◌, refl, sym, subst, ◌∙◌}
use mathlib.Core.List.{List, [], ◌∷◌, ◌++◌}
use native.Mathlib.Omega.{arith}
use borrow.Author.Tests.{lt-ltb, le-leb, ltb-true}
use lib.Dec.{ltb, leb}
use lib.ListN.{length-append}
use Rattle.std.specs.Prelude.{Option, Some, None}
use Rattle.base.specs.Choice.{pick}
use Rattle.base.proofs.Cases.{chosen_first}
use Rattle.sheet.specs.declared.Field.TheVariants.{Else, Start, Finish}
use Rattle.sheet.specs.Memory.{part_fields}
use Rattle.untranslate_expression.specs.declared.Spot.{Spot}
use Rattle.untranslate_expression.specs.Internal.{Put}
use Rattle.untranslate_expression.proofs.Places.{writes_more, safe_more}
use Rattle.untranslate_part.specs.declared.Role.{Role}
use Rattle.untranslate_part.specs.declared.Role.TheVariants.{Inside, Last, Goto, Branch as Branches, Cond as Conds, Skip as Skips, Stop as Stops}
use Rattle.untranslate_part.specs.declared.Parts.{Parts}
use Rattle.untranslate_part.specs.declared.Parts.TheVariants.{One, Two}
use Rattle.untranslate_part.specs.Internal.{role_at, parts_by, parts_of, Further, Stands, Grouping, Choosing}

-- ---- which parts

parts_first : (at to end : ℕ) (q : Role) → at < to → to ≤ end → parts_of at to end q ≡ parts_by to end q
unfolding pick
parts_first at to end q h g = rw (lt-ltb at to h, le-leb to end g) refl

parts_second : (to end z : ℕ) (q : Role) → q ≡ Skips z → to < z → z ≤ end → parts_by to end q ≡ Some (Two (to - 1) to z)
unfolding pick
parts_second to end z q is h g = rw (is, lt-ltb to z h, le-leb z end g) refl

one_on : (at to end : ℕ) (r : Role) (q : ℕ) → parts_of at to end r ≡ Some (One q) → at < q
one_on at to end r q e =
    let a = chosen_first (ltb at to) _ None (Some (One q)) (λ z. let no : ◌≡◌ {A = ℕ} 0 1 = cc in omega arith) e in
    let b = chosen_first (leb to end) _ None (Some (One q)) (λ z. let no : ◌≡◌ {A = ℕ} 0 1 = cc in omega arith) a.1 in
    omega (arith, ltb-true at to a.0, by_role r b.1)
  where
    by_role : (r : Role) → parts_by to end r ≡ Some (One q) → q ≡ to
    by_role Inside e = cc
    by_role (Last f) e = cc
    by_role (Goto a) e = cc
    by_role (Branches t a) e = cc
    by_role (Conds n) e = cc
    by_role (Skips z) e =
        let a = chosen_first (ltb to z) _ None (Some (One q)) (λ z. let no : ◌≡◌ {A = ℕ} 0 1 = cc in omega arith) e in
        let b = chosen_first (leb z end) _ None (Some (One q)) (λ z. let no : ◌≡◌ {A = ℕ} 0 1 = cc in omega arith) a.1 in
        let none = b.1 in
        let no : ◌≡◌ {A = ℕ} 0 1 = cc in absurd (omega arith)
    by_role Stops e = cc

two_on : (at to end : ℕ) (r : Role) (q p z : ℕ) → parts_of at to end r ≡ Some (Two q p z) → at < z
two_on at to end r q p z e =
    let a = chosen_first (ltb at to) _ None (Some (Two q p z)) (λ z. let no : ◌≡◌ {A = ℕ} 0 1 = cc in omega arith) e in
    let b = chosen_first (leb to end) _ None (Some (Two q p z)) (λ z. let no : ◌≡◌ {A = ℕ} 0 1 = cc in omega arith) a.1 in
    omega (arith, ltb-true at to a.0, by_role r b.1)
  where
    by_role : (r : Role) → parts_by to end r ≡ Some (Two q p z) → to < z
    by_role Inside e = let no : ◌≡◌ {A = ℕ} 0 1 = cc in absurd (omega arith)
    by_role (Last f) e = let no : ◌≡◌ {A = ℕ} 0 1 = cc in absurd (omega arith)
    by_role (Goto a) e = let no : ◌≡◌ {A = ℕ} 0 1 = cc in absurd (omega arith)
    by_role (Branches t a) e = let no : ◌≡◌ {A = ℕ} 0 1 = cc in absurd (omega arith)
    by_role (Conds n) e = let no : ◌≡◌ {A = ℕ} 0 1 = cc in absurd (omega arith)
    by_role (Skips k) e =
        let a = chosen_first (ltb to k) _ None (Some (Two q p z)) (λ z. let no : ◌≡◌ {A = ℕ} 0 1 = cc in omega arith) e in
        let b = chosen_first (leb k end) _ None (Some (Two q p z)) (λ z. let no : ◌≡◌ {A = ℕ} 0 1 = cc in omega arith) a.1 in
        let two = b.1 in
        let same : k ≡ z = cc in
        omega (arith, ltb-true to k a.0)
    by_role Stops e = let no : ◌≡◌ {A = ℕ} 0 1 = cc in absurd (omega arith)

-- ---- the fields

module _ (os table : List ℕ) (b : Spot) (a q first deep : ℕ) (fs : List ℕ) where
  abbrev parts : Option Parts
  parts = parts_of b.at a q (role_at first (a - 1) os)

  one_told : parts_by a q (role_at first (a - 1) os) ≡ Some (One a) → b.at < a → a ≤ q → parts ≡ Some (One a)
  one_told alone low high = parts_first b.at a q (role_at first (a - 1) os) low high ∙ alone

  two_told : (z : ℕ) → role_at first (a - 1) os ≡ Skips z → b.at < a → a < z → z ≤ q → parts ≡ Some (Two (a - 1) a z)
  two_told z skips low middle high =
      parts_first b.at a q (role_at first (a - 1) os) low (omega arith) ∙ parts_second a q z (role_at first (a - 1) os) skips middle high

  pub choose_none : None ≡ parts → Choosing os table b a q first deep fs None fs
  choose_none known = record {
    kept = refl;
    more = λ r is. let no : ◌≡◌ {A = ℕ} 0 1 = cc in absurd (omega arith);
    one = λ v m to x rest stands levels alone low high room.
        let no : ◌≡◌ {A = ℕ} 0 1 = cc (one_told alone low high) in absurd (omega arith);
    two = λ v m to x y z rest more stands second levels skips low middle high room.
        let no : ◌≡◌ {A = ℕ} 0 1 = cc (two_told z skips low middle high) in absurd (omega arith);
  }

  module _ (e x : ℕ) (m₁ : List ℕ) where
    pub choose_one :
        Some (One e) ≡ parts
        → Grouping os table b.at e first (deep - 1) Start fs b.n x m₁
        → (n : ℕ) (after : List ℕ)
        → Put Finish x m₁ n after
        → Choosing os table b a q first deep fs (Some (record { at = e; n = n })) after
    choose_one known group n after last = record {
      kept = last.safe.kept ∙ group.safe.kept;
      more = λ r is.
          let same : record { at = e; n = n } ≡ r = cc in
          subst (λ k. Further b fs k after) same
          (record { on = one_on b.at a q (role_at first (a - 1) os) e (sym known); safe = safe_more group.safe last.safe });
      one = λ v m to p rest stands levels alone low high room.
          let same : a ≡ e = cc (one_told alone low high) in
          let all = length-append (part_fields p) (Finish ∷ []) in
          let first_part = group.whole v m to p rest (subst (λ k. Stands os table first b.at k (deep - 1) v m to p rest) same stands) (omega arith) in
          let finish = last.writes (omega (arith, first_part.place, all, group.safe.kept)) in
          record { spot = record { at = e; n = n }; is = refl; there = sym same; writes = writes_more first_part finish };
      two = λ v m to p y z rest more stands second levels skips low middle high room.
          let no : ◌≡◌ {A = ℕ} 0 1 = cc (two_told z skips low middle high) in absurd (omega arith);
    }

    pub choose_two :
        (d z : ℕ)
        → Some (Two e d z) ≡ parts
        → Grouping os table b.at e first (deep - 1) Start fs b.n x m₁
        → (y : ℕ) (m₂ : List ℕ)
        → Grouping os table d z first (deep - 1) Else m₁ x y m₂
        → (n : ℕ) (after : List ℕ)
        → Put Finish y m₂ n after
        → Choosing os table b a q first deep fs (Some (record { at = z; n = n })) after
    choose_two d z known group y m₂ other n after last = record {
      kept = last.safe.kept ∙ other.safe.kept ∙ group.safe.kept;
      more = λ r is.
          let same : record { at = z; n = n } ≡ r = cc in
          subst (λ k. Further b fs k after) same
          (record { on = two_on b.at a q (role_at first (a - 1) os) e d z (sym known); safe = safe_more group.safe (safe_more other.safe last.safe) });
      one = λ v m to p rest stands levels alone low high room.
          let no : ◌≡◌ {A = ℕ} 0 1 = cc (one_told alone low high) in absurd (omega arith);
      two = λ v m to p t far rest more stands second levels skips low middle high room.
          let told = known ∙ two_told far skips low middle high in
          let first_end : a - 1 ≡ e = cc in
          let begins : a ≡ d = cc in
          let ends : far ≡ z = cc in
          let second_here = subst (λ k. Stands os table first k far (deep - 1) v m to t more) begins second in
          let first_all = length-append (part_fields p) (Else ∷ (part_fields t ++ (Finish ∷ []))) in
          let second_all = length-append (part_fields t) (Finish ∷ []) in
          let one = group.whole v m to p rest (subst (λ k. Stands os table first b.at k (deep - 1) v m to p rest) first_end stands) (omega arith) in
          let two = other.whole v m to t more (subst (λ k. Stands os table first d k (deep - 1) v m to t more) ends second_here)
          (omega (arith, one.place, first_all, second_all, group.safe.kept)) in
          let finish = last.writes (omega (arith, one.place, two.place, first_all, second_all, group.safe.kept, other.safe.kept)) in
          record {
            spot = record { at = z; n = n };
            is = refl;
            there = sym ends;
            writes = writes_more one (writes_more two finish);
          };
    }
