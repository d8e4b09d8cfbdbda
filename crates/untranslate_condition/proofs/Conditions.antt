-- The fields of a condition: of one comparison, and of a run by its first member.
use Prim.Native.Nat.{ℕ, suc, ◌+◌, ◌-◌, ◌≤◌, ◌<◌}
use mathlib.Core.Path.{◌≡◌, refl, sym, ap, ap₂, subst, ◌∙◌}
use mathlib.Core.Bool.{Bool, true, false}
use mathlib.Core.List.{List, [], ◌∷◌, ◌++◌, map, append_assoc}
use native.Mathlib.Omega.{arith}
use lib.ListN.{length, set, take, length-append}
use lib.Seq.{sets, set-set, length-take-le}
use Rattle.std.specs.Prelude.{Some, None, unwrap_or}
use Rattle.base.specs.Choice.{pick}
use Rattle.word.specs.declared.Relation.{Relation}
use Rattle.order.specs.declared.Order.{Order}
use Rattle.order.specs.declared.Order.TheVariants.{Branch}
use Rattle.sheet.specs.declared.Joining.{Joining}
use Rattle.sheet.specs.declared.Joining.TheVariants.{And, Or}
use Rattle.sheet.specs.declared.Field.TheVariants.{Else, Compare, Run}
use Rattle.sheet.specs.Sheet.{Expression, Condition, compares, joins}
use Rattle.sheet.specs.Fields.{expression_fields}
use Rattle.sheet.specs.Memory.{condition_fields}
use Rattle.sheet.specs.Orders.{comparison_code}
use Rattle.sheet.specs.Formed.{Expressed}
use Rattle.sheet.specs.Condition.{Merged, AllExpressed, trying, leaving, try_code}
use Rattle.sheet.specs.Guess.{word_of, on_at, alike}
use Rattle.sheet.proofs.Sizes.{trying_some}
use Rattle.sheet.proofs.Trees.{leaving_twice, word_again, goes_on_law, outside}
use Rattle.sheet_field.specs.Memory.{field_word}
use Rattle.untranslate_expression.specs.declared.Spot.{Spot}
use Rattle.untranslate_expression.specs.Internal.{orders_at, first_order, Put, Writes, Wrote, Reading}
use Rattle.untranslate_expression.proofs.Places.{set_sets, writes_more, safe_more}
use Rattle.untranslate_expression.proofs.Links.{comparison_chain}
use Rattle.untranslate_condition.specs.Internal.{lead_of, lead_at, member_end, FirstMember, goes_on_by, far_code, Compared, Trying}
use Rattle.untranslate_condition.proofs.Places.{orders_length, orders_past, orders_before}
use Rattle.untranslate_condition.proofs.Members.{one_member, run_member}

-- ---- the orders that try a condition

module _ (v : ℕ) where
  pub far_length : (p : ℕ) (g : Bool) (d : ℕ) (c : Condition) → length (far_code v p g d c) ≡ trying v c
  unfolding far_code trying
  far_length p g d (compares r x y) = length-append (comparison_code v x y) _
  far_length p g d (joins w a b) =
      let s = p + trying v a in
      let z = pick (alike (on_at w) g) d (s + trying v b) in
      length-append (far_code v p (on_at w) z a) _ ∙ omega (arith, far_length p (on_at w) z a, far_length s g d b)

  -- the last of them is a branch to where they lead
  record LastBranch (os : List Order) (d : ℕ) : Type 0 where
    front : List Order
    asks : Relation
    is : os ≡ front ++ (Branch asks d ∷ [])

  far_last : (p : ℕ) (g : Bool) (d : ℕ) (c : Condition) → LastBranch (far_code v p g d c) d
  unfolding far_code
  far_last p g d (compares r x y) = record { front = comparison_code v x y; asks = leaving g r; is = refl }
  far_last p g d (joins w a b) =
      let xs = far_code v p (on_at w) (pick (alike (on_at w) g) d (p + trying v a + trying v b)) a in
      let l = far_last (p + trying v a) g d b in
      record {
        front = xs ++ l.front;
        asks = l.asks;
        is = ap (λ k. xs ++ k) l.is ∙ sym (append_assoc xs l.front (Branch l.asks d ∷ []));
      }

  -- where the answer that falls through leads to the order behind
  pub try_far :
      (p n : ℕ) (g : Bool) (y z : ℕ) (c : Condition)
      → p + trying v c ≡ n
      → pick g y z ≡ n
      → try_code v p g y z c ≡ far_code v p g (pick g z y) c
  unfolding try_code far_code trying pick
  try_far p n g y z (compares r a b) there e = refl
  try_far p n true y z (joins And a b) there e =
      let s = p + trying v a in
      ap₂ ◌++◌ (try_far p s true s z a refl refl) (try_far s n true y z b (omega arith) e)
  try_far p n false y z (joins And a b) there e =
      let s = p + trying v a in
      let end : s + trying v b ≡ z = omega arith in
      ap₂ ◌++◌ (try_far p s true s z a refl refl ∙ ap (λ i. far_code v p true i a) (sym end)) (try_far s n false y z b (omega arith) e)
  try_far p n true y z (joins Or a b) there e =
      let s = p + trying v a in
      let end : s + trying v b ≡ y = omega arith in
      ap₂ ◌++◌ (try_far p s false y s a refl refl ∙ ap (λ i. far_code v p false i a) (sym end)) (try_far s n true y z b (omega arith) e)
  try_far p n false y z (joins Or a b) there e =
      let s = p + trying v a in
      ap₂ ◌++◌ (try_far p s false y s a refl refl) (try_far s n false y z b (omega arith) e)

-- ---- the branch before order q

pub record Leads (os : List ℕ) (q d : ℕ) : Type 0 where
  pub asks : Relation
  pub is : lead_at (q - 1) os ≡ Some (asks, d)

pub branch_before :
    (os : List ℕ) (v p q : ℕ) (g : Bool) (d : ℕ) (c : Condition) (l : List Order)
    → orders_at p os ≡ far_code v p g d c ++ l
    → p + trying v c ≡ q
    → Leads os q d
branch_before os v p q g d c l stands there =
    let b = far_last v p g d c in
    let many = far_length v p g d c in
    let split = length-append b.front (Branch b.asks d ∷ []) in
    let all = ap length b.is in
    let here = stands ∙ ap (λ k. k ++ l) b.is ∙ append_assoc b.front (Branch b.asks d ∷ []) l in
    let last = orders_past os p (q - 1) b.front (Branch b.asks d ∷ l) here (omega (arith, many, split, all)) in
    record { asks = b.asks; is = ap (λ k. lead_of (first_order k)) last }

-- ---- one comparison

module _ (os : List ℕ) (p : ℕ) (falls : Bool) (first : ℕ) (fs : List ℕ) (n : ℕ) (e : Spot) (m : List ℕ)
    (reading : Reading os p first first fs n e m) where
  comparison_read :
      (v d : ℕ) (s : Relation) (x y : Expression)
      → first ≡ v + 2
      → first + length os ≤ 4294967295
      → Expressed v x
      → Expressed v y
      → orders_at p os ≡ comparison_code v x y ++ (Branch (leaving falls s) d ∷ [])
      → n + length (condition_fields (compares s x y)) ≤ length fs
      → Wrote os (Else ∷ (expression_fields x ++ expression_fields y)) (Branch (leaving falls s) d ∷ []) n fs e m
  unfolding condition_fields
  comparison_read v d s x y start few hx hy stands fits =
      reading.whole v 0 (comparison_code v x y) (Else ∷ (expression_fields x ++ expression_fields y)) (Branch (leaving falls s) d ∷ []) start (omega arith)
      (comparison_chain v x y hx hy) stands refl (omega arith) fits

  pub compared_none : None ≡ lead_at e.at os → Compared os p falls first fs n e.n m
  compared_none none = record {
    safe = reading.safe;
    whole = λ v d s x y start few hx hy stands fits.
        let w = comparison_read v d s x y start few hx hy stands fits in
        let z : ◌≡◌ {A = ℕ} 0 1 = cc (ap (λ k. lead_of (first_order k)) w.rest) in
        absurd (omega arith);
  }

  -- the relation in the place of ELSE
  relation_put : (ws : List ℕ) (z c : ℕ) → set (sets fs n (z ∷ ws)) n c ≡ sets fs n (c ∷ ws)
  relation_put ws z c = set_sets ws (set fs n z) n (suc n) c (omega arith) ∙ ap (λ k. sets k (suc n) ws) (set-set fs n z c)

  pub compared_put :
      (r : Relation) (a : ℕ)
      → Some (r, a) ≡ lead_at e.at os
      → (t : Relation)
      → t ≡ leaving falls r
      → (u : ℕ) (after : List ℕ)
      → Put (Compare t) n m u after
      → Compared os p falls first fs n e.n after
  unfolding condition_fields
  compared_put r a known t its u after put = record {
    safe = record { kept = put.safe.kept ∙ reading.safe.kept; inside = reading.safe.inside };
    whole = λ v d s x y start few hx hy stands fits.
        let w = comparison_read v d s x y start few hx hy stands fits in
        let told = known ∙ ap (λ k. lead_of (first_order k)) w.rest in
        let left : r ≡ leaving falls s = ap (λ x. (unwrap_or {T = Relation × ℕ} x (r, a)).0) told in
        let related : t ≡ s = its ∙ ap (leaving falls) left ∙ leaving_twice falls s in
        let one = put.writes (omega (arith, reading.safe.kept)) in
        record {
          place = w.writes.place;
          fields =
              one.fields
              ∙ ap₂ (λ k q. set k n (field_word (Compare q))) w.writes.fields related
              ∙ relation_put (map field_word (expression_fields x ++ expression_fields y)) (field_word Else) (field_word (Compare s));
        };
  }

-- ---- a comparison or a run

-- the orders of a condition to the end of those lent
all_tried : (os : List ℕ) (v p : ℕ) (g : Bool) (d : ℕ) (c : Condition) → orders_at p os ≡ far_code v p g d c → p + trying v c ≡ length os
all_tried os v p g d c stands =
    omega (arith, orders_length p os, ap length stands, far_length v p g d c, trying_some v c)

module _ (os : List ℕ) (p : ℕ) (falls : Bool) (first : ℕ) (fs : List ℕ) (n q : ℕ) (member : FirstMember os p q) where
  one_told :
      (v d : ℕ) (s : Relation) (x y : Expression)
      → AllExpressed v (compares s x y)
      → orders_at p os ≡ far_code v p falls d (compares s x y)
      → length os < d
      → q ≡ length os
  one_told v d s x y all stands far =
      member.is
      ∙ ap (member_end (length os) 0 p) stands
      ∙ one_member v (length os) p falls d s x y all (all_tried os v p falls d (compares s x y) stands) far

  run_told :
      (v d : ℕ) (w : Joining) (a b : Condition)
      → AllExpressed v (joins w a b)
      → Merged (joins w a b)
      → orders_at p os ≡ far_code v p falls d (joins w a b)
      → length os < d
      → (p + trying v a + trying v b ≡ length os) × (q ≡ p + trying v a)
  unfolding trying
  run_told v d w a b all merged stands far =
      let whole = all_tried os v p falls d (joins w a b) stands in
      let end : p + trying v a + trying v b ≡ length os = omega arith in (
        end,
        member.is ∙ ap (member_end (length os) 0 p) stands ∙ run_member v (length os) p falls d w a b all merged end far,
      )

  pub tried_one : length os ≤ q → (r : ℕ) (after : List ℕ) → Compared os p falls first fs n r after → Trying os p falls first fs n r after
  unfolding far_code AllExpressed
  tried_one last r after one = record { safe = one.safe; whole = whole }
    where
      whole :
          (v d : ℕ) (c : Condition)
          → first ≡ v + 2
          → first + length os ≤ 4294967295
          → AllExpressed v c
          → Merged c
          → orders_at p os ≡ far_code v p falls d c
          → length os < d
          → n + length (condition_fields c) ≤ length fs
          → Writes (condition_fields c) n fs r after
      whole v d (compares s x y) start few all merged stands far fits = one.whole v d s x y start few all.0 all.1 stands fits
      whole v d (joins w a b) start few all merged stands far fits =
          let told = run_told v d w a b all merged stands far in
          absurd (omega (arith, told.0, told.1, trying_some v b))

  pub tried_run :
      q < length os
      → (on : Bool)
      → on ≡ goes_on_by falls (length os) (lead_at (q - 1) os)
      → (t : Joining)
      → t ≡ word_of on
      → (u : ℕ) (mid : List ℕ)
      → Put (Run t 0) n fs u mid
      → (k : ℕ) (m₂ : List ℕ)
      → Trying (take q os) p on first mid u k m₂
      → (r : ℕ) (after : List ℕ)
      → Trying os q falls first m₂ k r after
      → Trying os p falls first fs n r after
  unfolding far_code AllExpressed Merged condition_fields
  tried_run inside on its t word u mid put k m₂ front r after rest = record {
    safe = safe_more put.safe (safe_more front.safe rest.safe);
    whole = whole;
  }
    where
      whole :
          (v d : ℕ) (c : Condition)
          → first ≡ v + 2
          → first + length os ≤ 4294967295
          → AllExpressed v c
          → Merged c
          → orders_at p os ≡ far_code v p falls d c
          → length os < d
          → n + length (condition_fields c) ≤ length fs
          → Writes (condition_fields c) n fs r after
      whole v d (compares s x y) start few all merged stands far fits =
          absurd (omega (arith, one_told v d s x y all stands far))
      whole v d (joins w a b) start few all merged stands far fits =
          let told = run_told v d w a b all merged stands far in
          let here : p + trying v a ≡ q = sym told.1 in
          let z = pick (alike (on_at w) falls) d (length os) in
          let xs = far_code v p (on_at w) z a in
          let ys = far_code v (p + trying v a) falls d b in
          let apart : orders_at p os ≡ xs ++ ys =
          stands ∙ ap (λ i. far_code v p (on_at w) (pick (alike (on_at w) falls) d i) a ++ ys) told.0 in
          let there : p + length xs ≡ q = ap (λ i. p + i) (far_length v p (on_at w) z a) ∙ here in
          let branch = branch_before os v p q (on_at w) z a ys apart here in
          let goes : on ≡ on_at w = its ∙ ap (goes_on_by falls (length os)) branch.is ∙ goes_on_law w falls (length os) d far in
          let joined : t ≡ w = word ∙ ap word_of goes ∙ word_again w in
          let beyond = outside (length os) d (alike (on_at w) falls) far in
          let short = length-take-le q os (omega arith) in
          let all_fields_law = length-append (condition_fields a) (condition_fields b) in
          let one = subst (λ i. Writes (Run i 0 ∷ []) n fs u mid) joined (put.writes (omega arith)) in
          let two =
          (subst (λ i. Trying (take q os) p i first mid u k m₂) goes front).whole v z a start (omega (arith, short)) all.0 merged.1
          (orders_before os p q xs ys apart there) (omega (arith, short, beyond)) (omega (arith, one.place, put.safe.kept, all_fields_law)) in
          let three =
          rest.whole v d b start few all.1 merged.2 (orders_past os p q xs ys apart there ∙ ap (λ i. far_code v i falls d b) here) far
          (omega (arith, one.place, two.place, put.safe.kept, front.safe.kept, all_fields_law)) in
          writes_more one (writes_more two three)
