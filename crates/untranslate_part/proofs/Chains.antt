-- One instruction: its expression or comparison, and the order behind it, which tells the first field; and any by its first order.
use Prim.Native.Nat.{ℕ, suc, ◌+◌, ◌≤◌, ◌<◌}
use mathlib.Core.Path.{◌≡◌, refl, ap, ap₂, subst, ◌∙◌}
use mathlib.Core.Bool.{true}
use mathlib.Core.List.{List, [], ◌∷◌, ◌++◌, map, append_assoc}
use native.Mathlib.Omega.{arith}
use borrow.Author.Tests.{lt-ltb, ne_eqb}
use lib.ListN.{length, get_or, set}
use lib.Seq.{sets, set-set}
use Rattle.std.specs.Prelude.{Option, Some, None}
use Rattle.base.specs.Choice.{pick}
use Rattle.base.proofs.Cases.{by_less}
use Rattle.word.specs.declared.Relation.{Relation}
use Rattle.order.specs.declared.Operation.TheVariants.{Cmp}
use Rattle.order.specs.declared.Order.{Order}
use Rattle.order.specs.declared.Order.TheVariants.{Word, Number, Store, Neg, Not, Jump, Skip, Branch, Cond, Send, Stop}
use Rattle.sheet.specs.declared.Field.{Field}
use Rattle.sheet.specs.declared.Field.TheVariants.{Else, If, Send as SendField, Compare, Set, Goto as GotoField}
use Rattle.sheet.specs.Sheet.{Expression, operand, Simple, set as setting, send, goto, Condition, compares, joins}
use Rattle.sheet.specs.Fields.{expression_fields, simple_fields}
use Rattle.sheet.specs.Memory.{condition_fields}
use Rattle.sheet.specs.Orders.{joined, code, simple_code, comparison_code, opposite}
use Rattle.sheet.specs.Formed.{Expressed, SimpleFormed}
use Rattle.sheet.specs.Condition.{comparisons, AllExpressed, ConditionFormed, try_code, asking, asking_code}
use Rattle.sheet_field.specs.Memory.{field_word}
use Rattle.untranslate_expression.specs.declared.Spot.{Spot}
use Rattle.untranslate_expression.specs.Internal.{orders_at, first_order, behind, loads_leaf, link_of, Past, Put, Writes, Wrote, Reading}
use Rattle.untranslate_expression.proofs.Places.{none_outside, set_sets, writes_before}
use Rattle.untranslate_expression.proofs.Links.{joined_left, starts, expression_chain, comparison_chain}
use Rattle.sheet.proofs.Trees.{opposite_twice}
use Rattle.untranslate_part.specs.declared.Role.{Role}
use Rattle.untranslate_part.specs.declared.Role.TheVariants.{Inside, Last, Goto, Branch as Branches, Cond as Conds, Skip as Skips, Stop as Stops}
use Rattle.untranslate_part.specs.declared.Begun.{Begun}
use Rattle.untranslate_part.specs.declared.Begun.TheVariants.{Whole, Asked}
use Rattle.untranslate_part.specs.Internal.{role_of, role_at, IfPut, Further, Gives, Chained, Joined, Known, Beginning}

-- ---- roles

-- no instruction ends with such an order, and no IF has it behind its comparison
abbrev pub Untold : Role → Type 0
Untold Inside = Unit {0}
Untold (Last f) = ⊥
Untold (Goto a) = Unit {0}
Untold (Branches r a) = ⊥
Untold (Conds n) = Unit {0}
Untold (Skips a) = Unit {0}
Untold Stops = Unit {0}

pub untold : (q : Role) → ((f : Field) → q ≡ Last f → ⊥) → ((r : Relation) (a : ℕ) → q ≡ Branches r a → ⊥) → Untold q
untold Inside h k = tt
untold (Last f) h k = h f refl
untold (Goto a) h k = tt
untold (Branches r a) h k = k r a refl
untold (Conds n) h k = tt
untold (Skips a) h k = tt
untold Stops h k = tt

-- no instruction begins with such an order
abbrev pub Unbegun : Role → Type 0
Unbegun Inside = ⊥
Unbegun (Last f) = Unit {0}
Unbegun (Goto a) = ⊥
Unbegun (Branches r a) = Unit {0}
Unbegun (Conds n) = ⊥
Unbegun (Skips a) = Unit {0}
Unbegun Stops = Unit {0}

pub unbegun : (q : Role) → (q ≡ Inside → ⊥) → ((a : ℕ) → q ≡ Goto a → ⊥) → ((n : ℕ) → q ≡ Conds n → ⊥) → Unbegun q
unbegun Inside h k j = h refl
unbegun (Last f) h k j = tt
unbegun (Goto a) h k j = k a refl
unbegun (Branches r a) h k j = tt
unbegun (Conds n) h k j = j n refl
unbegun (Skips a) h k j = tt
unbegun Stops h k j = tt

-- an order that is not STOP stands inside the array
pub role_inside : (first at : ℕ) (os : List ℕ) (q : Role) → q ≡ role_at first at os → (q ≡ Stops → ⊥) → at < length os
role_inside first at os q known some =
    by_less at (length os) (λ h. h) (λ h. absurd (some (known ∙ ap (λ l. role_of first (first_order l)) (none_outside at os h))))

leaf_role : (first t : ℕ) (o : Order) → loads_leaf t o ≡ true → role_of first o ≡ Inside
leaf_role first t (Word f w) e = refl
leaf_role first t (Number f n) e = refl
leaf_role first t (Store w) e = let z : ◌≡◌ {A = ℕ} 0 1 = cc in absurd (omega arith)
leaf_role first t Neg e = refl
leaf_role first t Not e = refl
leaf_role first t (Jump a) e = let z : ◌≡◌ {A = ℕ} 0 1 = cc in absurd (omega arith)
leaf_role first t (Skip a) e = let z : ◌≡◌ {A = ℕ} 0 1 = cc in absurd (omega arith)
leaf_role first t (Branch r a) e = let z : ◌≡◌ {A = ℕ} 0 1 = cc in absurd (omega arith)
leaf_role first t (Cond n) e = let z : ◌≡◌ {A = ℕ} 0 1 = cc in absurd (omega arith)
leaf_role first t Send e = let z : ◌≡◌ {A = ℕ} 0 1 = cc in absurd (omega arith)
leaf_role first t Stop e = let z : ◌≡◌ {A = ℕ} 0 1 = cc in absurd (omega arith)

-- an expression and a comparison begin inside an instruction
code_role : (first v d : ℕ) (e : Expression) → Expressed v e → (m : List Order) → role_of first (first_order (code v d e ++ m)) ≡ Inside
code_role first v d e x m = leaf_role first (v + 2) (first_order (code v d e ++ m)) (starts v d e x m)

comparison_role :
    (first v : ℕ) (x y : Expression)
    → Expressed v x
    → (m : List Order)
    → role_of first (first_order (comparison_code v x y ++ m)) ≡ Inside
comparison_role first v x y h m =
    ap (λ l. role_of first (first_order (l ++ m))) (joined_left Cmp v 0 (operand y) (code v 0 x) (code v 1 y))
    ∙ ap (λ l. role_of first (first_order l)) (append_assoc (code v 0 x) (joined Cmp v 0 (operand y) [] (code v 1 y)) m)
    ∙ code_role first v 0 x h _

-- an IF begins inside an instruction, or with COND
abbrev asked_by : Condition → Role
asked_by (compares r x y) = Inside
asked_by (joins w x y) = Conds (comparisons (joins w x y))

asking_role :
    (first v p : ℕ) (c : Condition) (d : ℕ)
    → ConditionFormed v c
    → (m : List Order)
    → role_of first (first_order (asking_code v p c d ++ m)) ≡ asked_by c
unfolding asking_code try_code AllExpressed pick
asking_role first v p (compares r x y) d h m =
    ap (λ l. role_of first (first_order l)) (append_assoc (comparison_code v x y) (Branch (opposite r) d ∷ []) m)
    ∙ comparison_role first v x y h.0.0 _
asking_role first v p (joins w x y) d h m = refl

-- ---- the head of an IF, before its comparison's fields

head_written : (ws fs : List ℕ) (n i c z : ℕ) → sets (sets fs (n + 1) (z ∷ ws)) n (i ∷ c ∷ []) ≡ sets fs n (i ∷ c ∷ ws)
head_written ws fs n i c z =
    ap (λ m. set m (suc n) c) (writes_before (z ∷ ws) fs n i)
    ∙ set_sets ws (set (set fs n i) (suc n) z) (suc n) (suc (suc n)) c (omega arith)
    ∙ ap (λ m. sets m (suc (suc n)) ws) (set-set (set fs n i) (suc n) z c)

-- ---- what was read, by the order behind it

module _ (os : List ℕ) (first : ℕ) (s : Spot) (fs : List ℕ) (e : Spot) (m : List ℕ)
    (reading : Reading os s.at first first fs (s.n + 1) e m) (room : s.n < length fs) where
  expression_read :
      (v : ℕ) (x : Expression) (o : Order) (l : List Order)
      → first ≡ v + 2
      → first + length os ≤ 4294967295
      → Expressed v x
      → link_of first first (o ∷ l) ≡ None
      → orders_at s.at os ≡ code v 0 x ++ (o ∷ l)
      → s.n + suc (length (expression_fields x)) ≤ length fs
      → Wrote os (expression_fields x) (o ∷ l) (s.n + 1) fs e m
  expression_read v x o l start few formed none stands fits =
      reading.whole v 0 (code v 0 x) (expression_fields x) (o ∷ l) start (omega arith) (expression_chain v 0 x formed) stands none
      (omega arith) (omega arith)

  comparison_read :
      (v : ℕ) (r : Relation) (x y : Expression) (d : ℕ) (l : List Order)
      → first ≡ v + 2
      → first + length os ≤ 4294967295
      → Expressed v x
      → Expressed v y
      → orders_at s.at os ≡ comparison_code v x y ++ (Branch (opposite r) d ∷ l)
      → s.n + length (If ∷ condition_fields (compares r x y)) ≤ length fs
      → Wrote os (Else ∷ (expression_fields x ++ expression_fields y)) (Branch (opposite r) d ∷ l) (s.n + 1) fs e m
  unfolding condition_fields
  comparison_read v r x y d l start few hx hy stands fits =
      reading.whole v 0 (comparison_code v x y) (Else ∷ (expression_fields x ++ expression_fields y)) (Branch (opposite r) d ∷ l) start (omega arith)
      (comparison_chain v x y hx hy) stands refl (omega arith) (omega arith)

  abbrev role : Role
  role = role_at first e.at os

  further : (q : Role) → q ≡ role → (q ≡ Stops → ⊥) → (g : ℕ) → Past os e.at g → (after : List ℕ) → length after ≡ length m
      → Further s fs (record { at = g; n = e.n }) after
  further q known some g past after kept = record {
    on = omega (arith, reading.on, past.over (role_inside first e.at os q known some));
    safe = record { kept = kept ∙ reading.safe.kept; inside = λ h. reading.safe.inside (omega arith) };
  }

  -- an order that ends an instruction
  pub chained_last :
      (f : Field)
      → Last f ≡ role
      → (u : ℕ) (after : List ℕ)
      → Put f s.n m u after
      → (g : ℕ)
      → Past os e.at g
      → Chained os first s fs (Some (Whole (record { at = g; n = e.n }))) after
  chained_last f known u after put g past = record {
    kept = put.safe.kept ∙ reading.safe.kept;
    whole = λ r is.
        let same : record { at = g; n = e.n } ≡ r = cc in
        subst (λ k. Further s fs k after) same
        (further (Last f) known (λ z. let no : ◌≡◌ {A = ℕ} 0 1 = cc in omega arith) g past after put.safe.kept);
    asked = λ r a is. let z : ◌≡◌ {A = ℕ} 0 1 = cc in absurd (omega arith);
    lasts = λ v x o h l start few formed is none stands fits.
        let w = expression_read v x o l start few formed none stands fits in
        let same : f ≡ h = cc (ap (λ k. role_of first (first_order k)) w.rest) in
        let a = put.writes (omega (arith, reading.safe.kept)) in
        record {
          spot = record { at = g; n = e.n };
          is = refl;
          wrote = record {
            rest = past.rest ∙ ap behind w.rest;
            writes = record {
              place = w.writes.place ∙ omega arith;
              fields =
                  a.fields
                  ∙ ap₂ (λ k h. set k s.n (field_word h)) w.writes.fields same
                  ∙ writes_before (map field_word (expression_fields x)) fs s.n (field_word h);
            };
          };
        };
    asks = λ v r x y d l start few hx hy stands fits.
        let w = comparison_read v r x y d l start few hx hy stands fits in
        let z : ◌≡◌ {A = ℕ} 0 1 = cc (ap (λ k. role_of first (first_order k)) w.rest) in
        absurd (omega arith);
  }

  -- a branch
  pub chained_asks :
      (t : Relation) (a : ℕ)
      → Branches t a ≡ role
      → (after : List ℕ)
      → IfPut t s.n m after
      → (g : ℕ)
      → Past os e.at g
      → Chained os first s fs (Some (Asked (record { at = g; n = e.n }) a)) after
  unfolding condition_fields
  chained_asks t a known after put g past = record {
    kept = put.kept ∙ reading.safe.kept;
    whole = λ r is. let z : ◌≡◌ {A = ℕ} 0 1 = cc in absurd (omega arith);
    asked = λ r d is.
        let same : record { at = g; n = e.n } ≡ r = cc in
        subst (λ k. Further s fs k after) same
        (further (Branches t a) known (λ z. let no : ◌≡◌ {A = ℕ} 0 1 = cc in omega arith) g past after put.kept);
    lasts = λ v x o h l start few formed is none stands fits.
        let w = expression_read v x o l start few formed none stands fits in
        let z : ◌≡◌ {A = ℕ} 0 1 = cc (ap (λ k. role_of first (first_order k)) w.rest) in
        absurd (omega arith);
    asks = λ v r x y d l start few hx hy stands fits.
        let w = comparison_read v r x y d l start few hx hy stands fits in
        let told = known ∙ ap (λ k. role_of first (first_order k)) w.rest in
        let there : a ≡ d = cc in
        let turned : t ≡ opposite r = cc in
        let related : opposite t ≡ r = ap opposite turned ∙ opposite_twice r in
        record {
          spot = record { at = g; n = e.n };
          is = ap (λ k. Some (Asked (record { at = g; n = e.n }) k)) there;
          wrote = record {
            rest = past.rest ∙ ap behind w.rest;
            writes = record {
              place = w.writes.place ∙ omega arith;
              fields =
                  put.fields (omega (arith, reading.safe.kept))
                  ∙ ap₂ (λ k h. sets k s.n (field_word If ∷ field_word (Compare h) ∷ [])) w.writes.fields related
                  ∙ head_written (map field_word (expression_fields x ++ expression_fields y)) fs s.n (field_word If) (field_word (Compare r)) (field_word Else);
            };
          };
        };
  }

  -- any other order
  pub chained_missing : (q : Role) → q ≡ role → Untold q → Chained os first s fs None m
  chained_missing q known untold = record {
    kept = reading.safe.kept;
    whole = λ r is. let z : ◌≡◌ {A = ℕ} 0 1 = cc in absurd (omega arith);
    asked = λ r d is. let z : ◌≡◌ {A = ℕ} 0 1 = cc in absurd (omega arith);
    lasts = λ v x o h l start few formed is none stands fits.
        let w = expression_read v x o l start few formed none stands fits in
        absurd (subst Untold (known ∙ ap (λ k. role_of first (first_order k)) w.rest ∙ is) untold);
    asks = λ v r x y d l start few hx hy stands fits.
        let w = comparison_read v r x y d l start few hx hy stands fits in
        absurd (subst Untold (known ∙ ap (λ k. role_of first (first_order k)) w.rest) untold);
  }

-- ---- an instruction by its first order

module _ (os table : List ℕ) (first : ℕ) (s : Spot) (fs : List ℕ) where
  abbrev here : Role
  here = role_at first s.at os

  abbrev Simply : Option Begun → List ℕ → Type 0
  Simply b after =
      (v m : ℕ) (to : ℕ → ℕ) (u : Simple) (l : List Order)
      → Known os table first v m to
      → SimpleFormed v m u
      → orders_at s.at os ≡ simple_code v to u ++ l
      → s.n + length (simple_fields u) ≤ length fs
      → Gives (λ r. Whole r) b os (simple_fields u) l s.n fs after

  abbrev Asking : Option Begun → List ℕ → Type 0
  Asking b after =
      (v m : ℕ) (to : ℕ → ℕ) (c : Condition) (d : ℕ) (l : List Order)
      → Known os table first v m to
      → ConditionFormed v c
      → orders_at s.at os ≡ asking_code v s.at c d ++ l
      → s.at + asking v c < d
      → s.n + length (If ∷ condition_fields c) ≤ length fs
      → Gives (λ r. Asked r d) b os (If ∷ condition_fields c) l s.n fs after

  -- the role of the first order of an instruction that is no jump
  set_role : (v : ℕ) (e : Expression) (o : Order) (l : List Order) → Expressed v e → orders_at s.at os ≡ (code v 0 e ++ o ∷ []) ++ l → here ≡ Inside
  set_role v e o l x stands =
      ap (λ k. role_of first (first_order k)) (stands ∙ append_assoc (code v 0 e) (o ∷ []) l) ∙ code_role first v 0 e x (o ∷ l)

  -- and that of an IF
  if_role : (v : ℕ) (c : Condition) (d : ℕ) (l : List Order) → ConditionFormed v c → orders_at s.at os ≡ asking_code v s.at c d ++ l → here ≡ asked_by c
  if_role v c d l formed stands = ap (λ k. role_of first (first_order k)) stands ∙ asking_role first v s.at c d formed l

  pub begin_chain : Inside ≡ here → (b : Option Begun) (after : List ℕ) → Chained os first s fs b after → Beginning os table first s fs b after
  unfolding pick asking_code try_code AllExpressed
  begin_chain inside b after chained = record {
    kept = chained.kept;
    whole = chained.whole;
    asked = chained.asked;
    simple = simply;
    asks = asking_so;
  }
    where
      asking_so : Asking b after
      asking_so v m to (compares r x y) d l known formed stands far fits =
          chained.asks v r x y d l known.start known.few formed.0.0 formed.0.1
          (stands ∙ append_assoc (comparison_code v x y) (Branch (opposite r) d ∷ []) l) fits
      asking_so v m to (joins w x y) d l known formed stands far fits =
          let z : ◌≡◌ {A = ℕ} 0 1 = cc (if_role v (joins w x y) d l formed stands) in absurd (omega arith)

      simply : Simply b after
      simply v m to (setting w e) l known formed stands fits =
          let below : w < first = omega (arith, known.start, formed.0.1) in
          chained.lasts v e (Store w) (Set w) l known.start known.few formed.1
          (rw (lt-ltb w first below) refl) (rw (ne_eqb w first (omega arith)) refl) (stands ∙ append_assoc (code v 0 e) (Store w ∷ []) l) fits
      simply v m to (send e) l known formed stands fits =
          chained.lasts v e Send SendField l known.start known.few formed refl refl (stands ∙ append_assoc (code v 0 e) (Send ∷ []) l) fits
      simply v m to (goto a) l known formed stands fits =
          let z : ◌≡◌ {A = ℕ} 0 1 = cc (ap (λ k. role_of first (first_order k)) stands) in absurd (omega arith)

  pub begin_goto :
      (a : ℕ)
      → Goto a ≡ here
      → (k : ℕ)
      → k ≡ get_or table a 0
      → (n : ℕ) (after : List ℕ)
      → Put (GotoField k) s.n fs n after
      → (g : ℕ)
      → Past os s.at g
      → Beginning os table first s fs (Some (Whole (record { at = g; n = n }))) after
  begin_goto a jumps k its n after put g past = record {
    kept = put.safe.kept;
    whole = λ r is.
        let same : record { at = g; n = n } ≡ r = cc in
        subst (λ k. Further s fs k after) same
        (record {
          on = past.over (role_inside first s.at os (Goto a) jumps (λ z. let no : ◌≡◌ {A = ℕ} 0 1 = cc in omega arith));
          safe = put.safe;
        });
    asked = λ r a is. let z : ◌≡◌ {A = ℕ} 0 1 = cc in absurd (omega arith);
    simple = simply;
    asks = no_asking;
  }
    where
      no_asking : Asking (Some (Whole (record { at = g; n = n }))) after
      no_asking v m to (compares r x y) d l known formed stands far fits =
          let z : ◌≡◌ {A = ℕ} 0 1 = cc (if_role v (compares r x y) d l formed stands) in absurd (omega arith)
      no_asking v m to (joins w x y) d l known formed stands far fits =
          let z : ◌≡◌ {A = ℕ} 0 1 = cc (if_role v (joins w x y) d l formed stands) in absurd (omega arith)

      simply : Simply (Some (Whole (record { at = g; n = n }))) after
      simply v m to (setting w e) l known formed stands fits =
          let z : ◌≡◌ {A = ℕ} 0 1 = cc (set_role v e (Store w) l formed.1 stands) in absurd (omega arith)
      simply v m to (send e) l known formed stands fits =
          let z : ◌≡◌ {A = ℕ} 0 1 = cc (set_role v e Send l formed stands) in absurd (omega arith)
      simply v m to (goto t) l known formed stands fits =
          let there : a ≡ to t = cc (ap (λ k. role_of first (first_order k)) stands) in
          let number : k ≡ t = its ∙ ap (λ i. get_or table i 0) there ∙ known.leads t formed in
          record {
            spot = record { at = g; n = n };
            is = refl;
            wrote = record {
              rest = past.rest ∙ ap behind stands;
              writes = subst (λ i. Writes (GotoField i ∷ []) s.n fs n after) number (put.writes (omega arith));
            };
          }

  pub begin_joined : (many : ℕ) → Conds many ≡ here → (b : Option Begun) (after : List ℕ) → Joined os first s many fs b after → Beginning os table first s fs b after
  begin_joined many conds b after joined = record {
    kept = joined.kept;
    whole = λ r is. absurd (joined.never r is);
    asked = joined.asked;
    simple = none;
    asks = asking_so;
  }
    where
      none : Simply b after
      none v m to (setting w e) l known formed stands fits =
          let z : ◌≡◌ {A = ℕ} 0 1 = cc (set_role v e (Store w) l formed.1 stands) in absurd (omega arith)
      none v m to (send e) l known formed stands fits =
          let z : ◌≡◌ {A = ℕ} 0 1 = cc (set_role v e Send l formed stands) in absurd (omega arith)
      none v m to (goto a) l known formed stands fits =
          let z : ◌≡◌ {A = ℕ} 0 1 = cc (ap (λ k. role_of first (first_order k)) stands) in absurd (omega arith)

      asking_so : Asking b after
      asking_so v m to (compares r x y) d l known formed stands far fits =
          let z : ◌≡◌ {A = ℕ} 0 1 = cc (if_role v (compares r x y) d l formed stands) in absurd (omega arith)
      asking_so v m to (joins w x y) d l known formed stands far fits =
          let its : many ≡ comparisons (joins w x y) = cc (if_role v (joins w x y) d l formed stands) in
          joined.asks v w x y d l known.start known.few formed its stands far fits

  pub begin_missing : (q : Role) → q ≡ here → Unbegun q → Beginning os table first s fs None fs
  begin_missing q known unbegun = record {
    kept = refl;
    whole = λ r is. let z : ◌≡◌ {A = ℕ} 0 1 = cc in absurd (omega arith);
    asked = λ r a is. let z : ◌≡◌ {A = ℕ} 0 1 = cc in absurd (omega arith);
    simple = none;
    asks = no_asking;
  }
    where
      no_asking : Asking None fs
      no_asking v m to (compares r x y) d l sheet formed stands far fits =
          absurd (subst Unbegun (known ∙ if_role v (compares r x y) d l formed stands) unbegun)
      no_asking v m to (joins w x y) d l sheet formed stands far fits =
          absurd (subst Unbegun (known ∙ if_role v (joins w x y) d l formed stands) unbegun)

      none : Simply None fs
      none v m to (setting w e) l sheet formed stands fits = absurd (subst Unbegun (known ∙ set_role v e (Store w) l formed.1 stands) unbegun)
      none v m to (send e) l sheet formed stands fits = absurd (subst Unbegun (known ∙ set_role v e Send l formed stands) unbegun)
      none v m to (goto t) l sheet formed stands fits = absurd (subst Unbegun (known ∙ ap (λ k. role_of first (first_order k)) stands) unbegun)
