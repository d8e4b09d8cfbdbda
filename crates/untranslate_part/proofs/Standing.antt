-- Where the orders of instructions stand: the first instruction of a list, its parts, and what is behind it.
use Prim.Native.Nat.{ℕ, ◌+◌, ◌-◌, ◌≤◌, ◌<◌}
use mathlib.Core.Path.{◌≡◌, refl, sym, ap, ◌∙◌}
use mathlib.Core.Bool.{Bool, true, false}
use mathlib.Core.List.{List, [], ◌∷◌, ◌++◌, append_assoc}
use native.Mathlib.Omega.{arith}
use lib.Dec.{ltb}
use lib.ListN.{length, get_or, length-append}
use Rattle.std.specs.Prelude.{Some}
use Rattle.base.specs.Choice.{pick}
use Rattle.order.specs.declared.Order.{Order}
use Rattle.order.specs.declared.Order.TheVariants.{Word, Number, Store, Neg, Not, Jump, Skip, Branch, Cond, Send, Stop}
use Rattle.sheet.specs.declared.Field.TheVariants.{Set}
use Rattle.sheet.specs.Sheet.{Simple, Condition, Part, plain, when, either}
use Rattle.sheet.specs.Orders.{simple_code, simple_size}
use Rattle.sheet.specs.Condition.{asking, asking_code, ConditionFormed}
use Rattle.sheet.specs.Formed.{SimpleFormed}
use Rattle.sheet.specs.Translation.{size, part_code}
use Rattle.sheet.specs.Within.{PartFormed, depth}
use Rattle.sheet.specs.Guess.{is_skip}
use Rattle.sheet.proofs.Sizes.{simple_length, asking_length, code_length, count_size}
use Rattle.sheet.proofs.Lasts.{no_skip_last}
use Rattle.untranslate_expression.specs.Internal.{orders_at, first_order}
use Rattle.untranslate_condition.proofs.Places.{orders_past, place_told, order_told}
use Rattle.untranslate_part.specs.declared.Role.TheVariants.{Inside, Last, Skip as Skips}
use Rattle.untranslate_part.specs.declared.Parts.TheVariants.{One}
use Rattle.untranslate_part.specs.Internal.{role_of, role_at, parts_by, Stands}

-- ---- which parts there are

-- where the order before a branch's target is no SKIP there is one part
store_alone : (t : Bool) (w to q : ℕ) → parts_by to q (pick t (Last (Set w)) Inside) ≡ Some (One to)
unfolding pick
store_alone true w to q = refl
store_alone false w to q = refl

alone : (first to q : ℕ) (o : Order) → is_skip o ≡ false → parts_by to q (role_of first o) ≡ Some (One to)
alone first to q (Word f w) e = refl
alone first to q (Number f n) e = refl
alone first to q (Store w) e = store_alone (ltb w first) w to q
alone first to q Neg e = refl
alone first to q Not e = refl
alone first to q (Jump a) e = refl
alone first to q (Skip a) e = let z : ◌≡◌ {A = ℕ} 0 1 = cc in absurd (omega arith)
alone first to q (Branch r a) e = refl
alone first to q (Cond n) e = refl
alone first to q Send e = refl
alone first to q Stop e = refl

-- ---- lists of instructions

module _ (os table : List ℕ) (first p q deep v m : ℕ) (to : ℕ → ℕ) (rest : List Order) where
  -- an instruction that is no IF
  pub record PlainStands (u : Simple) (l : Part) : Type 0 where
    pub left : List Order
    pub formed : SimpleFormed v m u
    pub codes : orders_at p os ≡ simple_code v to u ++ left
    pub behind : (r : ℕ) → orders_at r os ≡ left → Stands os table first r q deep v m to l rest

  pub plain_stands : (u : Simple) (l : Part) → Stands os table first p q deep v m to (plain u l) rest → PlainStands u l
  unfolding PartFormed depth part_code size
  plain_stands u l s =
      let us = simple_code v to u in
      let b = p + simple_size v u in
      let ls = part_code v to b l in
      let here = s.codes ∙ append_assoc us ls rest in
      let some : 1 ≤ length (ls ++ rest) = omega (arith, s.more, length-append ls rest) in
      record {
        left = ls ++ rest;
        formed = s.formed.0;
        codes = here;
        behind = λ r left.
            let there : b ≡ r = sym (place_told os p r us (ls ++ rest) here left some ∙ ap (λ n. p + n) (simple_length v to u)) in
            record {
              known = s.known;
              formed = s.formed.1;
              shallow = s.shallow;
              codes = left ∙ ap (λ n. part_code v to n l ++ rest) there;
              ends = omega (arith, s.ends, there);
              more = s.more;
            };
      }

  -- an IF with one part, which ends before order z
  pub record WhenStands (c : Condition) (x l : Part) : Type 0 where
    pub z : ℕ
    pub left : List Order
    pub others : List Order
    pub formed : ConditionFormed v c
    pub codes : orders_at p os ≡ asking_code v p c z ++ left
    pub ahead : p + asking v c < z
    pub part : (r : ℕ) → orders_at r os ≡ left → (r < z) × Stands os table first r z (deep - 1) v m to x others
    pub behind : (r : ℕ) → r ≡ z → Stands os table first r q deep v m to l rest
    pub levels : 1 ≤ deep
    pub alone : parts_by z q (role_at first (z - 1) os) ≡ Some (One z)
    pub high : z ≤ q

  pub when_stands : (c : Condition) (x l : Part) → Stands os table first p q deep v m to (when c x l) rest → WhenStands c x l
  unfolding PartFormed depth part_code size
  when_stands c x l s =
      let b = p + asking v c in
      let z = b + size v x in
      let cs = asking_code v p c z in
      let xs = part_code v to b x in
      let ls = part_code v to z l in
      let asked = asking_length v p c z in
      let many = code_length v to b x in
      let some = count_size v x in
      let filled = s.formed.1 in
      let here = s.codes ∙ append_assoc cs (xs ++ ls) rest ∙ ap (λ k. cs ++ k) (append_assoc xs ls rest) in
      let first_part = orders_past os p b cs (xs ++ (ls ++ rest)) here (ap (λ n. p + n) asked) in
      let outer = orders_past os b z xs (ls ++ rest) first_part (ap (λ n. b + n) many) in
      let more : 1 ≤ length (ls ++ rest) = omega (arith, s.more, length-append ls rest) in
      record {
        z = z;
        left = xs ++ (ls ++ rest);
        others = ls ++ rest;
        formed = s.formed.0;
        codes = here;
        ahead = omega arith;
        part = λ r left.
            let there : b ≡ r = sym (place_told os p r cs (xs ++ (ls ++ rest)) here left (omega (arith, more, length-append xs (ls ++ rest))) ∙ ap (λ n. p + n) asked) in (
              omega arith,
              record {
                known = s.known;
                formed = s.formed.2;
                shallow = omega (arith, s.shallow);
                codes = left ∙ ap (λ n. part_code v to n x ++ (ls ++ rest)) there;
                ends = omega (arith, there);
                more = more;
              },
            );
        behind = λ r there. record {
          known = s.known;
          formed = s.formed.3;
          shallow = omega (arith, s.shallow);
          codes = ap (λ n. orders_at n os) there ∙ outer ∙ ap (λ n. part_code v to n l ++ rest) (sym there);
          ends = omega (arith, s.ends, there);
          more = s.more;
        };
        levels = omega (arith, s.shallow);
        alone =
            alone first z q (first_order (orders_at (z - 1) os))
            (ap is_skip (order_told os b (size v x - 1) (z - 1) (omega arith) ∙ ap (λ k. get_or k (size v x - 1) Stop) first_part)
            ∙ no_skip_last v m to b x (ls ++ rest) s.formed.2 filled);
        high = omega (arith, s.ends);
      }

  -- an IF with two: the second begins with order d and ends before order z
  pub record EitherStands (c : Condition) (x y l : Part) : Type 0 where
    pub d : ℕ
    pub z : ℕ
    pub left : List Order
    pub others : List Order
    pub behind_second : List Order
    pub formed : ConditionFormed v c
    pub codes : orders_at p os ≡ asking_code v p c d ++ left
    pub ahead : p + asking v c < d
    pub part : (r : ℕ) → orders_at r os ≡ left → (r < d) × Stands os table first r (d - 1) (deep - 1) v m to x others
    pub second : Stands os table first d z (deep - 1) v m to y behind_second
    pub behind : (r : ℕ) → r ≡ z → Stands os table first r q deep v m to l rest
    pub levels : 1 ≤ deep
    pub skips : role_at first (d - 1) os ≡ Skips z
    pub low : d < z
    pub high : z ≤ q

  pub either_stands : (c : Condition) (x y l : Part) → Stands os table first p q deep v m to (either c x y l) rest → EitherStands c x y l
  unfolding PartFormed depth part_code size
  either_stands c x y l s =
      let b = p + asking v c in
      let k = b + size v x in
      let d = k + 1 in
      let z = d + size v y in
      let cs = asking_code v p c d in
      let xs = part_code v to b x in
      let ys = part_code v to d y in
      let ls = part_code v to z l in
      let asked = asking_length v p c d in
      let many = code_length v to b x in
      let many_more = code_length v to d y in
      let some = count_size v y in
      let filled = s.formed.2 in
      let tail = Skip z ∷ (ys ++ (ls ++ rest)) in
      let here =
      s.codes
      ∙ append_assoc cs (xs ++ Skip z ∷ (ys ++ ls)) rest
      ∙ ap (λ n. cs ++ n) (append_assoc xs (Skip z ∷ (ys ++ ls)) rest ∙ ap (λ n. xs ++ Skip z ∷ n) (append_assoc ys ls rest)) in
      let first_part = orders_past os p b cs (xs ++ tail) here (ap (λ n. p + n) asked) in
      let skip = orders_past os b k xs tail first_part (ap (λ n. b + n) many) in
      let second_part = orders_past os k d (Skip z ∷ []) (ys ++ (ls ++ rest)) skip refl in
      let outer = orders_past os d z ys (ls ++ rest) second_part (ap (λ n. d + n) many_more) in
      let before : d - 1 ≡ k = omega arith in
      let more : 1 ≤ length (ls ++ rest) = omega (arith, s.more, length-append ls rest) in
      record {
        d = d;
        z = z;
        left = xs ++ tail;
        others = tail;
        behind_second = ls ++ rest;
        formed = s.formed.0;
        codes = here;
        ahead = omega arith;
        part = λ r left.
            let there : b ≡ r = sym (place_told os p r cs (xs ++ tail) here left (omega (arith, length-append xs tail)) ∙ ap (λ n. p + n) asked) in (
              omega arith,
              record {
                known = s.known;
                formed = s.formed.3;
                shallow = omega (arith, s.shallow);
                codes = left ∙ ap (λ n. part_code v to n x ++ tail) there;
                ends = omega (arith, there);
                more = omega arith;
              },
            );
        second = record {
          known = s.known;
          formed = s.formed.4;
          shallow = omega (arith, s.shallow);
          codes = second_part;
          ends = refl;
          more = more;
        };
        behind = λ r there. record {
          known = s.known;
          formed = s.formed.5;
          shallow = omega (arith, s.shallow);
          codes = ap (λ n. orders_at n os) there ∙ outer ∙ ap (λ n. part_code v to n l ++ rest) (sym there);
          ends = omega (arith, s.ends, there);
          more = s.more;
        };
        levels = omega (arith, s.shallow);
        skips = ap (role_of first) (ap (λ n. first_order (orders_at n os)) before ∙ ap first_order skip);
        low = omega arith;
        high = omega (arith, s.ends);
      }
