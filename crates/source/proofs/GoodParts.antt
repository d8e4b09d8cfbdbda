-- What holds of the lists of instructions of a program, whatever statements are read.
use Prim.Native.Nat.{ℕ, suc, ◌+◌, ◌≤◌}
use mathlib.Core.List.{List, [], ◌∷◌, ◌++◌}
use native.Mathlib.Omega.{arith}
use lib.ListN.{length}
use Rattle.order.specs.Limits.{most_temporaries}
use Rattle.sheet.specs.Sheet.{Simple, Condition, Part, end, when, either, count}
use Rattle.sheet.specs.Orders.{simple_temporaries}
use Rattle.sheet.specs.Condition.{condition_temporaries, ConditionFormed}
use Rattle.sheet.specs.Translation.{temporaries_of}
use Rattle.sheet.specs.Within.{most_levels, depth}
use Rattle.source.specs.Program.{Jump, Group, first, second, append, alone}
use Rattle.source.proofs.Parts.{depth_append, temporaries_append}
use Rattle.source.proofs.KnownWords.{SimpleSound, PartSound, sound_append, sound_more}

-- a list round which n groups are open
pub record PartGood (v : ℕ) (js : List Jump) (n : ℕ) (x : Part) : Type 0 where
  pub sound : PartSound v js x
  pub few : temporaries_of x ≤ most_temporaries
  pub shallow : n + depth x ≤ most_levels

pub record ConditionGood (v : ℕ) (c : Condition) : Type 0 where
  pub formed : ConditionFormed v c
  pub few : condition_temporaries c ≤ most_temporaries

abbrev pub GroupsGood : ℕ → List Jump → List Group → Type 0
GroupsGood v js [] = Unit {0}
GroupsGood v js (first k x c ∷ gs) = PartGood v js (length gs) x × ConditionGood v c × GroupsGood v js gs
GroupsGood v js (second k x c y ∷ gs) =
    PartGood v js (length gs) x × ConditionGood v c × (1 ≤ count y) × PartGood v js (suc (length gs)) y × GroupsGood v js gs

module _ {v : ℕ} {js : List Jump} {n : ℕ} where
  pub good_end : n ≤ most_levels → PartGood v js n end
  unfolding temporaries_of depth
  good_end h = record { sound = tt; few = omega arith; shallow = omega arith }

  pub good_append : {x y : Part} → PartGood v js n x → PartGood v js n y → PartGood v js n (append x y)
  good_append {x} {y} g h =
      record {
        sound = sound_append v js x y g.sound h.sound;
        few = temporaries_append most_temporaries x y g.few h.few;
        shallow = depth_append n most_levels x y g.shallow h.shallow;
      }

  pub good_alone : {u : Simple} → SimpleSound v js u → simple_temporaries u ≤ most_temporaries → n ≤ most_levels → PartGood v js n (alone u)
  unfolding temporaries_of depth
  good_alone s few h = record { sound = (s, tt); few = omega arith; shallow = omega arith }

  module _ {c : Condition} {x : Part} (g : ConditionGood v c) (some : 1 ≤ count x) (h : PartGood v js (suc n) x) where
    pub good_when : PartGood v js n (when c x end)
    unfolding temporaries_of depth
    good_when =
        let few_asked = g.few in
        let few_inside = h.few in
        let shallow_inside = h.shallow in
        record { sound = (g.formed, some, h.sound, tt); few = omega arith; shallow = omega arith }

    pub good_either : {y : Part} → 1 ≤ count y → PartGood v js (suc n) y → PartGood v js n (either c x y end)
    unfolding temporaries_of depth
    good_either too k =
        let few_asked = g.few in
        let few_first = h.few in
        let few_second = k.few in
        let shallow_first = h.shallow in
        let shallow_second = k.shallow in
        record { sound = (g.formed, some, too, h.sound, k.sound, tt); few = omega arith; shallow = omega arith }

-- jumps that are read later do not matter
module _ (v : ℕ) (js ms : List Jump) where
  pub good_more : {n : ℕ} {x : Part} → PartGood v js n x → PartGood v (js ++ ms) n x
  good_more {x = x} g = record { sound = sound_more v js ms x g.sound; few = g.few; shallow = g.shallow }

  pub groups_more : (gs : List Group) → GroupsGood v js gs → GroupsGood v (js ++ ms) gs
  groups_more [] h = tt
  groups_more (first k x c ∷ gs) h = (good_more h.0, h.1, groups_more gs h.2)
  groups_more (second k x c y ∷ gs) h = (good_more h.0, h.1, h.2, good_more h.3, groups_more gs h.4)
