-- What is packed into a group's number comes out again, and what storing one does to the groups that an array holds.
use Prim.Native.Nat.{ℕ, ◌<◌, ◌≤◌}
use mathlib.Core.Path.{◌≡◌, ◌∙◌}
use mathlib.Core.List.{List, [], ◌∷◌}
use native.Mathlib.Omega.{arith}
use lib.ListN.{length, get_or, set}
use lib.Seq.{get_or-set_same, get_or-set_other}
use Rattle.source.specs.Program.{Group, first, second, count_outside, statement_of}
use Rattle.groups.specs.Memory.{instruction_numbers, group_word, began_in, part_in, statement_in, word_of, GroupsHeld}

-- ---- a group's number

module _ (k s n : ℕ) (part : s < 2) where
  began_again : n < instruction_numbers → began_in (group_word k s n) ≡ n
  began_again few = omega arith

  part_again : part_in (group_word k s n) ≡ s
  part_again = omega arith

  statement_again : statement_in (group_word k s n) ≡ k
  statement_again = omega arith

pub began_of : (g : Group) (n : ℕ) → n < instruction_numbers → began_in (word_of g n) ≡ n
began_of (first k x c) n few = began_again k 0 n (omega arith) few
began_of (second k x c y) n few = began_again k 1 n (omega arith) few

abbrev pub is_second : Group → ℕ
is_second (first k x c) = 0
is_second (second k x c y) = 1

pub part_of : (g : Group) (n : ℕ) → part_in (word_of g n) ≡ is_second g
part_of (first k x c) n = part_again k 0 n (omega arith)
part_of (second k x c y) n = part_again k 1 n (omega arith)

pub statement_of_law : (g : Group) (n : ℕ) → statement_in (word_of g n) ≡ statement_of g
statement_of_law (first k x c) n = statement_again k 0 n (omega arith)
statement_of_law (second k x c y) n = statement_again k 1 n (omega arith)

-- ---- groups stored

-- a number stored behind them is not seen
pub held_before : (gs : List Group) (ws : List ℕ) (at w : ℕ) → length gs ≤ at → GroupsHeld gs ws → GroupsHeld gs (set ws at w)
unfolding GroupsHeld
held_before [] ws at w h held = tt
held_before (g ∷ gs) ws at w h held =
    (get_or-set_other ws at (length gs) w 0 (omega arith) ∙ held.0, held_before gs ws at w (omega arith) held.1)

-- one group more
pub held_more : (g : Group) (gs : List Group) (ws after : List ℕ) → length gs < length ws → after ≡ set ws (length gs) (word_of g (count_outside (g ∷ gs)))
    → GroupsHeld gs ws → GroupsHeld (g ∷ gs) after
unfolding GroupsHeld
held_more g gs ws after room put held =
    rw put
    (get_or-set_same ws (length gs) (word_of g (count_outside (g ∷ gs))) 0 room, held_before gs ws (length gs) (word_of g (count_outside (g ∷ gs))) (omega arith) held)

-- the innermost
module _ (g : Group) (gs : List Group) (ws : List ℕ) (held : GroupsHeld (g ∷ gs) ws) where
  pub innermost : get_or ws (length gs) 0 ≡ word_of g (count_outside (g ∷ gs))
  unfolding GroupsHeld
  innermost = held.0

  pub held_rest : GroupsHeld gs ws
  unfolding GroupsHeld
  held_rest = held.1
