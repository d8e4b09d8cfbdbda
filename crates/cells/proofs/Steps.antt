-- What a step leaves in the array, by the change that its byte made.
use Prim.Native.Nat.{ℕ, zero, suc, ◌+◌, ◌-◌, ◌<◌, ◌≤◌}
use mathlib.Core.Path.{◌≡◌, refl, sym, ap, ◌∙◌}
use mathlib.Core.List.{List, [], ◌∷◌, ◌++◌}
use Rattle.std.proofs.Common.{Some, None, Result, Ok, Err}
use native.Mathlib.Omega.{arith}
use native.Mathlib.Numerals.{add-one}
use borrow.Author.Tests.{ne_eqb}
use lib.ListN.{length, get_or, take, set}
use lib.Seq.{length-take-le, get_or-take, take-take, take-suc-set}
use Rattle.base.specs.Choice.{pick}
use Rattle.source.specs.declared.Mode.{Mode}
use Rattle.source.specs.declared.Mode.TheVariants.{Plain}
use Rattle.source.specs.declared.Refusal.{Refusal}
use Rattle.source.specs.Limits.{most_cells}
use Rattle.source.specs.Cells.{goes_on, turn, source_end}
use Rattle.cells_byte.specs.declared.Change.{Change}
use Rattle.cells_byte.specs.declared.Change.TheVariants.{Keep, Skip, Shorten, End}
use Rattle.cells_byte.specs.declared.Ended.{Ended}
use Rattle.cells_byte.specs.Internal.{change_of, ending_of}
use Rattle.cells.specs.Internal.{last_held, Stepped}
use Rattle.cells_byte.proofs.Changes.{turned, changed, Fits, change_fits, closed, source_ended}

-- the last cell held is the array's
pub last_cell : (held : ℕ) (cells : List ℕ) → last_held held cells ≡ get_or (take held cells) (held - 1) 0
unfolding last_held pick
last_cell zero cells = refl
last_cell (suc held) cells = rw (ne_eqb (suc held) 0 (λ e. omega arith)) (sym (get_or-take (suc held) cells (suc held - 1) 0 (omega arith)))

-- what a call answered, with the last cell that another call read
pub told_change : (m : Mode) (b held l : ℕ) (cells : List ℕ) (r ch : Result Change Refusal) → l ≡ last_held held cells → r ≡ change_of m b held l → r ≡ ch
    → change_of m b held (last_held held cells) ≡ ch
told_change m b held l cells r ch e f g = ap (change_of m b held) (sym e) ∙ sym f ∙ g

pub told_ending : (m : Mode) (held l : ℕ) (cells : List ℕ) (r e : Result Ended Refusal) → l ≡ last_held held cells → r ≡ ending_of m held l → r ≡ e
    → ending_of m held (last_held held cells) ≡ e
told_ending m held l cells r e p f g = ap (ending_of m held) (sym p) ∙ sym f ∙ g

module _ (cells : List ℕ) (held : ℕ) (room : most_cells ≤ length cells) (few : held ≤ most_cells) where
  cells_held : length (take held cells) ≡ held
  cells_held = length-take-le held cells (omega arith)

  -- the ending of the source, by the array
  pub ends_as : (m : Mode) (e : Result Ended Refusal) → ending_of m held (last_held held cells) ≡ e → closed (take held cells) e ≡ source_end m (take held cells)
  ends_as m e told =
      ap (closed (take held cells)) (sym told ∙ ap (ending_of m held) (last_cell held cells))
      ∙ rw cells_held at (source_ended (take held cells) m)

  module _ (mode : Mode) (b : ℕ) where
    told_turn : (ch : Result Change Refusal) → change_of mode b held (last_held held cells) ≡ ch → turned (take held cells) ch ≡ turn mode b (take held cells)
    told_turn ch told =
        ap (turned (take held cells)) (sym told ∙ ap (change_of mode b held) (last_cell held cells))
        ∙ rw cells_held at (changed (take held cells) mode b)

    told_fits : (ch : Result Change Refusal) → change_of mode b held (last_held held cells) ≡ ch → Fits held ch
    told_fits ch told = rw told at (change_fits held mode b (last_held held cells))

    pub by_keep : (c : ℕ) (m : Mode) → change_of mode b held (last_held held cells) ≡ Ok (Keep c m)
        → Stepped (set cells held c) held (Ok (Some (m, held + 1))) (turn mode b (take held cells))
    by_keep c m told =
        let fits : held < most_cells = told_fits (Ok (Keep c m)) told in
        let one_more_law : take (held + 1) (set cells held c) ≡ take held cells ++ c ∷ [] =
        rw (add-one held) (take-suc-set cells held c (omega arith)) in
        record {
          same = ap (goes_on m) one_more_law ∙ told_turn (Ok (Keep c m)) told;
          bounded = (omega arith, omega arith);
        }

    pub by_skip : (m : Mode) → change_of mode b held (last_held held cells) ≡ Ok (Skip m)
        → Stepped cells held (Ok (Some (m, held))) (turn mode b (take held cells))
    by_skip m told = record { same = told_turn (Ok (Skip m)) told; bounded = (few, omega arith) }

    pub some_held : change_of mode b held (last_held held cells) ≡ Ok Shorten → 1 ≤ held
    some_held told = told_fits (Ok Shorten) told

    pub by_shorten : change_of mode b held (last_held held cells) ≡ Ok Shorten
        → Stepped cells held (Ok (Some (Plain, held - 1))) (turn mode b (take held cells))
    by_shorten told =
        let one_less : take (held - 1) cells ≡ take (length (take held cells) - 1) (take held cells) =
        rw cells_held (sym (take-take (held - 1) held cells (omega arith))) in
        record {
          same = ap (goes_on Plain) one_less ∙ told_turn (Ok Shorten) told;
          bounded = (omega arith, omega arith);
        }

    pub by_end : change_of mode b held (last_held held cells) ≡ Ok End → Stepped cells held (Ok None) (turn mode b (take held cells))
    by_end told = record { same = told_turn (Ok End) told; bounded = told_fits (Ok End) told }

    pub by_over : (k : Refusal) → change_of mode b held (last_held held cells) ≡ Err k → Stepped cells held (Err k) (turn mode b (take held cells))
    by_over k told = record { same = told_turn (Err k) told; bounded = told_fits (Err k) told }
