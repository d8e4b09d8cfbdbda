-- What a byte does, told by the number of cells held and the last of them, is what the definitions say of the cells.
use Prim.Native.Nat.{ℕ, suc, ◌-◌, ◌<◌}
use mathlib.Core.Path.{◌≡◌, refl}
use mathlib.Core.Bool.{Bool, true, false}
use mathlib.Core.List.{List, [], ◌∷◌, ◌++◌}
use native.Mathlib.Omega.{arith}
use borrow.Author.Tests.{ltb-true, eqb-false, ne_eqb}
use Rattle.std.proofs.Common.{Result, Ok, Err}
use lib.Dec.{ltb, eqb}
use lib.ListN.{length, get_or, take}
use Rattle.base.specs.Choice.{pick}
use Rattle.base.proofs.Cases.{by_test, either_part}
use Rattle.source.specs.declared.Mode.{Mode}
use Rattle.source.specs.declared.Mode.TheVariants.{Plain, Keyword, Quoted, Comment}
use Rattle.source.specs.declared.Refusal.{Refusal}
use Rattle.source.specs.declared.Refusal.TheVariants.{Cells}
use Rattle.source.specs.Limits.{most_cells}
use Rattle.source.specs.Refusals.{refusal_number}
use Rattle.source.specs.Cells.{capital, small, Turn, goes_on, ends, over, turn, kept, outside, exclamation, closes, ends_in_c, Statements, ended, cut}
use Rattle.source.specs.Cells.{◌then◌, at_last, newline, source_end}
use Rattle.cells_byte.specs.declared.Change.{Change}
use Rattle.cells_byte.specs.declared.Change.TheVariants.{Keep, Skip, Shorten, End}
use Rattle.cells_byte.specs.declared.Ended.{Ended}
use Rattle.cells_byte.specs.declared.Ended.TheVariants.{Whole, Nothing}
use Rattle.cells_byte.specs.Internal.{is_letter, kept_of, closes_of, newline_of, exclamation_of, outside_of, change_of, ended_by, ending_outside, ending_of}

-- ---- one byte

abbrev pub turned : List ℕ → Result Change Refusal → Turn
turned cells (Ok (Keep c m)) = goes_on m (cells ++ c ∷ [])
turned cells (Ok (Skip m)) = goes_on m cells
turned cells (Ok Shorten) = goes_on Plain (take (length cells - 1) cells)
turned cells (Ok End) = ends cells
turned cells (Err k) = over

module _ (cells : List ℕ) where
  -- a choice between two changes
  either_turned : (t : Bool) (a b : Result Change Refusal) (x y : Turn) → turned cells a ≡ x → turned cells b ≡ y → turned cells (pick t a b) ≡ pick t x y
  unfolding pick
  either_turned true a b x y p q = p
  either_turned false a b x y p q = q

  kept_turned : (c : ℕ) (m : Mode) → turned cells (kept_of c m (length cells)) ≡ kept c m cells
  kept_turned c m = either_turned (ltb (length cells) most_cells) (Ok (Keep c m)) (Err Cells) _ _ refl refl

  exclamation_turned : turned cells (exclamation_of (length cells)) ≡ exclamation cells
  exclamation_turned = either_turned (eqb (length cells) 0) (Ok (Skip Comment)) _ _ _ refl (kept_turned 33 Plain)

  semicolon : turned cells (Ok (closes_of 0)) ≡ ends cells
  unfolding pick
  semicolon = refl

  semicolon_turned : turned cells (newline_of (length cells) 0) ≡ closes cells
  semicolon_turned =
      either_turned (eqb (length cells) 0) (Ok (Skip Plain)) _ _ _ refl
      (either_turned (ltb (length cells) most_cells) (Ok (closes_of 0)) (Err Cells) _ _ semicolon refl)

-- no C is held where nothing is
newline_turned : (cells : List ℕ) → turned cells (newline_of (length cells) (get_or cells (length cells - 1) 0)) ≡ newline cells
unfolding pick
newline_turned [] = refl
newline_turned (x ∷ xs) =
    rw (ne_eqb (suc (length xs)) 0 (λ e. omega arith))
    (both (eqb (get_or (x ∷ xs) (suc (length xs) - 1) 0) 99) (ltb (suc (length xs)) most_cells))
  where
    both : (c room : Bool)
        → turned (x ∷ xs) (pick room (Ok (pick c Shorten End)) (Err Cells))
        ≡ pick c (pick room (goes_on Plain (take (suc (length xs) - 1) (x ∷ xs))) over) (pick room (ends (x ∷ xs)) over)
    both true true = unfold pick in refl
    both true false = unfold pick in refl
    both false true = unfold pick in refl
    both false false = unfold pick in refl

module _ (cells : List ℕ) where
  outside_turned : (c : ℕ) (m : Mode) (b : ℕ)
      → turned cells (outside_of c m b (length cells) (get_or cells (length cells - 1) 0)) ≡ outside c m b cells
  unfolding outside_of outside
  outside_turned c m b =
      either_turned cells (is_letter b) _ _ _ _ (kept_turned cells c m)
      (either_turned cells (eqb b 32) _ _ _ _ refl
      (either_turned cells (eqb b 10) _ _ _ _ (newline_turned cells)
      (either_turned cells (eqb b 37) _ _ _ _ refl
      (either_turned cells (eqb b 39) _ _ _ _ (kept_turned cells b Quoted)
      (either_turned cells (eqb b 59) _ _ _ _ (semicolon_turned cells)
      (either_turned cells (eqb b 33) _ _ _ _ (exclamation_turned cells) (kept_turned cells b Plain)))))))

  pub changed : (m : Mode) (b : ℕ) → turned cells (change_of m b (length cells) (get_or cells (length cells - 1) 0)) ≡ turn m b cells
  unfolding change_of turn
  changed Plain b = outside_turned (capital b) Plain b
  changed Keyword b = outside_turned (small b) Keyword b
  changed Quoted b = quoted (eqb b 39)
    where
      quoted : (t : Bool) → turned cells (pick t (kept_of b Plain (length cells)) (kept_of b Quoted (length cells)))
          ≡ pick (ltb (length cells) most_cells) (goes_on (pick t Plain Quoted) (cells ++ b ∷ [])) over
      quoted true = unfold pick in kept_turned cells b Plain
      quoted false = unfold pick in kept_turned cells b Quoted
  changed Comment b = refl

-- the numbers of cells at which a change comes about
abbrev pub Fits : ℕ → Result Change Refusal → Type 0
Fits held (Ok (Keep c m)) = held < most_cells
Fits held (Ok (Skip m)) = Unit {0}
Fits held (Ok Shorten) = 0 < held
Fits held (Ok End) = (0 < held) × (held < most_cells)
Fits held (Err k) = k ≡ Cells

module _ (held : ℕ) where
  kept_fits : (c : ℕ) (m : Mode) → Fits held (kept_of c m held)
  kept_fits c m = either_part (Fits held) (ltb held most_cells) (Ok (Keep c m)) (Err Cells) (λ e. ltb-true held most_cells e) (λ e. refl)

  newline_fits : (last : ℕ) → Fits held (newline_of held last)
  newline_fits last =
      either_part (Fits held) (eqb held 0) (Ok (Skip Plain)) _ (λ e. tt) (λ z.
      either_part (Fits held) (ltb held most_cells) _ (Err Cells) (λ l.
      either_part (λ ch. Fits held (Ok ch)) (eqb last 99) Shorten End
      (λ e. omega (arith, eqb-false held 0 z))
      (λ e. (omega (arith, eqb-false held 0 z), ltb-true held most_cells l)))
      (λ e. refl))

  exclamation_fits : Fits held (exclamation_of held)
  exclamation_fits =
      either_part (Fits held) (eqb held 0) (Ok (Skip Comment)) (kept_of 33 Plain held) (λ e. tt) (λ e. kept_fits 33 Plain)

  outside_fits : (c : ℕ) (m : Mode) (b last : ℕ) → Fits held (outside_of c m b held last)
  unfolding outside_of
  outside_fits c m b last =
      either_part (Fits held) (is_letter b) _ _ (λ e. kept_fits c m) (λ e.
      either_part (Fits held) (eqb b 32) _ _ (λ e. tt) (λ e.
      either_part (Fits held) (eqb b 10) _ _ (λ e. newline_fits last) (λ e.
      either_part (Fits held) (eqb b 37) _ _ (λ e. tt) (λ e.
      either_part (Fits held) (eqb b 39) _ _ (λ e. kept_fits b Quoted) (λ e.
      either_part (Fits held) (eqb b 59) _ _ (λ e. newline_fits 0) (λ e.
      either_part (Fits held) (eqb b 33) _ _ (λ e. exclamation_fits) (λ e. kept_fits b Plain)))))))

  pub change_fits : (m : Mode) (b last : ℕ) → Fits held (change_of m b held last)
  unfolding change_of
  change_fits Plain b last = outside_fits (capital b) Plain b last
  change_fits Keyword b last = outside_fits (small b) Keyword b last
  change_fits Quoted b last =
      either_part (Fits held) (eqb b 39) (kept_of b Plain held) (kept_of b Quoted held) (λ e. kept_fits b Plain) (λ e. kept_fits b Quoted)
  change_fits Comment b last = tt

-- ---- the end of the source

abbrev pub closed : List ℕ → Result Ended Refusal → Statements
closed cells (Ok Whole) = cells then ended
closed cells (Ok Nothing) = ended
closed cells (Err k) = cut (refusal_number k)

end_closed : (cells : List ℕ) → closed cells (ending_outside (length cells) (get_or cells (length cells - 1) 0))
    ≡ pick (ends_in_c cells) (cut 3) (at_last (newline cells))
unfolding pick
end_closed [] = refl
end_closed (x ∷ xs) =
    by_test (ltb (suc (length xs)) most_cells)
    (λ room. by_test (ends_in_c (x ∷ xs)) (λ c. rw (some, room, c)) (λ c. rw (some, room, c)))
    (λ room. by_test (ends_in_c (x ∷ xs)) (λ c. rw (some, room, c)) (λ c. rw (some, room, c)))
  where
    some : eqb (suc (length xs)) 0 ≡ false
    some = ne_eqb (suc (length xs)) 0 (λ e. omega arith)

module _ (cells : List ℕ) where
  pub source_ended : (m : Mode) → closed cells (ending_of m (length cells) (get_or cells (length cells - 1) 0)) ≡ source_end m cells
  unfolding ending_of source_end
  source_ended Plain = end_closed cells
  source_ended Keyword = end_closed cells
  source_ended Quoted = refl
  source_ended Comment = refl

abbrev pub EndFits : ℕ → Result Ended Refusal → Type 0
EndFits held (Ok Whole) = (0 < held) × (held < most_cells)
EndFits held (Ok Nothing) = Unit {0}
EndFits held (Err k) = Unit {0}

module _ (held last : ℕ) where
  ended_fits : (ch : Result Change Refusal) → Fits held ch → EndFits held (ended_by last ch)
  ended_fits (Ok (Keep c m)) f = tt
  ended_fits (Ok (Skip m)) f = tt
  ended_fits (Ok Shorten) f = tt
  ended_fits (Ok End) f = f
  ended_fits (Err k) f = tt

  pub end_fits : (m : Mode) → EndFits held (ending_of m held last)
  unfolding ending_of
  end_fits Plain = ended_fits (newline_of held last) (newline_fits held last)
  end_fits Keyword = ended_fits (newline_of held last) (newline_fits held last)
  end_fits Quoted = tt
  end_fits Comment = tt
