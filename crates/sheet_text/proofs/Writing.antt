-- Writing a sheet's text: what each function puts into the buffer, and the lengths of the parts.
use Prim.Native.Nat.{ℕ, suc, ◌+◌, ◌<◌, ◌≤◌}
use mathlib.Core.Path.{◌≡◌, refl, sym, ap, ap₂, ◌∙◌}
use mathlib.Core.List.{List, [], ◌∷◌, ◌++◌, map}
use native.Mathlib.Omega.{arith}
use native.Mathlib.Numerals.{add-one}
use lib.ListN.{length, get_or, length-append, drop_of_length-le}
use Rattle.base.specs.Text.{bytes}
use Rattle.base.proofs.Lists.{drop_more}
use Rattle.text.specs.Pieces.{decimal}
use Rattle.text.specs.Internal.{Placed, put_byte, put_all}
use Rattle.text.proofs.Writing.{put_all_append}
use Rattle.sheet.specs.declared.Field.{Field}
use Rattle.sheet.specs.Fields.{field_text}
use Rattle.sheet_field.specs.Memory.{field_in, fields_at}
use Rattle.std.specs.Prelude.{Option, Some, None}
use Rattle.sheet_line.specs.Runs.{line_field, lined}
use Rattle.sheet_text.specs.TextOfFields.{separator, fields_text, header_text, text_of_fields}
use Rattle.sheet_line.specs.Answers.{before, shown}
use Rattle.sheet_text.specs.Internal.{shown_text}

-- the header
pub put_header_parts : (v is : ℕ) (p : Placed)
    → put_all (decimal is) (put_byte 9 (put_all (bytes "SHEET\t" ++ decimal v) p)) ≡ put_all (header_text v is) p
unfolding put_all
put_header_parts v is p = sym (simp put_all_append)

header_length : (v is : ℕ) → length (header_text v is) ≡ length (decimal v) + length (decimal is) + 7
unfolding bytes
header_length v is =
    let fields : length (header_text v is) ≡ 6 + length (decimal v) + suc (length (decimal is)) = simp length-append in
    omega (arith, fields)

-- what is shown of a field, behind its separator: p, q and r are the places before both, between them and behind them
pub put_shown_parts : (x : Option ℕ) (w : ℕ) (f : Field) (b : ℕ) (p q r : Placed)
    → x ≡ Some w → f ≡ field_in w → b ≡ separator f → q ≡ put_byte b p → r ≡ put_all (field_text (field_in w)) q
    → r ≡ put_all (shown_text x) p
unfolding put_all
put_shown_parts x w f b p q r is_shown is_field is_separator put_one put_other =
    rw (is_shown, put_other, put_one, is_separator, is_field) refl

-- ---- the loops over the fields

pub some_text : (fs : List Field) → 1 ≤ length (fields_text fs)
unfolding fields_text
some_text [] = omega arith
some_text (f ∷ fs) = omega arith

-- the fields of the lines that are left at a place
abbrev pub lines_at : ℕ → List ℕ → List Field
lines_at i ws = lined (before i ws) (fields_at i ws)

module _ (ws : List ℕ) (i : ℕ) where
  left_more : i < length ws → fields_at i ws ≡ field_in (get_or ws i 0) ∷ fields_at (i + 1) ws
  left_more h = ap (map field_in) (drop_more ws i 0 h)

  left_none : length ws ≤ i → lines_at i ws ≡ []
  unfolding lined
  left_none h = ap (λ l. lined (before i ws) (map field_in l)) (drop_of_length-le ws h)

  -- what is shown of the field at a place, and what is left behind it
  lines_more : (x : Option ℕ) → i < length ws → shown x ≡ line_field (before i ws) (field_in (get_or ws i 0)) (fields_at (i + 1) ws)
      → lines_at i ws ≡ shown x ++ lines_at (i + 1) ws
  unfolding lined before
  lines_more x h e =
      ap (lined (before i ws)) (left_more h)
      ∙ ap₂ (λ a n. a ++ lined (before n ws) (fields_at (i + 1) ws)) (sym e) (sym (add-one i))

  text_more : (x : Option ℕ) → i < length ws → shown x ≡ line_field (before i ws) (field_in (get_or ws i 0)) (fields_at (i + 1) ws)
      → fields_text (lines_at i ws) ≡ shown_text x ++ fields_text (lines_at (i + 1) ws)
  unfolding fields_text
  text_more (Some w) h e = ap fields_text (lines_more (Some w) h e)
  text_more None h e = ap fields_text (lines_more None h e)

  -- p and q are the places before and behind what is shown
  pub put_turn : (x : Option ℕ) (p q : Placed) → i < length ws → shown x ≡ line_field (before i ws) (field_in (get_or ws i 0)) (fields_at (i + 1) ws)
      → q ≡ put_all (shown_text x) p
      → put_all (fields_text (lines_at (i + 1) ws)) q ≡ put_all (fields_text (lines_at i ws)) p
  put_turn x p q h e put =
      rw (put, text_more x h e) (sym (put_all_append (shown_text x) (fields_text (lines_at (i + 1) ws)) p))

  pub put_over : (p : Placed) → length ws ≤ i → put_byte 10 p ≡ put_all (fields_text (lines_at i ws)) p
  unfolding fields_text put_all
  put_over p h = rw (left_none h) refl

  pub count_turn : (x : Option ℕ) → i < length ws → shown x ≡ line_field (before i ws) (field_in (get_or ws i 0)) (fields_at (i + 1) ws)
      → length (fields_text (lines_at i ws)) ≡ length (shown_text x) + length (fields_text (lines_at (i + 1) ws))
  count_turn x h e = rw (text_more x h e) (length-append (shown_text x) (fields_text (lines_at (i + 1) ws)))

  pub count_over : length ws ≤ i → length (fields_text (lines_at i ws)) ≡ 1
  unfolding fields_text
  count_over h = rw (left_none h) refl

-- the last newline is counted first
pub count_start : (v is : ℕ) (fs : List Field)
    → length (decimal v) + length (decimal is) + 8 + length (fields_text (lined [] fs)) ≡ 1 + length (text_of_fields v is fs)
count_start v is fs = omega (arith, header_length v is, length-append (header_text v is) (fields_text (lined [] fs)))
