-- Sheet text determines the sheet: no two sheets within the limits have one text.
use mathlib.Core.Path.{◌≡◌, sym, ap, ap₂, ◌∙◌}
use native.Mathlib.Omega.{arith}
use Rattle.sheet.specs.Sheet.{Sheet, sheet, count}
use Rattle.sheet.specs.Fields.{sheet_text}
use Rattle.sheet.specs.Within.{Within}
use Rattle.sheet_line.proofs.Runs.{line_fields}
use Rattle.sheet_text.proofs.Flat.{flat_sheet}
use Rattle.sheet_text.proofs.FieldsRead.{instructions_of, fields_read}
use Rattle.sheet_text.proofs.SmallNumbers.{sheet_small}
use Rattle.sheet_text.proofs.FieldsText.{closed, fields_told, header_told}

pub text_determines : (s q : Sheet) → Within s → Within q → sheet_text s ≡ sheet_text q → s ≡ q
text_determines (sheet v x) (sheet w y) within within_too e =
    let flat = flat_sheet (sheet v x) ∙ e ∙ sym (flat_sheet (sheet w y)) in
    let told =
    header_told v w (count x) (count y) _ _
    (omega (arith, within.few_variables))
    (omega (arith, within_too.few_variables))
    (closed (line_fields x))
    (closed (line_fields y))
    flat in
    let small = sheet_small (sheet v x) within in
    let small_too = sheet_small (sheet w y) within_too in
    let fields = fields_told (line_fields x) (line_fields y) small small_too told.1 in
    ap₂ sheet told.0 (sym (fields_read x) ∙ ap instructions_of fields ∙ fields_read y)
