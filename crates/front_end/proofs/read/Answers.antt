use mathlib.Core.Path.{refl, sym, ◌∙◌}
use Rattle.front_end.proofs.Fit.{not_fit, is_fit}
use Rattle.front_end.proofs.Statements.{too_long, not_a_byte, all_bytes, small_offset}
use Rattle.front_end.proofs.read.Goals as goal

pub returns-then-fields-ne-MOST_FIELDS : goal.returns-then-fields-ne-MOST_FIELDS
returns-then-fields-ne-MOST_FIELDS c = let a = c.args in record { told = sym (not_fit a.source.now a.fields.now c.if-fields-ne-MOST_FIELDS.true); kept = refl }

pub returns-then-source-gt-MOST_BYTES : goal.returns-then-source-gt-MOST_BYTES
returns-then-source-gt-MOST_BYTES c = let a = c.args in record { told = too_long a.source.now c.if-source-gt-MOST_BYTES.true ∙ sym (is_fit a.source.now a.fields.now c.if-fields-ne-MOST_FIELDS.false); kept = refl }

pub overflow_cast-result : goal.overflow_cast-result
overflow_cast-result c = record { fits = small_offset c.args.source.now c.not_allowed.result _ c.not_allowed.ensures c.in-Some.is c.if-source-gt-MOST_BYTES.false }

pub returns-in-Some : goal.returns-in-Some
returns-in-Some c = let a = c.args in record {
  told = not_a_byte a.source.now c.if-source-gt-MOST_BYTES.false c.not_allowed.result c.not_allowed.ensures _ c.in-Some.is
      ∙ sym (is_fit a.source.now a.fields.now c.if-fields-ne-MOST_FIELDS.false);
  kept = refl;
}

pub returns : goal.returns
returns c = let a = c.args in
    let rest = c.read_statements in record {
      told = rest.ensures
          ∙ all_bytes a.source.now c.if-source-gt-MOST_BYTES.false c.not_allowed.result c.not_allowed.ensures c.in_default.is
          ∙ sym (is_fit a.source.now a.fields.now c.if-fields-ne-MOST_FIELDS.false);
      kept = rest.auto.fields;
    }
