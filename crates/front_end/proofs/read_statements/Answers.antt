use mathlib.Core.Path.{refl, ap, ◌∙◌}
use native.Mathlib.Omega.{arith}
use Rattle.std.proofs.Common.{Ok}
use Rattle.std.proofs.lemmas.Result.{err_from_is_err_and}
use Rattle.front_end_forms.proofs.Placing.{counts_few}
use Rattle.front_end.proofs.Statements.{starting, none_left, next_cut, not_read, is_given, is_further, moved_to, few_statements, letters_fit}
use Rattle.front_end.proofs.read_statements.Goals as goal

pub loop-at-init : goal.loop-at-init
loop-at-init c = (refl, refl, refl, refl, refl, rw c.nothing_read-p.ensures (starting c.requires))

pub returns-in-Ok-None : goal.returns-in-Ok-None
returns-in-Ok-None c = let next = c.next_statement in none_left c.loop-at.invariant.5 next.result next.ensures.read (c.in-Ok-None.is ∙ ap Ok c.in-Ok-None.field-0-is)

pub returns-in-Err : goal.returns-in-Err
returns-in-Err c = let next = c.next_statement in next_cut c.loop-at.invariant.5 next.result next.ensures.read _ c.in-Err.is

pub statement-requires : goal.statement-requires
statement-requires c = counts_few c.loop-at.invariant.5.holds

pub loop-at-preserved : goal.loop-at-preserved
loop-at-preserved c = let g = c.loop-at.invariant.5 in
    let next = c.next_statement in
    let z = c.in-Ok-Some.is ∙ ap Ok c.in-Ok-Some.field-0-is in
    let w = moved_to next.result _ next.ensures.moved z in
    let one = c.statement.ensures.short w.few g.so_far g.holds (few_statements g c.requires.few_bytes) (letters_fit g w c.requires.few_bytes) in
    let kept = c.statement.auto in
    let same = c.loop-at.invariant in (
      kept.letters ∙ same.0,
      kept.index ∙ same.1,
      kept.labels ∙ same.2,
      kept.groups ∙ same.3,
      kept.fields ∙ same.4,
      is_further g next.result next.ensures.read _ z one _ (c.in_ok-q-in-Ok-Some.was ∙ ap Ok c.in-Further.is) w,
    )

pub returns-in_err-q-in-Ok-Some : goal.returns-in_err-q-in-Ok-Some
returns-in_err-q-in-Ok-Some c = let g = c.loop-at.invariant.5 in
    let next = c.next_statement in
    let z = c.in-Ok-Some.is ∙ ap Ok c.in-Ok-Some.field-0-is in
    let w = moved_to next.result _ next.ensures.moved z in
    let one = c.statement.ensures.short w.few g.so_far g.holds (few_statements g c.requires.few_bytes) (letters_fit g w c.requires.few_bytes) in
    let p = err_from_is_err_and c.from_residual.result c.from_residual.ensures.1 in
    rw (p.1, p.2) (not_read g next.result next.ensures.read _ z one _ c.in_err-q-in-Ok-Some.was)

pub overflow_cast-result : goal.overflow_cast-result
overflow_cast-result c = let h = (counts_few c.loop-at.invariant.5.holds).few_fields in record { fits = omega (arith, h) }

pub returns-in-Given : goal.returns-in-Given
returns-in-Given c = let g = c.loop-at.invariant.5 in
    let next = c.next_statement in
    let z = c.in-Ok-Some.is ∙ ap Ok c.in-Ok-Some.field-0-is in
    let w = moved_to next.result _ next.ensures.moved z in
    let one = c.statement.ensures.short w.few g.so_far g.holds (few_statements g c.requires.few_bytes) (letters_fit g w c.requires.few_bytes) in
    is_given g next.result next.ensures.read _ z one (c.in_ok-q-in-Ok-Some.was ∙ ap Ok c.in-Given.is)
