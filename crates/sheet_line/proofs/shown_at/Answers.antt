use mathlib.Core.Path.{sym, ◌∙◌}
use native.Mathlib.Omega.{arith}
use Rattle.sheet_line.proofs.Scans.{shown_rest, shown_run}
use Rattle.sheet_line.proofs.shown_at.Goals as goal

pub returns-then-is_rest : goal.returns-then-is_rest
returns-then-is_rest c =
    shown_rest c.args.fields.now c.args.at c.node_in.result c.node_in.ensures _ c.in-Run.is
    (sym c.if-is_rest.true ∙ c.is_rest.ensures)

pub returns : goal.returns
returns c =
    shown_run c.args.fields.now c.args.at c.node_in.result c.node_in.ensures _ c.in-Run.is _ _
    (sym c.if-is_rest.false ∙ c.is_rest.ensures)
    c.member_count.ensures (omega (arith, c.member_count.type_inv)) c.field_word.ensures
