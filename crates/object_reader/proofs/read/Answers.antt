use mathlib.Core.Path.{refl, sym, ap, ◌∙◌}
use Rattle.object_reader.specs.Answers.{verdict_of}
use Rattle.order.proofs.RecordLines.{again_lines}
use Rattle.object_reader.proofs.Judging.{scan_judged, reading_found, reading_none}
use Rattle.object_reader.proofs.read.Goals as goal

pub returns-in_default : goal.returns-in_default
returns-in_default c =
    let r = reading_none _ (sym c.in_default.ensures.found) in
    record { replied = ap verdict_of (sym r.0); ordered = rw r.1 refl }

pub returns : goal.returns
returns c =
    let r = reading_found _ _ _ (sym c.in-Some.ensures.found) in
    let judged = scan_judged _ _ _ _ c.in-Some.ensures.bounded.2 (again_lines _ _).most c.read_lines-scan.ensures.scanned in
    record { replied = c.judged.ensures ∙ judged ∙ ap verdict_of (sym r.0); ordered = rw r.1 c.read_lines-scan.ensures.ordered }
