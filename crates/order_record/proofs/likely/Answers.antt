use mathlib.Core.Path.{refl}
use Rattle.order_record.proofs.Reading.{likely_past, likely_number, likely_other}
use Rattle.order_record.proofs.likely.Goals.{else-k-lt24-via-then-k-lt24+else-at-eq75, else-k-lt24-via-else-k-lt24}
use Rattle.order_record.proofs.likely.Goals as goal

pub returns-then-at-eq75 : goal.returns-then-at-eq75
returns-then-at-eq75 c =
    likely_number _ _ _ _ _ c.at-a.ensures c.at-b.ensures c.at-c.ensures refl
    _ _ c.if-k-lt24.true c.heading.ensures.row c.at.ensures c.if-at-eq75.true

pub returns-else-k-lt24 : goal.returns-else-k-lt24
returns-else-k-lt24 c =
    elim c.else-k-lt24.branch [
      | else-k-lt24-via-then-k-lt24+else-at-eq75 w ↦
          likely_other _ _ _ _ _ c.at-a.ensures c.at-b.ensures c.at-c.ensures refl
          _ _ w.if-k-lt24.true w.heading.ensures.row w.at.ensures w.if-at-eq75.false
      | else-k-lt24-via-else-k-lt24 w ↦
          likely_past _ _ _ _ _ c.at-a.ensures c.at-b.ensures c.at-c.ensures refl w.if-k-lt24.false
    ]
