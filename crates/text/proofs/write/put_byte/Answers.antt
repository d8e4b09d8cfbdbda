use Rattle.base.proofs.Cases.{cases}
use Rattle.text.proofs.write.put_byte.Goals as goal

pub returns-then-at-buffer : goal.returns-then-at-buffer
returns-then-at-buffer c = search cases depth 16

pub returns : goal.returns
returns c = search cases depth 16
