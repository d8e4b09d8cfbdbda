-- What each case of the writer's answer stands for.
use Rattle.std.specs.Prelude.{ℕ, ◌≤◌, List, Option, Some, None, length}
use Rattle.text.specs.Buffer.{Reply, reply, reply_or}
use Rattle.order.specs.Limits.{most_orders}

-- 0 "accepted; text length given", 12 "object buffer too short, all else well"
abbrev pub written : Option ℕ → Reply
written (Some n) = reply 0 n
written None = reply 12 0

-- the reply for a text and a buffer
abbrev pub reply_for : List ℕ → List ℕ → Reply
reply_for = reply_or 12

-- what holds where no more orders are lent than an object has
abbrev pub WhereFew : List ℕ → Type 0 → Type 0
WhereFew orders P = length orders ≤ most_orders → P
