-- What each case of the writer's answer stands for, and what a sheet in memory is: proofs/Flat.antt shows that the text of its
-- fields is the sheet's. Comments in quotes are document 01's words.
use Rattle.std.specs.Prelude.{ℕ, ◌≤◌, ◌<◌, ◌≡◌, List, Option, Some, None}
use Rattle.text.specs.Buffer.{Reply, reply, reply_or}
use Rattle.sheet.specs.Sheet.{Sheet, variables, instructions, count}
use Rattle.sheet.specs.Memory.{sheet_fields}
use Rattle.sheet_field.specs.Memory.{fields_at}

-- a sheet in memory: an array of its fields, its V, and the number of its instructions
pub record InMemory (s : Sheet) (ws : List ℕ) (v is : ℕ) : Type 0 where
  pub fields : fields_at 0 ws ≡ sheet_fields s
  pub its_variables : variables s ≡ v
  pub its_instructions : count (instructions s) ≡ is

-- 0 "accepted; text length given", 32 "sheet buffer too short"
abbrev pub written : Option ℕ → Reply
written (Some n) = reply 0 n
written None = reply 32 0

-- the answer for a text of n bytes, by the room that there is for it
abbrev pub Measured : ℕ → ℕ → Option ℕ → Type 0
Measured room n (Some k) = (k ≡ n) × (n ≤ room)
Measured room n None = room < n

-- the reply for a text and a buffer
abbrev pub reply_for : List ℕ → List ℕ → Reply
reply_for = reply_or 32
