-- From the fields of a sheet in memory to those of its lines: a run's word stands before its first member, with the number of its
-- members, and the words of its rest are left out. It is told of any fields, whether or not they are a sheet's; proofs/Runs.antt shows
-- that of a sheet's fields those of its lines are made.
use Rattle.std.specs.Prelude.{ℕ, ◌+◌, ◌-◌, Bool, false, List, [], ◌∷◌, ◌++◌, Option, Some, None, ltb, eqb}
use Rattle.std.specs.declared.ops.ControlFlow.{ControlFlow}
use Rattle.std.specs.declared.ops.ControlFlow.TheVariants.{Continue, Break}
use Rattle.base.specs.Choice.{pick}
use Rattle.sheet.specs.declared.Joining.{Joining}
use Rattle.sheet.specs.declared.Field.{Field}
use Rattle.sheet.specs.declared.Field.TheVariants.{Else, Start, Finish, If, Send, Neg, Not, Binary, Compare, Word, Constant, Set, Goto, Run}
use Rattle.sheet.specs.Condition.{same_word}
use Rattle.sheet_line.specs.declared.Node.{Node}
use Rattle.sheet_line.specs.declared.Node.TheVariants.{Comparison, Run as Joined, If as Asks, Other}
use Rattle.sheet_line.specs.declared.Count.{Count}

abbrev pub node_of : Field → Node
node_of Else = Other
node_of Start = Other
node_of Finish = Other
node_of If = Asks
node_of Send = Other
node_of Neg = Other
node_of Not = Other
node_of (Binary o) = Other
node_of (Compare r) = Comparison
node_of (Word w) = Other
node_of (Constant n) = Other
node_of (Set w) = Other
node_of (Goto s) = Other
node_of (Run w n) = Joined w

-- ---- whether a run is the rest of a run of its word

-- a field before a run of the word w, where k whole conditions stand between the two. Where it is the word of a run itself, that run
-- takes the first two of them; or the one that there is, and then the run of w is its rest
abbrev pub back_step : Node → ℕ → Joining → ControlFlow Bool ℕ
back_step Comparison k w = Continue (k + 1)
back_step (Joined u) k w = pick (eqb k 0) (Break false) (pick (eqb k 1) (Break (same_word u w)) (Continue (k - 1)))
back_step Asks k w = Break false
back_step Other k w = Continue k

abbrev pub on_back : ControlFlow Bool ℕ → (ℕ → Bool) → Bool
on_back (Continue k) go = go k
on_back (Break answer) go = answer

-- by the fields before it, the last of them first
unfoldable pub is_rest : Joining → ℕ → List Field → Bool
is_rest w k [] = false
is_rest w k (f ∷ l) = on_back (back_step (node_of f) k w) (λ j. is_rest w j l)

-- ---- the members of a run

-- one member more, as far as a field can carry the number
unfoldable pub one_more : ℕ → ℕ
one_more n = pick (ltb n 4294967295) (n + 1) n

-- so many conditions must come beside the next, and so many members are known of
abbrev counted : ℕ → ℕ → Option Count
counted more members = Some (record { more = more; members = members })

-- a field of a run of the word w, where `more` conditions must come beside the next. Where none must, the next is the rest, which stands
-- for one member more where it is a run of w itself
abbrev pub member_step : Node → ℕ → ℕ → Joining → Option Count
member_step Comparison more members w = pick (eqb more 0) None (counted (more - 1) members)
member_step (Joined u) more members w =
    pick (eqb more 0) (pick (same_word w u) (counted 1 (one_more members)) None) (counted (more + 1) members)
member_step Asks more members w = counted more members
member_step Other more members w = counted more members

abbrev pub on_count : ℕ → Option Count → (ℕ → ℕ → ℕ) → ℕ
on_count members (Some c) go = go c.more c.members
on_count members None go = members

unfoldable pub members_from : Joining → ℕ → ℕ → List Field → ℕ
members_from w more members [] = members
members_from w more members (f ∷ l) = on_count members (member_step (node_of f) more members w) (λ m n. members_from w m n l)

-- ---- the fields of the lines

-- of the field f, with what is before it, the last first, and what is behind it
abbrev pub line_by : List Field → Field → List Field → Node → List Field
line_by b f l Comparison = f ∷ []
line_by b f l (Joined w) = pick (is_rest w 0 b) [] (Run w (members_from w 1 2 l) ∷ [])
line_by b f l Asks = f ∷ []
line_by b f l Other = f ∷ []

abbrev pub line_field : List Field → Field → List Field → List Field
line_field b f l = line_by b f l (node_of f)

-- of all fields, where b is before them, the last first
unfoldable pub lined : List Field → List Field → List Field
lined b [] = []
lined b (f ∷ l) = line_field b f l ++ lined (f ∷ b) l
