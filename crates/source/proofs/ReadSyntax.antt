-- What is read is what specs/Syntax says: the reader of Grammar takes no tokens but those of an expression or an instruction,
-- and the form that it finds is the statement's.
use Prim.Native.Nat.{ℕ, zero, suc}
use mathlib.Core.Path.{◌≡◌, refl, sym, ap, subst}
use mathlib.Core.Bool.{true, false≢true}
use mathlib.Core.List.{List, [], ◌∷◌, ◌++◌, append_assoc, append-nil}
use lib.Dec.{eqb}
use lib.ListN.{length}
use borrow.Author.Tests.{eqb-true}
use Rattle.base.specs.Choice.{pick}
use Rattle.base.proofs.Cases.{either_part, both_yes}
use Rattle.word.specs.declared.Relation.{Relation}
use Rattle.word.specs.declared.Relation.TheVariants.{Equal, Unequal, Less, AtMost, Greater, AtLeast}
use Rattle.sheet.specs.declared.Operator.TheVariants.{Plus, Minus, Times, Over, Power, Left, Right, And, Or, Unlike}
use Rattle.sheet.specs.declared.Joining.{Joining}
use Rattle.sheet.specs.declared.Joining.TheVariants.{And as AndRun, Or as OrRun}
use Rattle.sheet.specs.Sheet.{Expression, Simple, set, send, Condition, compares}
use Rattle.sheet.specs.Merge.{join_of}
use Rattle.source.specs.declared.Token.{Token}
use Rattle.source.specs.declared.Token.TheVariants.{Name, Number, Quoted, Binary, Compare, Mark}
use Rattle.source.specs.Tokens.{mark_begin, mark_end, mark_integer, mark_if, mark_then, mark_else, mark_arrow, mark_open}
use Rattle.source.specs.Tokens.{mark_start, mark_finish, mark_and, mark_close, mark_comma, mark_colon, mark_invert}
use Rattle.source.specs.Grammar.{Read, read, none, next, past, is_mark, opens, behind_first, operand_by, links_by, chain_by, expression_in, expression}
use Rattle.source.specs.Grammar.{link, Lead, bare, minus, invert, tree, start, start_of, send_word, is_equal, named, jump, simple_at, relation_at, comparison_at}
use Rattle.source.specs.Grammar.{holds_relation, opens_condition, member_by, mark_of, run_by, joined_by, condition_in, condition_at}
use Rattle.source.specs.Grammar.{Instruction, simple, if_then, if_else, if_start, chosen, consequent, conditional, instruction_at}
use Rattle.source.specs.Grammar.{Form, beginning, declaration, ending, finish, finish_else, no_form, Labelled, labelled, further, labels_at, entire, labelled_form}
use Rattle.source.specs.Grammar.{is_name, is_name_list, only, finishing, form}
use Rattle.source.specs.Syntax.{later, Operand, named as name, decimal, quoted, bracketed, Expressed, expression as level_one, plus}
use Rattle.source.specs.Syntax.{Simply, assignment, sending, jump as jumping, Member, comparison, enclosed, Joined, two, more, Asked, single, run, Instructed, simply, conditional as on_condition, alternative, opening}
use Rattle.source.specs.Syntax.{LabelList, none as no_label, label, NameList, last, comma, Stated, begin, integers, instructed, alone as labels_alone, finishes, goes_on, end}
use Rattle.source.proofs.SyntaxChains.{Links, none as no_links, linked, lead_tokens, bare_level, sign_level}

-- ---- marks

is_mark_law : (m : ℕ) (t : Token) → is_mark m t ≡ true → Mark m ≡ t
is_mark_law m (Name w) y = absurd (false≢true y)
is_mark_law m (Number n) y = absurd (false≢true y)
is_mark_law m (Quoted n) y = absurd (false≢true y)
is_mark_law m (Binary o) y = absurd (false≢true y)
is_mark_law m (Compare r) y = absurd (false≢true y)
is_mark_law m (Mark k) y = ap (λ n. Mark n) (sym (eqb-true k m y))

opens_with : (m : ℕ) (ts : List Token) → opens m ts ≡ true → Mark m ∷ behind_first ts ≡ ts
unfolding opens behind_first
opens_with m [] y = absurd (false≢true y)
opens_with m (t ∷ ts) y = ap (λ u. u ∷ ts) (is_mark_law m t y)

-- what holds behind a mark and without it holds by whether it stands at the front
by_mark : {A : Type 0} (P : List Token → A → Type 0) (m : ℕ) (ts : List Token) (f : List Token → A) (others : A)
    → ((us : List Token) → P (Mark m ∷ us) (f us)) → P ts others → P ts (pick (opens m ts) (f (behind_first ts)) others)
by_mark P m ts f others h o =
    either_part (P ts) (opens m ts) (f (behind_first ts)) others
    (λ y. subst (λ us. P us (f (behind_first ts))) (opens_with m ts y) (h (behind_first ts)))
    (λ n. o)

-- ---- what is taken from the front of tokens

-- what was read stands for the tokens that were taken; where nothing was read, nothing is said
pub data Taken {A : Type 0} (R : List Token → A → Type 0) : List Token → Read A → Type 0 where
  taken : {ts : List Token} {a : A} → R ts a → (rest : List Token) → Taken R (ts ++ rest) (read a rest)
  nothing : {ts : List Token} → Taken R ts none

module _ {A : Type 0} (R : List Token → A → Type 0) where
  -- behind tokens that belong to it
  behind : (ts : List Token) {us : List Token} {x : Read A} → Taken (λ vs a. R (ts ++ vs) a) us x → Taken R (ts ++ us) x
  behind ts (taken {ts = vs} r rest) = rw (← append_assoc ts vs rest) (taken r rest)
  behind ts nothing = nothing

  past_taken : (m : ℕ) (ts : List Token) (f : List Token → Read A) → ((us : List Token) → Taken (λ vs a. R (Mark m ∷ vs) a) us (f us)) → Taken R ts (past m ts f)
  past_taken m ts f h = by_mark (Taken R) m ts f none (λ us. behind (Mark m ∷ []) (h us)) nothing

next_taken : {A B : Type 0} (R : List Token → A → Type 0) (S : List Token → B → Type 0) {ts : List Token} {x : Read A} (f : A → List Token → Read B)
    → Taken R ts x → ((us : List Token) (a : A) → R us a → (rest : List Token) → Taken (λ vs b. S (us ++ vs) b) rest (f a rest))
    → Taken S ts (next x f)
unfolding next
next_taken R S f (taken {ts = us} {a = a} r rest) h = behind S us (h us a r rest)
next_taken R S f nothing h = nothing

-- the last part
map_taken : {A B : Type 0} (R : List Token → A → Type 0) (S : List Token → B → Type 0) {ts : List Token} {x : Read A} (g : A → B)
    → Taken R ts x → ((us : List Token) (a : A) → R us a → S us (g a)) → Taken S ts (next x (λ a rest. read (g a) rest))
unfolding next
map_taken R S g (taken {ts = us} {a = a} r rest) h = taken (h us a r) rest
map_taken R S g nothing h = nothing

-- ---- expressions

module _ (inner : List Token → Read Expression) (inner_taken : (ts : List Token) → Taken Expressed ts (inner ts)) where
  pub operand_taken : (ts : List Token) → Taken Operand ts (operand_by inner ts)
  unfolding operand_by
  operand_taken [] = nothing
  operand_taken (Name w ∷ ts) = taken (name w) ts
  operand_taken (Number n ∷ ts) = taken (decimal n) ts
  operand_taken (Quoted n ∷ ts) = taken (quoted n) ts
  operand_taken (Binary o ∷ ts) = nothing
  operand_taken (Compare r ∷ ts) = nothing
  operand_taken (Mark m ∷ ts) =
      either_part (Taken Operand (Mark m ∷ ts)) (eqb m mark_open) _ none
      (λ y. rw (eqb-true m mark_open y)
      (behind Operand (Mark mark_open ∷ [])
      (next_taken Expressed (λ vs e. Operand (Mark mark_open ∷ vs) e) (λ e rest. past mark_close rest (λ l. read e l)) (inner_taken ts)
      (λ us e d rest. past_taken (λ vs a. Operand (Mark mark_open ∷ us ++ vs) a) mark_close rest (λ l. read e l) (λ vs. taken (bracketed d) vs)))))
      (λ n. nothing)

  links_taken : (k : ℕ) (ts : List Token) → Taken Links ts (links_by inner k ts)
  unfolding links_by
  links_taken zero ts = nothing
  links_taken (suc k) [] = taken no_links []
  links_taken (suc k) (Name w ∷ ts) = taken no_links (Name w ∷ ts)
  links_taken (suc k) (Number n ∷ ts) = taken no_links (Number n ∷ ts)
  links_taken (suc k) (Quoted n ∷ ts) = taken no_links (Quoted n ∷ ts)
  links_taken (suc k) (Compare r ∷ ts) = taken no_links (Compare r ∷ ts)
  links_taken (suc k) (Mark m ∷ ts) = taken no_links (Mark m ∷ ts)
  links_taken (suc k) (Binary o ∷ ts) =
      behind Links (Binary o ∷ [])
      (next_taken Operand (λ vs ls. Links (Binary o ∷ vs) ls) _ (operand_taken ts)
      (λ us e x rest. map_taken Links (λ vs ls. Links (Binary o ∷ (us ++ vs)) ls) (λ ls. link o e ∷ ls) (links_taken k rest)
      (λ vs ls l. linked o x l)))

  chain_taken : (k : ℕ) (l : Lead) (ts : List Token) → Taken (λ us e. Expressed (lead_tokens l ++ us) e) ts (chain_by inner k (start l ts))
  chain_taken k l ts =
      next_taken Operand (λ us e. Expressed (lead_tokens l ++ us) e) _ (operand_taken ts)
      (λ us e x rest. map_taken Links (λ vs a. Expressed (lead_tokens l ++ (us ++ vs)) a) (tree l e) (links_taken k rest)
      (λ vs ls m. level_one (sign_level l x m)))

  plus_taken : (k : ℕ) (ts : List Token) → Taken (λ us e. Expressed (Binary Plus ∷ us) e) ts (chain_by inner k (start bare ts))
  plus_taken k ts =
      next_taken Operand (λ us e. Expressed (Binary Plus ∷ us) e) _ (operand_taken ts)
      (λ us e x rest. map_taken Links (λ vs a. Expressed (Binary Plus ∷ (us ++ vs)) a) (tree bare e) (links_taken k rest)
      (λ vs ls m. plus (bare_level later x m)))

  start_taken : (k : ℕ) (ts : List Token) → Taken Expressed ts (chain_by inner k (start_of ts))
  unfolding start_of
  start_taken k [] = chain_taken k bare []
  start_taken k (Name w ∷ ts) = chain_taken k bare (Name w ∷ ts)
  start_taken k (Number n ∷ ts) = chain_taken k bare (Number n ∷ ts)
  start_taken k (Quoted n ∷ ts) = chain_taken k bare (Quoted n ∷ ts)
  start_taken k (Binary Plus ∷ ts) = behind Expressed (Binary Plus ∷ []) (plus_taken k ts)
  start_taken k (Binary Minus ∷ ts) = behind Expressed (Binary Minus ∷ []) (chain_taken k minus ts)
  start_taken k (Binary Times ∷ ts) = chain_taken k bare (Binary Times ∷ ts)
  start_taken k (Binary Over ∷ ts) = chain_taken k bare (Binary Over ∷ ts)
  start_taken k (Binary Power ∷ ts) = chain_taken k bare (Binary Power ∷ ts)
  start_taken k (Binary Left ∷ ts) = chain_taken k bare (Binary Left ∷ ts)
  start_taken k (Binary Right ∷ ts) = chain_taken k bare (Binary Right ∷ ts)
  start_taken k (Binary And ∷ ts) = chain_taken k bare (Binary And ∷ ts)
  start_taken k (Binary Or ∷ ts) = chain_taken k bare (Binary Or ∷ ts)
  start_taken k (Binary Unlike ∷ ts) = chain_taken k bare (Binary Unlike ∷ ts)
  start_taken k (Compare r ∷ ts) = chain_taken k bare (Compare r ∷ ts)
  start_taken k (Mark m ∷ ts) =
      either_part (λ s. Taken Expressed (Mark m ∷ ts) (chain_by inner k s)) (eqb m mark_invert) _ _
      (λ y. rw (eqb-true m mark_invert y) (behind Expressed (Mark mark_invert ∷ []) (chain_taken k invert ts)))
      (λ n. chain_taken k bare (Mark m ∷ ts))

pub in_taken : (k : ℕ) (ts : List Token) → Taken Expressed ts (expression_in k ts)
unfolding expression_in
in_taken zero ts = nothing
in_taken (suc k) ts = start_taken (expression_in k) (λ us. in_taken k us) _ ts

expression_taken : (ts : List Token) → Taken Expressed ts (expression ts)
expression_taken ts = in_taken _ ts

-- ---- instructions

equal_only : (r : Relation) → is_equal r ≡ true → r ≡ Equal
equal_only Equal y = refl
equal_only Unequal y = absurd (false≢true y)
equal_only Less y = absurd (false≢true y)
equal_only AtMost y = absurd (false≢true y)
equal_only Greater y = absurd (false≢true y)
equal_only AtLeast y = absurd (false≢true y)

named_taken : (w : ℕ) (ts : List Token) → Taken (λ us u. Simply (Name w ∷ us) u) ts (named w ts)
unfolding named
named_taken w [] = nothing
named_taken w (Name n ∷ ts) = nothing
named_taken w (Number n ∷ ts) = nothing
named_taken w (Quoted n ∷ ts) = nothing
named_taken w (Binary o ∷ ts) = nothing
named_taken w (Compare r ∷ ts) =
    either_part (Taken (λ us u. Simply (Name w ∷ us) u) (Compare r ∷ ts)) (is_equal r) _ none
    (λ y. rw (equal_only r y)
    (behind (λ us u. Simply (Name w ∷ us) u) (Compare Equal ∷ [])
    (map_taken Expressed (λ us u. Simply (Name w ∷ Compare Equal ∷ us) u) (set w) (expression_taken ts) (λ us e d. assignment w d))))
    (λ n. nothing)
named_taken w (Mark m ∷ ts) =
    either_part (Taken (λ us u. Simply (Name w ∷ us) u) (Mark m ∷ ts)) _ _ none
    (λ y. let both = both_yes (eqb m mark_open) (eqb w send_word) y in
    rw (eqb-true m mark_open both.0, eqb-true w send_word both.1)
    (behind (λ us u. Simply (Name send_word ∷ us) u) (Mark mark_open ∷ [])
    (next_taken Expressed (λ us u. Simply (Name send_word ∷ Mark mark_open ∷ us) u) _ (expression_taken ts)
    (λ us e d rest. past_taken (λ vs u. Simply (Name send_word ∷ Mark mark_open ∷ (us ++ vs)) u) mark_close rest (λ l. read (send e) l)
    (λ vs. taken (sending d) vs)))))
    (λ n. nothing)

jump_taken : (ts : List Token) → Taken (λ us u. Simply (Mark mark_arrow ∷ us) u) ts (jump ts)
unfolding jump
jump_taken [] = nothing
jump_taken (Name w ∷ ts) = nothing
jump_taken (Number l ∷ ts) = taken (jumping l) ts
jump_taken (Quoted n ∷ ts) = nothing
jump_taken (Binary o ∷ ts) = nothing
jump_taken (Compare r ∷ ts) = nothing
jump_taken (Mark m ∷ ts) = nothing

simple_taken : (ts : List Token) → Taken Simply ts (simple_at ts)
unfolding simple_at
simple_taken [] = nothing
simple_taken (Name w ∷ ts) = behind Simply (Name w ∷ []) (named_taken w ts)
simple_taken (Number n ∷ ts) = nothing
simple_taken (Quoted n ∷ ts) = nothing
simple_taken (Binary o ∷ ts) = nothing
simple_taken (Compare r ∷ ts) = nothing
simple_taken (Mark m ∷ ts) =
    either_part (Taken Simply (Mark m ∷ ts)) (eqb m mark_arrow) (jump ts) none
    (λ y. rw (eqb-true m mark_arrow y) (behind Simply (Mark mark_arrow ∷ []) (jump_taken ts)))
    (λ n. nothing)

data Related : List Token → Relation → Type 0 where
  related : (r : Relation) → Related (Compare r ∷ []) r

relation_taken : (ts : List Token) → Taken Related ts (relation_at ts)
unfolding relation_at
relation_taken [] = nothing
relation_taken (Name w ∷ ts) = nothing
relation_taken (Number n ∷ ts) = nothing
relation_taken (Quoted n ∷ ts) = nothing
relation_taken (Binary o ∷ ts) = nothing
relation_taken (Compare r ∷ ts) = taken (related r) ts
relation_taken (Mark m ∷ ts) = nothing

module _ {xs : List Token} {a : Expression} (c : Expressed xs a) where
  second_taken : {vs : List Token} {r : Relation} → Related vs r → (ts : List Token)
      → Taken (λ us k. Member (xs ++ (vs ++ us)) k) ts (next (expression ts) (λ b rest. read (compares r a b) rest))
  second_taken (related r) ts =
      map_taken Expressed (λ us k. Member (xs ++ Compare r ∷ us) k) (compares r a) (expression_taken ts)
      (λ ys b d. comparison r c d)

comparison_taken : (ts : List Token) → Taken Member ts (comparison_at ts)
comparison_taken ts =
    next_taken Expressed Member _ (expression_taken ts)
    (λ xs a c behind_a. next_taken Related (λ us k. Member (xs ++ us) k) _ (relation_taken behind_a)
    (λ vs r q others. second_taken c q others))

-- ---- conditions

-- members that the word w joins, of which there is one at least
data Begun : Joining → List Token → Condition → Type 0 where
  one : {w : Joining} {ts : List Token} {c : Condition} → Member ts c → Begun w ts c
  some : {w : Joining} {ts : List Token} {c : Condition} → Joined w ts c → Begun w ts c

one_joined : {w : Joining} {ts us : List Token} {a b : Condition} → Begun w ts a → Member us b
    → Begun w (ts ++ Mark (mark_of w) ∷ us) (join_of w a b)
one_joined {w} (one m) n = some (two w m n)
one_joined {w} (some j) n = some (more w j n)

begun_asked : {w : Joining} {ts : List Token} {c : Condition} → Begun w ts c → Asked ts c
begun_asked (one m) = single m
begun_asked (some j) = run j

-- what was taken, as something else
taken_as : {A : Type 0} (R S : List Token → A → Type 0) {ts : List Token} {x : Read A} → ((us : List Token) (a : A) → R us a → S us a)
    → Taken R ts x → Taken S ts x
taken_as R S h (taken {ts = us} {a = a} r rest) = taken (h us a r) rest
taken_as R S h nothing = nothing

module _ (inner : List Token → Read Condition) (inner_taken : (ts : List Token) → Taken Asked ts (inner ts)) where
  member_taken : (ts : List Token) → Taken Member ts (member_by inner ts)
  unfolding member_by opens_condition
  member_taken ts =
      either_part (Taken Member ts) (opens_condition ts) _ (comparison_at ts)
      (λ y. subst (λ us. Taken Member us (next (inner (behind_first ts)) (λ c rest. past mark_close rest (λ l. read c l))))
      (opens_with mark_open ts (both_yes (opens mark_open ts) (holds_relation 0 (behind_first ts)) y).0)
      (behind Member (Mark mark_open ∷ [])
      (next_taken Asked (λ vs c. Member (Mark mark_open ∷ vs) c) (λ c rest. past mark_close rest (λ l. read c l)) (inner_taken (behind_first ts))
      (λ us c d rest. past_taken (λ vs a. Member (Mark mark_open ∷ us ++ vs) a) mark_close rest (λ l. read c l) (λ vs. taken (enclosed d) vs)))))
      (λ n. comparison_taken ts)

  run_taken : (w : Joining) (k : ℕ) {xs : List Token} {c : Condition} → Begun w xs c → (ts : List Token)
      → Taken (λ us d. Begun w (xs ++ us) d) ts (run_by inner w k c ts)
  unfolding run_by
  run_taken w zero b ts = nothing
  run_taken w (suc k) {xs} {c} b ts =
      by_mark (Taken (λ us d. Begun w (xs ++ us) d)) (mark_of w) ts _ (read c ts)
      (λ others. behind (λ us d. Begun w (xs ++ us) d) (Mark (mark_of w) ∷ [])
      (next_taken Member (λ us d. Begun w (xs ++ Mark (mark_of w) ∷ us) d) _ (member_taken others)
      (λ us m q rest. taken_as (λ vs d. Begun w ((xs ++ Mark (mark_of w) ∷ us) ++ vs) d) (λ vs d. Begun w (xs ++ Mark (mark_of w) ∷ (us ++ vs)) d)
      (λ vs d r. subst (λ z. Begun w z d) (append_assoc xs (Mark (mark_of w) ∷ us) vs) r)
      (run_taken w k (one_joined b q) rest))))
      (taken {ts = []} (rw (append-nil xs) b) ts)

  joined_taken : (k : ℕ) {xs : List Token} {c : Condition} → Member xs c → (ts : List Token)
      → Taken (λ us d. Asked (xs ++ us) d) ts (joined_by inner k c ts)
  joined_taken k {xs} {c} m ts =
      either_part (Taken (λ us d. Asked (xs ++ us) d) ts) (opens mark_and ts) _ _
      (λ y. taken_as (λ us d. Begun AndRun (xs ++ us) d) (λ us d. Asked (xs ++ us) d) (λ us d b. begun_asked b) (run_taken AndRun k (one m) ts))
      (λ n. taken_as (λ us d. Begun OrRun (xs ++ us) d) (λ us d. Asked (xs ++ us) d) (λ us d b. begun_asked b) (run_taken OrRun k (one m) ts))

conditions_taken : (k : ℕ) (ts : List Token) → Taken Asked ts (condition_in k ts)
unfolding condition_in
conditions_taken zero ts = nothing
conditions_taken (suc k) ts =
    next_taken Member Asked _ (member_taken (condition_in k) (conditions_taken k) ts)
    (λ xs c m rest. joined_taken (condition_in k) (conditions_taken k) (suc k) m rest)

condition_taken : (ts : List Token) → Taken Asked ts (condition_at ts)
condition_taken ts = conditions_taken (length ts) ts

-- the tokens of an instruction, part by part from the left
abbrev AfterIf : List Token → Instruction → Type 0
AfterIf ts i = Instructed (Mark mark_if ∷ ts) i

module _ {xs : List Token} {c : Condition} (q : Asked xs c) where
  abbrev AfterThen : List Token → Instruction → Type 0
  AfterThen vs i = AfterIf (xs ++ Mark mark_then ∷ vs) i

  module _ {us : List Token} {u : Simple} (s : Simply us u) where
    no_else : AfterThen (us ++ []) (if_then c u)
    no_else = rw (append-nil us) (on_condition q s)

    chosen_taken : (ts : List Token) → Taken (λ vs i. AfterThen (us ++ vs) i) ts (chosen c u ts)
    chosen_taken ts =
        by_mark (Taken (λ vs i. AfterThen (us ++ vs) i)) mark_else ts _ (read (if_then c u) ts)
        (λ others. behind (λ vs i. AfterThen (us ++ vs) i) (Mark mark_else ∷ [])
        (map_taken Simply (λ vs i. AfterThen (us ++ Mark mark_else ∷ vs) i) (if_else c u) (simple_taken others)
        (λ ws w t. simp append_assoc at (alternative q s t))))
        (taken no_else ts)

  consequent_taken : (ts : List Token) → Taken AfterThen ts (consequent c ts)
  consequent_taken ts =
      by_mark (Taken AfterThen) mark_start ts (λ l. read (if_start c) l) _
      (λ us. behind AfterThen (Mark mark_start ∷ []) (taken (opening q) us))
      (next_taken Simply AfterThen _ (simple_taken ts) (λ us u s rest. chosen_taken s rest))

conditional_taken : (ts : List Token) → Taken AfterIf ts (conditional ts)
conditional_taken ts =
    next_taken Asked AfterIf _ (condition_taken ts)
    (λ xs c q rest. past_taken (λ us i. AfterIf (xs ++ us) i) mark_then rest _ (λ l. consequent_taken q l))

instruction_taken : (ts : List Token) → Taken Instructed ts (instruction_at ts)
instruction_taken ts =
    by_mark (Taken Instructed) mark_if ts conditional _
    (λ us. behind Instructed (Mark mark_if ∷ []) (conditional_taken us))
    (map_taken Simply Instructed simple (simple_taken ts) (λ us u s. simply s))

-- ---- statements

data LabelsTaken : List Token → Labelled → Type 0 where
  labels_taken : {ts : List Token} {ls : List ℕ} → LabelList ts ls → (rest : List Token) → LabelsTaken (ts ++ rest) (labelled ls rest)

one_more_law : (l : ℕ) {ts : List Token} {x : Labelled} → LabelsTaken ts x → LabelsTaken (Number l ∷ Mark mark_colon ∷ ts) (further l x)
one_more_law l (labels_taken ls rest) = labels_taken (label l ls) rest

labels_at_law : (ts : List Token) → LabelsTaken ts (labels_at ts)
unfolding labels_at
labels_at_law [] = labels_taken no_label []
labels_at_law (Name w ∷ ts) = labels_taken no_label (Name w ∷ ts)
labels_at_law (Number l ∷ []) = labels_taken no_label (Number l ∷ [])
labels_at_law (Number l ∷ t ∷ ts) =
    let more = labels_at_law ts in
    either_part (LabelsTaken (Number l ∷ t ∷ ts)) (is_mark mark_colon t) _ _
    (λ y. subst (λ u. LabelsTaken (Number l ∷ u ∷ ts) (further l (labels_at ts))) (is_mark_law mark_colon t y) (one_more_law l more))
    (λ n. labels_taken no_label (Number l ∷ t ∷ ts))
labels_at_law (Quoted n ∷ ts) = labels_taken no_label (Quoted n ∷ ts)
labels_at_law (Binary o ∷ ts) = labels_taken no_label (Binary o ∷ ts)
labels_at_law (Compare r ∷ ts) = labels_taken no_label (Compare r ∷ ts)
labels_at_law (Mark m ∷ ts) = labels_taken no_label (Mark m ∷ ts)

-- a form that is stated, or none
pub data Finds : List Token → Form → Type 0 where
  finds : {ts : List Token} {f : Form} → Stated ts f → Finds ts f
  no_form_law : {ts : List Token} → Finds ts no_form

entire_finds : {ts us : List Token} {ls : List ℕ} {x : Read Instruction} → LabelList ts ls → Taken Instructed us x → Finds (ts ++ us) (entire ls x)
entire_finds l (taken {ts = us} i []) = rw (append-nil us) (finds (instructed l i))
entire_finds l (taken i (t ∷ ts)) = no_form_law
entire_finds l nothing = no_form_law

labelled_finds : {ts : List Token} {x : Labelled} → LabelsTaken ts x → Finds ts (labelled_form x)
unfolding labelled_form
labelled_finds (labels_taken {ts = us} l []) = rw (append-nil us) (finds (labels_alone l))
labelled_finds (labels_taken l (t ∷ ts)) = entire_finds l (instruction_taken (t ∷ ts))

only_finds : (front : List Token) (f : Form) → Stated front f → (ts : List Token) → Finds (front ++ ts) (only f ts)
only_finds front f s [] = rw (append-nil front) (finds s)
only_finds front f s (t ∷ ts) = no_form_law

is_name_law : (t : Token) → is_name t ≡ true → (w : ℕ) × (Name w ≡ t)
is_name_law (Name w) y = (w, refl)
is_name_law (Number n) y = absurd (false≢true y)
is_name_law (Quoted n) y = absurd (false≢true y)
is_name_law (Binary o) y = absurd (false≢true y)
is_name_law (Compare r) y = absurd (false≢true y)
is_name_law (Mark m) y = absurd (false≢true y)

name_list : (ts : List Token) → is_name_list ts ≡ true → NameList ts
unfolding is_name_list
name_list [] y = absurd (false≢true y)
name_list (t ∷ []) y = let n = is_name_law t y in subst (λ u. NameList (u ∷ [])) n.1 (last n.0)
name_list (t ∷ u ∷ ts) y =
    let all = both_yes (is_name t) _ y in
    let rest = both_yes (is_mark mark_comma u) (is_name_list ts) all.1 in
    let n = is_name_law t all.0 in
    subst (λ v. NameList (v ∷ u ∷ ts)) n.1
    (subst (λ v. NameList (Name n.0 ∷ v ∷ ts)) (is_mark_law mark_comma u rest.0) (comma n.0 (name_list ts rest.1)))

names_finds : (ts : List Token) → Finds (Mark mark_integer ∷ ts) (pick (is_name_list ts) declaration no_form)
names_finds ts =
    either_part (Finds (Mark mark_integer ∷ ts)) (is_name_list ts) declaration no_form
    (λ y. finds (integers (name_list ts y)))
    (λ n. no_form_law)

finish_finds : (ts : List Token) → Finds (Mark mark_finish ∷ ts) (finishing ts)
unfolding finishing
finish_finds ts =
    by_mark (λ us f. Finds (Mark mark_finish ∷ us) f) mark_else ts _ (only finish ts)
    (λ us. by_mark (λ vs f. Finds (Mark mark_finish ∷ Mark mark_else ∷ vs) f) mark_start us (only finish_else) no_form
    (only_finds (Mark mark_finish ∷ Mark mark_else ∷ Mark mark_start ∷ []) finish_else goes_on)
    no_form_law)
    (only_finds (Mark mark_finish ∷ []) finish finishes ts)

-- sound: every form that is found the syntax has
pub form_finds : (ts : List Token) → Finds ts (form ts)
unfolding form
form_finds ts =
    by_mark Finds mark_begin ts (only beginning) _ (only_finds (Mark mark_begin ∷ []) beginning begin)
    (by_mark Finds mark_end ts (only ending) _ (only_finds (Mark mark_end ∷ []) ending end)
    (by_mark Finds mark_integer ts (λ us. pick (is_name_list us) declaration no_form) _ names_finds
    (by_mark Finds mark_finish ts finishing _ finish_finds (labelled_finds (labels_at_law ts)))))
