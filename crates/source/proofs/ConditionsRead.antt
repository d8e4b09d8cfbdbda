-- What specs/Syntax says of conditions is read: the reader of Grammar takes exactly the tokens of a condition.
use Prim.Native.Nat.{ℕ, zero, suc, ◌+◌, ◌<◌, ◌≤◌}
use mathlib.Core.Path.{◌≡◌, refl, sym, ap, subst, ◌∙◌}
use mathlib.Core.Bool.{true, false, false≢true}
use mathlib.Core.List.{List, [], ◌∷◌, ◌++◌, append_assoc, append-nil}
use native.Mathlib.Omega.{arith}
use lib.Dec.{eqb}
use borrow.Author.Tests.{eqb-true}
use lib.ListN.{length, length-append}
use Rattle.base.specs.Choice.{pick}
use Rattle.word.specs.declared.Relation.{Relation}
use Rattle.sheet.specs.declared.Joining.{Joining}
use Rattle.sheet.specs.declared.Joining.TheVariants.{And as AndRun, Or as OrRun}
use Rattle.sheet.specs.Sheet.{Expression, Condition, compares}
use Rattle.sheet.specs.Merge.{join_of}
use Rattle.source.specs.declared.Token.{Token}
use Rattle.source.specs.declared.Token.TheVariants.{Name, Number, Quoted, Binary, Compare, Mark}
use Rattle.source.specs.Tokens.{mark_and, mark_or, mark_close}
use Rattle.source.specs.Grammar.{Read, read, next, opens, behind_first, relation_at, comparison_at}
use Rattle.source.specs.Grammar.{holds_relation, opens_condition, member_by, mark_of, run_by, joined_by, condition_in, condition_at}
use Rattle.source.specs.Syntax.{named, decimal, quoted, bracketed, operand, inverse, higher, operation, minus}
use Rattle.source.specs.Syntax.{Expressed, expression as level_one, plus}
use Rattle.source.specs.Syntax.{Member, comparison, enclosed, Joined, two, more, Asked, single, run}
use Rattle.source.specs.Printed.{Ends}
use Rattle.source.proofs.ExpressionsRead.{expression_found}

-- ---- which brackets are a condition's

-- an expression holds no relation, and its brackets are closed
no_relation : {ts : List Token} {e : Expression} → Expressed ts e → (d : ℕ) (l : List Token) → holds_relation d (ts ++ l) ≡ holds_relation d l
unfolding holds_relation pick
no_relation x =
    elim x as (λ ts e y. Passed ts) (λ p n ts e y. Passed ts) (λ ts e y. Passed ts) [
      | named w ↦ λ d l. refl
      | decimal n ↦ λ d l. refl
      | quoted n ↦ λ d l. refl
      | bracketed {ts = ts} (c → k) ↦
          λ d l. ap (holds_relation (suc d)) (append_assoc ts (Mark mark_close ∷ []) l) ∙ k (suc d) (Mark mark_close ∷ l)
      | operand (y → k) ↦ λ d l. k d l
      | inverse (y → k) ↦ λ d l. k d l
      | higher (c → k) ↦ λ d l. k d l
      | operation {ts = ts} {us = us} o (c → k) (b → m) ↦
          λ d l. ap (holds_relation d) (append_assoc ts (Binary o ∷ us) l) ∙ k d (Binary o ∷ (us ++ l)) ∙ m d l
      | minus (c → k) ↦ λ d l. k d l
      | level_one (c → k) ↦ λ d l. k d l
      | plus (c → k) ↦ λ d l. k d l
    ]
  where
    Passed : List Token → Type 0
    Passed ts = (d : ℕ) (l : List Token) → holds_relation d (ts ++ l) ≡ holds_relation d l

-- so a bracket at its front is none of a condition
no_condition_law : {ts : List Token} {e : Expression} → Expressed ts e → (l : List Token) → opens_condition (ts ++ l) ≡ false
unfolding opens_condition opens behind_first pick holds_relation
no_condition_law x =
    elim x as (λ ts e y. Apart ts) (λ p n ts e y. Apart ts) (λ ts e y. Apart ts) [
      | named w ↦ λ l. refl
      | decimal n ↦ λ l. refl
      | quoted n ↦ λ l. refl
      | bracketed {ts = ts} (c → k) ↦
          λ l. ap (holds_relation 0) (append_assoc ts (Mark mark_close ∷ []) l) ∙ no_relation c 0 (Mark mark_close ∷ l)
      | operand (y → k) ↦ λ l. k l
      | inverse (y → k) ↦ λ l. refl
      | higher (c → k) ↦ λ l. k l
      | operation {ts = ts} {us = us} o (c → k) (b → m) ↦
          λ l. ap opens_condition (append_assoc ts (Binary o ∷ us) l) ∙ k (Binary o ∷ (us ++ l))
      | minus (c → k) ↦ λ l. refl
      | level_one (c → k) ↦ λ l. k l
      | plus (c → k) ↦ λ l. refl
    ]
  where
    Apart : List Token → Type 0
    Apart ts = (l : List Token) → opens_condition (ts ++ l) ≡ false

-- every condition holds one
relation_held : {ts : List Token} {c : Condition} → Asked ts c → (d : ℕ) (l : List Token) → holds_relation d (ts ++ l) ≡ true
unfolding holds_relation pick
relation_held q =
    elim q as (λ ts c y. Held ts) (λ w ts c y. Held ts) (λ ts c y. Held ts) [
      | comparison {xs = xs} {ys = ys} r x y ↦
          λ d l. ap (holds_relation d) (append_assoc xs (Compare r ∷ ys) l) ∙ no_relation x d (Compare r ∷ (ys ++ l))
      | enclosed {ts = ts} (c → k) ↦
          λ d l. ap (holds_relation (suc d)) (append_assoc ts (Mark mark_close ∷ []) l) ∙ k (suc d) (Mark mark_close ∷ l)
      | two w {ts = ts} {us = us} (c → k) (b → m) ↦
          λ d l. ap (holds_relation d) (append_assoc ts (Mark (mark_of w) ∷ us) l) ∙ k d (Mark (mark_of w) ∷ (us ++ l))
      | more w {ts = ts} {us = us} (c → k) (b → m) ↦
          λ d l. ap (holds_relation d) (append_assoc ts (Mark (mark_of w) ∷ us) l) ∙ k d (Mark (mark_of w) ∷ (us ++ l))
      | single (c → k) ↦ λ d l. k d l
      | run (c → k) ↦ λ d l. k d l
    ]
  where
    Held : List Token → Type 0
    Held ts = (d : ℕ) (l : List Token) → holds_relation d (ts ++ l) ≡ true

-- ---- a run from its first member on

data Tail (w : Joining) : List Token → Condition → Condition → Type 0 where
  none : {c : Condition} → Tail w [] c c
  then : {ts us : List Token} {c b d : Condition} → Member us b → Tail w ts (join_of w c b) d → Tail w (Mark (mark_of w) ∷ (us ++ ts)) c d

-- its first member, and the others
record Parted (w : Joining) (ts : List Token) (d : Condition) : Type 0 where
  front : List Token
  first : Condition
  is_member : Member front first
  others : List Token
  tail : Tail w others first d
  together : front ++ others ≡ ts
  joined : opens (mark_of w) others ≡ true

tail_more : {w : Joining} {ts us : List Token} {c d b : Condition} → Tail w ts c d → Member us b → Tail w (ts ++ Mark (mark_of w) ∷ us) c (join_of w d b)
tail_more {w} {us = us} {b = b} (none {c = c}) m = subst (λ l. Tail w (Mark (mark_of w) ∷ l) c (join_of w c b)) (append-nil us) (then m none)
tail_more {w} {us = us} {b = b} (then {ts = ts} {us = vs} {c = c} {d = d} n t) m =
    subst (λ l. Tail w (Mark (mark_of w) ∷ l) c (join_of w d b)) (sym (append_assoc vs ts (Mark (mark_of w) ∷ us))) (then n (tail_more t m))

mark_opens : (w : Joining) (l : List Token) → opens (mark_of w) (Mark (mark_of w) ∷ l) ≡ true
unfolding opens
mark_opens AndRun l = refl
mark_opens OrRun l = refl

opens_append : (m : ℕ) (ts us : List Token) → opens m ts ≡ true → opens m (ts ++ us) ≡ true
unfolding opens
opens_append m [] us h = absurd (false≢true h)
opens_append m (t ∷ ts) us h = h

part : {w : Joining} {ts : List Token} {d : Condition} → Joined w ts d → Parted w ts d
part {w} (two _ {ts = ts} {us = us} {a = a} {b = b} m n) =
    record {
      front = ts;
      first = a;
      is_member = m;
      others = Mark (mark_of w) ∷ us;
      tail = subst (λ l. Tail w (Mark (mark_of w) ∷ l) a (join_of w a b)) (append-nil us) (then n none);
      together = refl;
      joined = mark_opens w us;
    }
part {w} (more _ {us = us} j n) =
    let p = part j in
    record {
      front = p.front;
      first = p.first;
      is_member = p.is_member;
      others = p.others ++ Mark (mark_of w) ∷ us;
      tail = tail_more p.tail n;
      together = sym (append_assoc p.front p.others (Mark (mark_of w) ∷ us)) ∙ ap (λ l. l ++ Mark (mark_of w) ∷ us) p.together;
      joined = opens_append (mark_of w) p.others (Mark (mark_of w) ∷ us) p.joined;
    }

-- ---- what is read

module _ {xs ys : List Token} {a b : Expression} (r : Relation) (x : Expressed xs a) (y : Expressed ys b) (rest : List Token) (f : Ends rest) where
  comparison_found : comparison_at ((xs ++ Compare r ∷ ys) ++ rest) ≡ read (compares r a b) rest
  unfolding next relation_at
  comparison_found =
      rw (append_assoc xs (Compare r ∷ ys) rest, expression_found x (Compare r ∷ (ys ++ rest)) tt, expression_found y rest f) refl

  one_found : (inner : List Token → Read Condition) → member_by inner ((xs ++ Compare r ∷ ys) ++ rest) ≡ read (compares r a b) rest
  unfolding member_by pick
  one_found inner =
      rw (ap opens_condition (append_assoc xs (Compare r ∷ ys) rest) ∙ no_condition_law x (Compare r ∷ (ys ++ rest))) comparison_found

member_some : {ts : List Token} {c : Condition} → Member ts c → 1 ≤ length ts
member_some (comparison {xs = xs} {ys = ys} r x y) = omega (arith, length-append xs (Compare r ∷ ys))
member_some (enclosed q) = omega arith

asked_some : {ts : List Token} {c : Condition} → Asked ts c → 1 ≤ length ts
asked_some (single m) = member_some m
asked_some (run (two w {ts = ts} {us = us} m n)) = omega (arith, length-append ts (Mark (mark_of w) ∷ us))
asked_some (run (more w {ts = ts} {us = us} j n)) = omega (arith, length-append ts (Mark (mark_of w) ∷ us))

-- members of at most k + 1 tokens are read, where brackets have k of them
abbrev MembersFound : ℕ → Type 0
MembersFound k =
    (ts : List Token) (c : Condition) → Member ts c → (rest : List Token) → Ends rest → length ts ≤ suc k
    → member_by (condition_in k) (ts ++ rest) ≡ read c rest

-- no word goes on
record Unjoined (ts : List Token) : Type 0 where
  no_and : opens mark_and ts ≡ false
  no_or : opens mark_or ts ≡ false

unjoined_by : (w : Joining) (ts : List Token) → Unjoined ts → opens (mark_of w) ts ≡ false
unjoined_by AndRun ts u = u.no_and
unjoined_by OrRun ts u = u.no_or

module _ (k : ℕ) (found : MembersFound k) where
  tail_ends : {w : Joining} {ts : List Token} {c d : Condition} → Tail w ts c d → (rest : List Token) → Ends rest → Ends (ts ++ rest)
  tail_ends none rest f = f
  tail_ends (then m t) rest f = tt

  tail_found : (w : Joining) (j : ℕ) {ts : List Token} {c d : Condition} → Tail w ts c d → (rest : List Token) → Ends rest → Unjoined rest
      → length ts < j → length ts ≤ suc k → run_by (condition_in k) w j c (ts ++ rest) ≡ read d rest
  unfolding run_by pick next behind_first
  tail_found w zero t rest f u g h = absurd (omega (arith, g))
  tail_found w (suc j) none rest f u g h = rw (unjoined_by w rest u) refl
  tail_found w (suc j) (then {ts = ts} {us = us} {c = c} {b = b} m t) rest f u g h =
      let size : length (us ++ ts) ≡ length us + length ts = length-append us ts in
      rw (
        mark_opens w ((us ++ ts) ++ rest),
        append_assoc us ts rest,
        found us b m (ts ++ rest) (tail_ends t rest f) (omega (arith, h, size)),
        tail_found w j t rest f u (omega (arith, g, size)) (omega (arith, h, size)),
      )
      refl

  -- of two words one stands at the front
  one_word : (ts : List Token) → opens mark_or ts ≡ true → opens mark_and ts ≡ false
  unfolding opens
  one_word [] h = absurd (false≢true h)
  one_word (Name w ∷ ts) h = absurd (false≢true h)
  one_word (Number n ∷ ts) h = absurd (false≢true h)
  one_word (Quoted n ∷ ts) h = absurd (false≢true h)
  one_word (Binary o ∷ ts) h = absurd (false≢true h)
  one_word (Compare r ∷ ts) h = absurd (false≢true h)
  one_word (Mark m ∷ ts) h = ap (λ i. eqb i mark_and) (eqb-true m mark_or h)

  run_found : (w : Joining) (j : ℕ) {ts : List Token} {c d : Condition} → Tail w ts c d → opens (mark_of w) ts ≡ true → (rest : List Token) → Ends rest
      → Unjoined rest → length ts < j → length ts ≤ suc k → joined_by (condition_in k) j c (ts ++ rest) ≡ read d rest
  unfolding pick
  run_found AndRun j {ts} t o rest f u g h = rw (opens_append mark_and ts rest o) (tail_found AndRun j t rest f u g h)
  run_found OrRun j {ts} t o rest f u g h =
      rw (one_word (ts ++ rest) (opens_append mark_or ts rest o)) (tail_found OrRun j t rest f u g h)

  asked_found : {ts : List Token} {c : Condition} → Asked ts c → (rest : List Token) → Ends rest → Unjoined rest → length ts ≤ suc k
      → condition_in (suc k) (ts ++ rest) ≡ read c rest
  unfolding condition_in next pick run_by
  asked_found {ts} {c} (single m) rest f u h = rw (found ts c m rest f h, u.no_and, u.no_or) refl
  asked_found {ts} {c} (run {w = w} j) rest f u h =
      let p = part j in
      let front = p.front in
      let others = p.others in
      let size : length ts ≡ length front + length others = ap length (sym p.together) ∙ length-append front others in
      let some = member_some p.is_member in
      let parted : ts ++ rest ≡ front ++ (others ++ rest) = ap (λ l. l ++ rest) (sym p.together) ∙ append_assoc front others rest in
      rw (parted, found front p.first p.is_member (others ++ rest) (tail_ends p.tail rest f) (omega (arith, h, size)))
      (run_found w (suc k) p.tail p.joined rest f u (omega (arith, h, size, some)) (omega (arith, h, size)))

members_none : MembersFound 0
members_none ts c (comparison r x y) rest f h = one_found r x y rest f (condition_in 0)
members_none ts c (enclosed {ts = us} q) rest f h =
    let size : length (us ++ Mark mark_close ∷ []) ≡ length us + 1 = length-append us (Mark mark_close ∷ []) in
    absurd (omega (arith, h, size))

members_more : (k : ℕ) → MembersFound k → MembersFound (suc k)
unfolding member_by opens_condition opens behind_first pick next
members_more k found ts c (comparison r x y) rest f h = one_found r x y rest f (condition_in (suc k))
members_more k found ts c (enclosed {ts = us} q) rest f h =
    let size : length (us ++ Mark mark_close ∷ []) ≡ length us + 1 = length-append us (Mark mark_close ∷ []) in
    rw (
      append_assoc us (Mark mark_close ∷ []) rest,
      relation_held q 0 (Mark mark_close ∷ rest),
      asked_found k found q (Mark mark_close ∷ rest) tt (record { no_and = refl; no_or = refl }) (omega (arith, h, size)),
    )
    refl

members_found : (k : ℕ) → MembersFound k
members_found zero = members_none
members_found (suc k) = members_more k (members_found k)

-- exactly the tokens of a condition are taken, where neither an operator nor a word goes on with them
pub condition_found : {ts : List Token} {c : Condition} → Asked ts c → (rest : List Token) → Ends rest → opens mark_and rest ≡ false
    → opens mark_or rest ≡ false → condition_at (ts ++ rest) ≡ read c rest
condition_found {ts} {c} q rest f no_and no_or = go (length (ts ++ rest)) (length-append ts rest)
  where
    go : (k : ℕ) → k ≡ length ts + length rest → condition_in k (ts ++ rest) ≡ read c rest
    go zero h = absurd (omega (arith, h, asked_some q))
    go (suc k) h = asked_found k (members_found k) q rest f (record { no_and = no_and; no_or = no_or }) (omega (arith, h))
