-- Going back from a run, and over it, by the places of an array, and what is written of a field there.
use Prim.Native.Nat.{ℕ, zero, suc, ◌+◌, ◌-◌, ◌≤◌, ◌<◌}
use mathlib.Core.Path.{◌≡◌, refl, sym, ap, subst, ◌∙◌}
use mathlib.Core.Bool.{Bool, true, false}
use mathlib.Core.List.{List, [], ◌∷◌, map}
use native.Mathlib.Omega.{arith}
use borrow.Author.Tests.{le-ltb, ne_eqb}
use lib.Dec.{ltb, eqb}
use lib.ListN.{length, get_or, drop_of_length-le}
use Rattle.base.specs.Choice.{pick}
use Rattle.base.specs.Places.{each}
use Rattle.base.proofs.Cases.{by_less, either_part}
use Rattle.base.proofs.Places.{each_at}
use Rattle.base.proofs.Lists.{drop_more}
use Rattle.sheet.specs.declared.Joining.{Joining}
use Rattle.sheet.specs.declared.Joining.TheVariants.{And, Or}
use Rattle.sheet.specs.declared.Field.{Field}
use Rattle.sheet.specs.declared.Field.TheVariants.{Run}
use Rattle.sheet.specs.Condition.{same_word}
use Rattle.sheet_field.specs.Memory.{shapes, field_of, field_word, field_in, fields_at}
use Rattle.sheet_field.proofs.Numbering.{no_field}
use Rattle.sheet_field.proofs.Stored.{field_in_law}
use Rattle.sheet_line.specs.declared.Node.{Node}
use Rattle.sheet_line.specs.declared.Node.TheVariants.{Comparison, Run as Joined, If as Asks, Other}
use Rattle.std.specs.Prelude.{Option, Some, None}
use Rattle.std.specs.declared.ops.ControlFlow.{ControlFlow}
use Rattle.std.specs.declared.ops.ControlFlow.TheVariants.{Continue, Break}
use Rattle.sheet_line.specs.declared.Count.{Count}
use Rattle.sheet_line.specs.Runs.{node_of, back_step, on_back, is_rest, member_step, on_count, members_from, line_field}
use Rattle.sheet_line.specs.Answers.{before}

-- ---- what a field is to a condition, by the number of its kind

abbrev pub node_by : ℕ → Node
node_by k =
    pick
    (ltb k 17)
    (pick (eqb k 3) Asks Other)
    (pick (ltb k 23) Comparison (pick (eqb k 27) (Joined And) (pick (eqb k 28) (Joined Or) Other)))

all_nodes : (v : ℕ) → each (λ k. node_of (field_of k v)) 0 29 ≡ each node_by 0 29
unfolding each field_of shapes pick
all_nodes v = refl

no_node : (v k : ℕ) → 29 ≤ k → node_of (field_of k v) ≡ node_by k
unfolding pick
no_node v k h =
    rw (
      ← no_field k v h,
      le-ltb k 17 (omega (arith, h)),
      le-ltb k 23 (omega (arith, h)),
      ne_eqb k 27 (λ e. omega (arith, e, h)),
      ne_eqb k 28 (λ e. omega (arith, e, h)),
    )
    refl

pub node_told : (k v : ℕ) → node_of (field_of k v) ≡ node_by k
node_told k v = by_less k 29 (λ h. each_at (λ j. node_of (field_of j v)) node_by 29 (all_nodes v) k h) (no_node v k)

-- ---- numbers rise by one at most

abbrev FewBack : ℕ → ControlFlow Bool ℕ → Type 0
FewBack k (Continue j) = j ≤ k
FewBack k (Break t) = Unit {0}

few_back : (n : Node) (k : ℕ) (w : Joining) → FewBack (k + 1) (back_step n k w)
few_back Comparison k w = omega arith
few_back (Joined u) k w =
    either_part (FewBack (k + 1)) (eqb k 0) _ _ (λ e. tt) (λ e. either_part (FewBack (k + 1)) (eqb k 1) _ _ (λ e. tt) (λ e. omega arith))
few_back Asks k w = tt
few_back Other k w = omega arith

abbrev FewMore : ℕ → Option Count → Type 0
FewMore k (Some c) = c.more ≤ k
FewMore k None = Unit {0}

few_more : (n : Node) (m k : ℕ) (w : Joining) → FewMore (m + 1) (member_step n m k w)
few_more Comparison m k w = either_part (FewMore (m + 1)) (eqb m 0) _ _ (λ e. tt) (λ e. omega arith)
few_more (Joined u) m k w =
    either_part (FewMore (m + 1)) (eqb m 0) _ _ (λ e. either_part (FewMore (m + 1)) (same_word w u) _ _ (λ e. omega arith) (λ e. tt)) (λ e. omega arith)
few_more Asks m k w = omega arith
few_more Other m k w = omega arith

module _ (ws : List ℕ) (w : Joining) where
  -- ---- back

  pub record Gone (at k i : ℕ) : Type 0 where
    pub same : is_rest w k (before i ws) ≡ is_rest w 0 (before at ws)
    pub few : k + i ≤ at

  back_one : (i k : ℕ) → 0 < i
      → is_rest w k (before i ws) ≡ on_back (back_step (node_of (field_in (get_or ws (i - 1) 0))) k w) (λ j. is_rest w j (before (i - 1) ws))
  unfolding is_rest before
  back_one zero k h = absurd (omega arith)
  back_one (suc i) k h = let less : suc i - 1 ≡ i = omega arith in rw less refl

  module _ (at k i : ℕ) (p : Gone at k i) (h : 0 < i) (r : ControlFlow Bool ℕ) (e : r ≡ back_step (node_of (field_in (get_or ws (i - 1) 0))) k w) where
    ahead : on_back r (λ j. is_rest w j (before (i - 1) ws)) ≡ is_rest w 0 (before at ws)
    ahead = ap (λ x. on_back x (λ j. is_rest w j (before (i - 1) ws))) e ∙ sym (back_one i k h) ∙ p.same

    pub gone_more : (j : ℕ) → r ≡ Continue j → Gone at j (i - 1)
    gone_more j g =
        let few : j ≤ k + 1 = subst (FewBack (k + 1)) (sym e ∙ g) (few_back (node_of (field_in (get_or ws (i - 1) 0))) k w) in
        record { same = sym (ap (λ x. on_back x (λ j. is_rest w j (before (i - 1) ws))) g) ∙ ahead; few = omega (arith, few, p.few) }

    pub gone_told : (t : Bool) → r ≡ Break t → t ≡ is_rest w 0 (before at ws)
    gone_told t g = sym (ap (λ x. on_back x (λ j. is_rest w j (before (i - 1) ws))) g) ∙ ahead

  pub gone_over : (at k i : ℕ) → Gone at k i → i ≤ 0 → false ≡ is_rest w 0 (before at ws)
  unfolding is_rest before
  gone_over at k zero p h = p.same
  gone_over at k (suc i) p h = absurd (omega arith)

  -- ---- over

  pub record Over (at m k i : ℕ) : Type 0 where
    pub same : members_from w m k (fields_at i ws) ≡ members_from w 1 2 (fields_at at ws)
    pub few : m ≤ i

  module _ (at m k i : ℕ) (p : Over at m k i) (h : i < length ws) (r : Option Count) (e : r ≡ member_step (node_of (field_in (get_or ws i 0))) m k w) where
    further : on_count k r (λ m n. members_from w m n (fields_at (i + 1) ws)) ≡ members_from w 1 2 (fields_at at ws)
    unfolding members_from
    further =
        ap (λ x. on_count k x (λ m n. members_from w m n (fields_at (i + 1) ws))) e
        ∙ sym (ap (λ l. members_from w m k (map field_in l)) (drop_more ws i 0 h))
        ∙ p.same

    pub over_more : (c : Count) → r ≡ Some c → Over at c.more c.members (i + 1)
    over_more c g =
        let few : c.more ≤ m + 1 = subst (FewMore (m + 1)) (sym e ∙ g) (few_more (node_of (field_in (get_or ws i 0))) m k w) in
        record { same = sym (ap (λ x. on_count k x (λ m n. members_from w m n (fields_at (i + 1) ws))) g) ∙ further; few = omega (arith, few, p.few) }

    pub over_done : r ≡ None → k ≡ members_from w 1 2 (fields_at at ws)
    over_done g = sym (ap (λ x. on_count k x (λ m n. members_from w m n (fields_at (i + 1) ws))) g) ∙ further

  pub over_ended : (at m k i : ℕ) → Over at m k i → length ws ≤ i → k ≡ members_from w 1 2 (fields_at at ws)
  unfolding members_from
  over_ended at m k i p h = sym (ap (λ l. members_from w m k (map field_in l)) (drop_of_length-le ws h)) ∙ p.same

-- ---- what is shown of the field at a place, n being what it is to a condition

module _ (ws : List ℕ) (at : ℕ) (n : Node) (e : n ≡ node_of (field_in (get_or ws at 0))) where
  abbrev here : Field
  here = field_in (get_or ws at 0)

  module _ (u : Joining) (g : n ≡ Joined u) where
    pub shown_rest : true ≡ is_rest u 0 (before at ws) → [] ≡ line_field (before at ws) here (fields_at (at + 1) ws)
    unfolding pick
    shown_rest t = rw (← e, g, ← t) refl

    pub shown_run : (k x : ℕ) → false ≡ is_rest u 0 (before at ws) → k ≡ members_from u 1 2 (fields_at (at + 1) ws) → k < 4294967296 → x ≡ field_word (Run u k)
        → field_in x ∷ [] ≡ line_field (before at ws) here (fields_at (at + 1) ws)
    unfolding pick
    shown_run k x t counted small packed = rw (← e, g, ← t, ← counted, packed) (ap (λ r. r ∷ []) (field_in_law (Run u k) small))
