-- The instructions of a program: where all names are known their words are variables, and where all labels that jumps name are
-- set they lead to instructions.
use Prim.Native.Nat.{ℕ, suc, ◌≤◌}
use mathlib.Core.Path.{◌≡◌, refl}
use mathlib.Core.Bool.{Bool, true, false, false≢true}
use mathlib.Core.List.{List, [], ◌∷◌, ◌++◌, map}
use native.Mathlib.Omega.{arith}
use borrow.Author.Tests.{leb-true}
use lib.Dec.{eqb}
use Rattle.base.specs.Choice.{pick}
use Rattle.base.proofs.Cases.{both_yes, chosen_first}
use Rattle.sheet.specs.Sheet.{Expression, word, constant, negated, inverted, binary, Simple, set, send, goto}
use Rattle.sheet.specs.Sheet.{Condition, compares, joins, Part, end, plain, when, either, count, retarget, retarget_part}
use Rattle.sheet.specs.Formed.{IsVariable, Expressed, Leads, SimpleFormed}
use Rattle.sheet.specs.Condition.{AllExpressed, ConditionFormed}
use Rattle.sheet.specs.Within.{PartFormed}
use Rattle.source.specs.Program.{is_known, all_known, known_simple, known_condition, Spot, before, next, behind, Label, label}
use Rattle.source.specs.Program.{Jump, jump, append, is_set, simple_jumps, unset, all_set, first_unset, number_at, number_of}
use Rattle.source.proofs.Each.{Each, each_map}
use Rattle.source.proofs.BoundedForms.{Bounded, SimpleBounded, ConditionBounded}
use Rattle.source.proofs.Parts.{count_same}

-- ---- jumps whose labels are set

-- wherever the labels of all these jumps are set, this one is
abbrev pub Named : List Jump → ℕ → Type 0
Named js l = (ls : List Label) → first_unset ls js ≡ all_set → is_set ls l ≡ true

first_set : (ls : List Label) (k l : ℕ) (js : List Jump) → first_unset ls (jump k l ∷ js) ≡ all_set
    → (is_set ls l ≡ true) × (first_unset ls js ≡ all_set)
unfolding first_unset
first_set ls k l js e =
    chosen_first (is_set ls l) (first_unset ls js) (unset k) all_set
    (λ q. let z : ◌≡◌ {A = ℕ} 0 1 = cc in absurd (omega arith))
    e

parted : (ls : List Label) (js ms : List Jump) → first_unset ls (js ++ ms) ≡ all_set
    → (first_unset ls js ≡ all_set) × (first_unset ls ms ≡ all_set)
unfolding first_unset pick
parted ls [] ms e = (refl, e)
parted ls (jump k l ∷ js) ms e =
    let both = first_set ls k l (js ++ ms) e in
    let parts = parted ls js ms both.1 in
    (rw both.0 parts.0, parts.1)

module _ (js ms : List Jump) where
  pub named_before : (l : ℕ) → Named js l → Named (js ++ ms) l
  named_before l h ls e = h ls (parted ls js ms e).0

  pub named_behind : (l : ℕ) → Named ms l → Named (js ++ ms) l
  named_behind l h ls e = h ls (parted ls js ms e).1

pub named_all : (k : ℕ) (ns : List ℕ) → Each (Named (map (jump k) ns)) ns
named_all k [] = tt
named_all k (n ∷ ns) =
    let js = map (jump k) ns in (
      λ ls e. (first_set ls k n js e).0,
      each_map (Named js) (Named (jump k n ∷ js)) (λ l h ls e. h ls (first_set ls k n js e).1) ns (named_all k ns),
    )

-- ---- words

module _ (v : ℕ) where
  known_expression : (e : Expression) → Bounded v e → all_known e ≡ true → Expressed v e
  unfolding all_known Expressed
  known_expression (word w) h k = (leb-true 2 w k, h)
  known_expression (constant n) h k = h
  known_expression (negated e) h k = known_expression e h k
  known_expression (inverted e) h k = known_expression e h k
  known_expression (binary o l r) h k =
      let both = both_yes (all_known l) (all_known r) k in
      (known_expression l h.0 both.0, known_expression r h.1 both.1)

  pub known_condition_law : (c : Condition) → ConditionBounded v c → known_condition c ≡ true → AllExpressed v c
  unfolding known_condition AllExpressed
  known_condition_law (compares r a b) h k =
      let both = both_yes (all_known a) (all_known b) k in
      (known_expression a h.0 both.0, known_expression b h.1 both.1)
  known_condition_law (joins w a b) h k =
      let both = both_yes (known_condition a) (known_condition b) k in
      (known_condition_law a h.0 both.0, known_condition_law b h.1 both.1)

  module _ (js : List Jump) where
    -- words are variables, and each jump is one of these
    abbrev pub SimpleSound : Simple → Type 0
    SimpleSound (set w e) = IsVariable v w × Expressed v e
    SimpleSound (send e) = Expressed v e
    SimpleSound (goto l) = Named js l

    pub known_simple_law : (u : Simple) → SimpleBounded v u → known_simple u ≡ true → Each (Named js) (simple_jumps u) → SimpleSound u
    known_simple_law (set w e) h k n =
        let both = both_yes (is_known w) (all_known e) k in
        ((leb-true 2 w both.0, h.0), known_expression e h.1 both.1)
    known_simple_law (send e) h k n = known_expression e h k
    known_simple_law (goto l) h k n = n.0

    abbrev pub PartSound : Part → Type 0
    PartSound end = Unit {0}
    PartSound (plain u l) = SimpleSound u × PartSound l
    PartSound (when c x l) = ConditionFormed v c × (1 ≤ count x) × PartSound x × PartSound l
    PartSound (either c x y l) = ConditionFormed v c × (1 ≤ count x) × (1 ≤ count y) × PartSound x × PartSound y × PartSound l

    pub sound_append : (x y : Part) → PartSound x → PartSound y → PartSound (append x y)
    unfolding append
    sound_append end y h k = k
    sound_append (plain u l) y h k = (h.0, sound_append l y h.1 k)
    sound_append (when c x l) y h k = (h.0, h.1, h.2, sound_append l y h.3 k)
    sound_append (either c w x l) y h k = (h.0, h.1, h.2, h.3, h.4, sound_append l y h.5 k)

  -- jumps that are read later do not matter
  module _ (js ms : List Jump) where
    simple_more : (u : Simple) → SimpleSound js u → SimpleSound (js ++ ms) u
    simple_more (set w e) h = h
    simple_more (send e) h = h
    simple_more (goto l) h = named_before js ms l h

    pub sound_more : (x : Part) → PartSound js x → PartSound (js ++ ms) x
    sound_more end h = tt
    sound_more (plain u l) h = (simple_more u h.0, sound_more l h.1)
    sound_more (when c x l) h = (h.0, h.1, sound_more x h.2, sound_more l h.3)
    sound_more (either c x y l) h = (h.0, h.1, h.2, sound_more x h.3, sound_more y h.4, sound_more l h.5)

-- ---- labels

-- a label before an instruction stands before one with a number up to n
abbrev pub SpotLeads : ℕ → Spot → Type 0
SpotLeads n (before s) = (1 ≤ s) × (s ≤ n)
SpotLeads n next = Unit {0}
SpotLeads n (behind g) = Unit {0}

abbrev pub LabelLeads : ℕ → Label → Type 0
LabelLeads n (label l s) = SpotLeads n s

spot_leads : (n : ℕ) (s : Spot) → SpotLeads (suc n) s → Leads n (number_at (suc n) s)
spot_leads n (before s) h = (h.0, omega arith)
spot_leads n next h = (omega arith, omega arith)
spot_leads n (behind g) h = (omega arith, omega arith)

either_leads : (t u : Bool) (n s m : ℕ) → pick t true u ≡ true → Leads n s → (u ≡ true → Leads n m) → Leads n (pick t s m)
unfolding pick
either_leads true u n s m k h others = h
either_leads false u n s m k h others = others k

module _ (v n : ℕ) where
  number_leads : (ls : List Label) → Each (LabelLeads (suc n)) ls → (l : ℕ) → is_set ls l ≡ true → Leads n (number_of (suc n) ls l)
  unfolding number_of is_set
  number_leads [] h l k = absurd (false≢true k)
  number_leads (label m s ∷ ls) h l k =
      either_leads (eqb m l) (is_set ls l) n _ _ k (spot_leads n s h.0) (number_leads ls h.1 l)

  module _ (js : List Jump) (ls : List Label) (lead : Each (LabelLeads (suc n)) ls) (All-set : first_unset ls js ≡ all_set) where
    simple_formed : (u : Simple) → SimpleSound v js u → SimpleFormed v n (retarget (number_of (suc n) ls) u)
    simple_formed (set w e) h = h
    simple_formed (send e) h = h
    simple_formed (goto l) h = number_leads ls lead l (h ls All-set)

    pub part_formed : (x : Part) → PartSound v js x → PartFormed v n (retarget_part (number_of (suc n) ls) x)
    unfolding retarget_part PartFormed
    part_formed end h = tt
    part_formed (plain u l) h = (simple_formed u h.0, part_formed l h.1)
    part_formed (when c x l) h =
        let same = count_same (number_of (suc n) ls) x in
        (h.0, omega arith, part_formed x h.2, part_formed l h.3)
    part_formed (either c x y l) h =
        let one = count_same (number_of (suc n) ls) x in
        let two = count_same (number_of (suc n) ls) y in
        (h.0, omega arith, omega arith, part_formed x h.3, part_formed y h.4, part_formed l h.5)
