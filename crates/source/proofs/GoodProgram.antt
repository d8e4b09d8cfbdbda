-- What holds of the program read so far, whatever statements are read, and so of the sheet that it gives.
use Prim.Native.Nat.{ℕ, suc, ◌+◌, ◌≤◌}
use mathlib.Core.Path.{◌≡◌, refl, ap, ◌∙◌, subst, subst⁻¹}
use mathlib.Core.Bool.{true, false}
use mathlib.Core.List.{List, [], ◌∷◌, ◌++◌, map}
use native.Mathlib.Omega.{arith}
use borrow.Author.Tests.{ltb-false, eqb-false}
use lib.Dec.{ltb, eqb}
use lib.ListN.{length}
use Rattle.base.specs.Choice.{pick}
use Rattle.base.proofs.Cases.{either_part, both_yes}
use Rattle.order.specs.Limits.{most_variables, most_temporaries, most_orders}
use Rattle.sheet.specs.Sheet.{Simple, Part, end, when, either, count, sheet, retarget_part}
use Rattle.sheet.specs.Orders.{simple_temporaries}
use Rattle.sheet.specs.Translation.{size}
use Rattle.sheet.specs.Condition.{most_comparisons}
use Rattle.sheet.specs.Within.{most_levels, PartFormed, Within}
use Rattle.source.specs.Limits.{most_labels}
use Rattle.source.specs.Tokens.{Lexeme, Lexed, lexed, refused as wrong, lexemes}
use Rattle.source.specs.Grammar.{Instruction, simple, if_then, if_else, if_start}
use Rattle.source.specs.Grammar.{Form, beginning, declaration, ending, labels, instruction, finish, finish_else, no_form, form}
use Rattle.source.specs.Program.{Stage, nothing, declarations, instructions, Spot, before, next, behind, Label, label, Jump, jump}
use Rattle.source.specs.Program.{Group, first, second, Program, nothing_read, append, count_outside, next_number, orders_outside, orders_so_far}
use Rattle.source.specs.Program.{Outcome, refused, further, given, known_simple, known_condition, known, looked_up, names_in, can_declare, declaring, declare}
use Rattle.source.specs.Program.{is_label, labels_set, can_set, moved, arrived, put_off, taken_up, simple_jumps, jumps_in, all, setting, alone, placed, groups_of, list_of, placing}
use Rattle.source.specs.Program.{level, temporaries_in, comparisons_in, orders_with_stop, labelling, instructing, regrouped, finishing, alternating}
use Rattle.source.specs.Program.{Unset, unset, all_set, first_unset, number_of, sheet_of, finished, closed, opened, in_order, on_lexed, statement}
use Rattle.source.proofs.Each.{Each, each_append, each_map}
use Rattle.source.proofs.SmallCells.{Small}
use Rattle.source.proofs.FineTokens.{LexedFine, lexemes_fine, looked_up_law}
use Rattle.source.proofs.BoundedForms.{SimpleBounded, InstructionBounded, FormBounded, form_bounded}
use Rattle.source.proofs.Parts.{count_append, size_append, count_same, size_same, depth_same, temporaries_same}
use Rattle.sheet.proofs.Lengths.{translation_length}
use Rattle.source.proofs.KnownWords.{Named, named_behind, named_all, known_condition_law, known_simple_law, SpotLeads, LabelLeads, part_formed}
use Rattle.source.proofs.GoodParts.{PartGood, ConditionGood, GroupsGood, good_end, good_append, good_alone, good_when, good_either, good_more, groups_more}

-- ---- what holds

-- declarations come first
abbrev Early : Stage → List Group → Part → Type 0
Early nothing gs x = (gs ≡ []) × (x ≡ end)
Early declarations gs x = (gs ≡ []) × (x ≡ end)
Early instructions gs x = Unit {0}

pub record Good (p : Program) : Type 0 where
  few_names : length p.names ≤ most_variables
  round : GroupsGood (length p.names) p.jumps p.groups
  inside : PartGood (length p.names) p.jumps (length p.groups) p.here
  few_orders : suc (orders_so_far p) ≤ most_orders
  lead : Each (LabelLeads (next_number p)) p.set
  early : Early p.stage p.groups p.here

pub nothing_good : Good nothing_read
unfolding orders_outside size
nothing_good =
    record {
      few_names = omega arith;
      round = tt;
      inside = good_end (omega arith);
      few_orders = omega arith;
      lead = tt;
      early = (refl, refl);
    }

abbrev pub OutcomeGood : Outcome → Type 0
OutcomeGood (refused n k) = Unit {0}
OutcomeGood (further p) = Good p
OutcomeGood (given s) = Within s

-- ---- labels

set_lead : (n : ℕ) (ls : List ℕ) → Each (LabelLeads n) (labels_set ls)
set_lead n [] = tt
set_lead n (l ∷ ls) = (tt, set_lead n ls)

module _ (n m : ℕ) (f : Spot → Spot) (h : (s : Spot) → SpotLeads n s → SpotLeads m (f s)) where
  moved_lead : (ls : List Label) → Each (LabelLeads n) ls → Each (LabelLeads m) (moved f ls)
  unfolding moved
  moved_lead [] e = tt
  moved_lead (label l s ∷ ls) e = (h s e.0, moved_lead ls e.1)

module _ (n m : ℕ) (more : n ≤ m) where
  arrived_leads : 1 ≤ n → (s : Spot) → SpotLeads n s → SpotLeads m (arrived n s)
  arrived_leads some (before s) h = (h.0, omega arith)
  arrived_leads some next h = (some, more)
  arrived_leads some (behind g) h = tt

  put_off_leads : (g : ℕ) (s : Spot) → SpotLeads n s → SpotLeads m (put_off g s)
  put_off_leads g (before s) h = (h.0, omega arith)
  put_off_leads g next h = tt
  put_off_leads g (behind k) h = tt

  taken_up_leads : (g : ℕ) (s : Spot) → SpotLeads n s → SpotLeads m (taken_up g s)
  taken_up_leads g (before s) h = (h.0, omega arith)
  taken_up_leads g next h = tt
  taken_up_leads g (behind k) h = either_part (SpotLeads m) (eqb k g) next (behind k) (λ y. tt) (λ n. tt)

-- ---- declarations

module _ (p : Program) (g : Good p) where
  opened_good : (p.groups ≡ []) × (p.here ≡ end) → Good (opened p)
  opened_good none =
      record {
        few_names = g.few_names;
        round = g.round;
        inside = g.inside;
        few_orders = g.few_orders;
        lead = g.lead;
        early = none;
      }

  declaring_good : (p.groups ≡ []) × (p.here ≡ end) → (ns : List (List ℕ)) → length (p.names ++ ns) ≤ most_variables → Good (declaring p ns)
  unfolding orders_outside size
  declaring_good none ns few =
      let v = length (p.names ++ ns) in
      record {
        few_names = few;
        round = subst⁻¹ (GroupsGood v p.jumps) none.0 tt;
        inside = rw (none.0, none.1) (good_end (omega arith));
        few_orders = rw (none.0, none.1) (omega arith);
        lead = g.lead;
        early = none;
      }

  declare_good : (p.groups ≡ []) × (p.here ≡ end) → (k : ℕ) (ns : List (List ℕ)) → OutcomeGood (declare p k ns)
  declare_good none k ns =
      either_part OutcomeGood (can_declare p.names ns) _ _
      (λ y. either_part OutcomeGood (ltb most_variables (length (p.names ++ ns))) _ _
      (λ y. tt)
      (λ n. declaring_good none ns (ltb-false most_variables (length (p.names ++ ns)) n)))
      (λ n. tt)

  -- ---- labels of a statement

  setting_good : (ls : List ℕ) → Good (setting p ls)
  setting_good ls =
      record {
        few_names = g.few_names;
        round = g.round;
        inside = g.inside;
        few_orders = g.few_orders;
        lead = each_append (LabelLeads (next_number p)) p.set _ g.lead (set_lead (next_number p) ls);
        early = tt;
      }

  labelling_good : (k : ℕ) (ls : List ℕ) → OutcomeGood (labelling p k ls)
  labelling_good k ls =
      either_part OutcomeGood (can_set p.set ls) _ _
      (λ y. either_part OutcomeGood (ltb most_labels (length (setting p ls).set)) _ _ (λ y. tt) (λ n. setting_good ls))
      (λ n. tt)

-- ---- instructions

each_front : {A : Type 0} (P : A → Type 0) (l m : List A) → Each P (l ++ m) → Each P l
each_front P [] m h = tt
each_front P (a ∷ l) m h = (h.0, each_front P l m h.1)

each_rest : {A : Type 0} (P : A → Type 0) (l m : List A) → Each P (l ++ m) → Each P m
each_rest P [] m h = h
each_rest P (a ∷ l) m h = each_rest P l m h.1

module _ (v : ℕ) (js : List Jump) (gs : List Group) (x : Part) (round : GroupsGood v js gs) (inside : PartGood v js (length gs) x) where
  -- an instruction that a statement brings, alone or as a part of an IF
  lone : (n : ℕ) (u : Simple) → SimpleBounded v u → known_simple u ≡ true → Each (Named js) (simple_jumps u) → simple_temporaries u ≤ most_temporaries
      → n ≤ most_levels → PartGood v js n (alone u)
  lone n u h k names few levels = good_alone (known_simple_law v js u h k names) few levels

  abbrev Placed : ℕ → Instruction → Type 0
  Placed k i =
      GroupsGood v js (groups_of (placed k gs x i))
      × PartGood v js (length (groups_of (placed k gs x i))) (list_of (placed k gs x i))
      × (suc (count_outside gs + count x)
      ≤ suc (count_outside (groups_of (placed k gs x i)) + count (list_of (placed k gs x i))))

  placed_good : (k : ℕ) (i : Instruction) → InstructionBounded v i → known i ≡ true → Each (Named js) (jumps_in i)
      → temporaries_in i ≤ most_temporaries → comparisons_in i ≤ most_comparisons → level gs i ≤ most_levels → Placed k i
  unfolding jumps_in count count_outside
  placed_good k (simple u) h y names few short levels =
      let shallow = inside.shallow in
      let more = count_append x (alone u) in
      (round, good_append inside (lone (length gs) u h y names few (omega arith)), omega arith)
  placed_good k (if_then c u) h y names few short levels =
      let both = both_yes (known_condition c) (known_simple u) y in
      let asked : ConditionGood v c = record { formed = (known_condition_law v c h.0.0 both.0, h.0.1, short); few = omega arith } in
      let part = lone (suc (length gs)) u h.1 both.1 names (omega arith) levels in
      let more = count_append x (when c (alone u) end) in
      (round, good_append inside (good_when asked (omega arith) part), omega arith)
  placed_good k (if_else c u w) h y names few short levels =
      let all = both_yes (known_condition c) (pick (known_simple u) (known_simple w) false) y in
      let both = both_yes (known_simple u) (known_simple w) all.1 in
      let asked : ConditionGood v c = record { formed = (known_condition_law v c h.0.0 all.0, h.0.1, short); few = omega arith } in
      let one = lone (suc (length gs)) u h.1 both.0 (each_front (Named js) (simple_jumps u) (simple_jumps w) names) (omega arith) levels in
      let two = lone (suc (length gs)) w h.2 both.1 (each_rest (Named js) (simple_jumps u) (simple_jumps w) names) (omega arith) levels in
      let more = count_append x (either c (alone u) (alone w) end) in
      (round, good_append inside (good_either asked (omega arith) one (omega arith) two), omega arith)
  placed_good k (if_start c) h y names few short levels =
      let asked : ConditionGood v c = record { formed = (known_condition_law v c h.0 y, h.1, short); few = few } in
      ((inside, asked, round), good_end levels, omega arith)

module _ (p : Program) (g : Good p) where
  placing_good : (k : ℕ) (i : Instruction) → InstructionBounded (length p.names) i → known i ≡ true → temporaries_in i ≤ most_temporaries
      → comparisons_in i ≤ most_comparisons → level p.groups i ≤ most_levels → suc (orders_so_far (placing k i p)) ≤ most_orders → Good (placing k i p)
  placing_good k i h y few short levels orders =
      let v = length p.names in
      let js = p.jumps in
      let ms = map (jump k) (jumps_in i) in
      let names = each_map (Named ms) (Named (js ++ ms)) (named_behind js ms) (jumps_in i) (named_all k (jumps_in i)) in
      let all = placed_good v (js ++ ms) p.groups p.here (groups_more v js ms p.groups g.round) (good_more v js ms g.inside) k i h y names few short levels in
      record {
        few_names = g.few_names;
        round = all.0;
        inside = all.1;
        few_orders = orders;
        lead =
            moved_lead (next_number p) (next_number (placing k i p)) (arrived (next_number p))
            (arrived_leads (next_number p) (next_number (placing k i p)) all.2 (omega arith))
            p.set
            g.lead;
        early = tt;
      }

module _ (p : Program) (g : Good p) where
  instructing_good : (k : ℕ) (ls : List ℕ) (i : Instruction) → InstructionBounded (length p.names) i → OutcomeGood (instructing p k ls i)
  instructing_good k ls i h =
      let q = setting p ls in
      either_part OutcomeGood (known i) _ _
      (λ known. either_part OutcomeGood (all is_label (jumps_in i)) _ _
      (λ y. either_part OutcomeGood (can_set p.set ls) _ _
      (λ y. either_part OutcomeGood (ltb most_labels (length q.set)) _ _
      (λ y. tt)
      (λ n. either_part OutcomeGood (ltb most_temporaries (temporaries_in i)) _ _
      (λ y. tt)
      (λ few. either_part OutcomeGood (ltb most_comparisons (comparisons_in i)) _ _
      (λ y. tt)
      (λ short. either_part OutcomeGood (ltb most_levels (level p.groups i)) _ _
      (λ y. tt)
      (λ levels. either_part OutcomeGood (ltb most_orders (orders_with_stop (placing k i q))) _ _
      (λ y. tt)
      (λ within. let orders = ltb-false most_orders (orders_with_stop (placing k i q)) within in placing_good q (setting_good p g ls) k i h known
      (ltb-false most_temporaries (temporaries_in i) few)
      (ltb-false most_comparisons (comparisons_in i) short)
      (ltb-false most_levels (level p.groups i) levels)
      (omega (arith, orders))))))))
      (λ n. tt))
      (λ n. tt))
      (λ n. tt)

-- ---- groups closed

-- the same, where the open groups are gs
record GoodRound (p : Program) (gs : List Group) : Type 0 where
  round : GroupsGood (length p.names) p.jumps gs
  inside : PartGood (length p.names) p.jumps (length gs) p.here
  few_orders : suc (orders_outside (length p.names) gs + size (length p.names) p.here) ≤ most_orders
  lead : Each (LabelLeads (suc (count_outside gs + count p.here))) p.set

open_early : (s : Stage) (gs hs ks : List Group) (x y : Part) (h : Group) → Early s gs x → gs ≡ h ∷ hs → Early s ks y
open_early nothing gs hs ks x y h none e = let none_open = none.0 in let z : ◌≡◌ {A = ℕ} 0 1 = cc in absurd (omega arith)
open_early declarations gs hs ks x y h none e = let none_open = none.0 in let z : ◌≡◌ {A = ℕ} 0 1 = cc in absurd (omega arith)
open_early instructions gs hs ks x y h none e = tt

some : (x : Part) → eqb (count x) 0 ≡ false → 1 ≤ count x
some x n = let no = eqb-false (count x) 0 n in omega arith

module _ (p : Program) (g : Good p) where
  good_round : (gs : List Group) → p.groups ≡ gs → GoodRound p gs
  good_round gs e = subst (GoodRound p) e (record { round = g.round; inside = g.inside; few_orders = g.few_orders; lead = g.lead })

  module _ (h : Group) (hs : List Group) (e : p.groups ≡ h ∷ hs) where
    regrouped_good : (f : Spot → Spot) (gs : List Group) (x : Part) → GroupsGood (length p.names) p.jumps gs
        → PartGood (length p.names) p.jumps (length gs) x
        → suc (orders_outside (length p.names) gs + size (length p.names) x) ≤ most_orders
        → Each (LabelLeads (suc (count_outside gs + count x))) (moved f p.set)
        → Good (regrouped p f gs x)
    regrouped_good f gs x round inside orders lead =
        record {
          few_names = g.few_names;
          round = round;
          inside = inside;
          few_orders = orders;
          lead = lead;
          early = open_early p.stage p.groups hs gs p.here x h g.early e;
        }

  finishing_good : (k : ℕ) (gs : List Group) → p.groups ≡ gs → OutcomeGood (finishing p k gs)
  unfolding orders_outside count_outside size count
  finishing_good k [] e = tt
  finishing_good k (first j x c ∷ gs) e =
      let v = length p.names in
      let y = when c p.here end in
      let o = good_round (first j x c ∷ gs) e in
      let orders = o.few_orders in
      let sizes = size_append v x y in
      let counts = count_append x y in
      either_part OutcomeGood (eqb (count p.here) 0) _ _
      (λ y. tt)
      (λ n. regrouped_good (first j x c) gs e (taken_up (length gs)) gs (append x y) o.round.2
      (good_append o.round.0 (good_when o.round.1 (some p.here n) o.inside))
      (omega arith)
      (moved_lead _ _ (taken_up (length gs)) (taken_up_leads _ _ (omega arith) (length gs)) p.set o.lead))
  finishing_good k (second j x c w ∷ gs) e =
      let v = length p.names in
      let y = either c w p.here end in
      let o = good_round (second j x c w ∷ gs) e in
      let orders = o.few_orders in
      let sizes = size_append v x y in
      let counts = count_append x y in
      either_part OutcomeGood (eqb (count p.here) 0) _ _
      (λ y. tt)
      (λ n. regrouped_good (second j x c w) gs e (taken_up (length gs)) gs (append x y) o.round.4
      (good_append o.round.0 (good_either o.round.1 o.round.2 o.round.3 (some p.here n) o.inside))
      (omega arith)
      (moved_lead _ _ (taken_up (length gs)) (taken_up_leads _ _ (omega arith) (length gs)) p.set o.lead))

  alternating_good : (k : ℕ) (gs : List Group) → p.groups ≡ gs → OutcomeGood (alternating p k gs)
  unfolding count_outside count
  alternating_good k [] e = tt
  alternating_good k (first j x c ∷ gs) e =
      let v = length p.names in
      let o = good_round (first j x c ∷ gs) e in
      let shallow = o.inside.shallow in
      let q = regrouped p (put_off (length gs)) (second k x c p.here ∷ gs) end in
      either_part OutcomeGood (eqb (count p.here) 0) _ _
      (λ y. tt)
      (λ n. either_part OutcomeGood (ltb most_orders (orders_with_stop q)) _ _
      (λ y. tt)
      (λ few. let orders = ltb-false most_orders (orders_with_stop q) few in regrouped_good (first j x c) gs e (put_off (length gs)) (second k x c p.here ∷ gs) end
      (o.round.0, o.round.1, some p.here n, o.inside, o.round.2)
      (good_end (omega arith))
      (omega (arith, orders))
      (moved_lead _ _ (put_off (length gs)) (put_off_leads _ _ (omega arith) (length gs)) p.set o.lead)))
  alternating_good k (second j x c y ∷ gs) e = tt

  -- ---- the sheet

  given_good : p.groups ≡ [] → first_unset p.set p.jumps ≡ all_set → Within (sheet_of p)
  unfolding count_outside orders_outside
  given_good e all =
      let v = length p.names in
      let x = p.here in
      let n = count x in
      let o = good_round [] e in
      let ends : next_number p ≡ suc n = ap (λ gs. suc (count_outside gs + n)) e ∙ omega arith in
      let to = number_of (suc n) p.set in
      let lead : Each (LabelLeads (suc n)) p.set = subst (λ m. Each (LabelLeads m) p.set) ends g.lead in
      let orders = o.few_orders in
      let shallow = o.inside.shallow in
      let sizes = translation_length v (retarget_part to x) in
      let same = size_same to v x in
      subst⁻¹ (λ m. Within (sheet v (retarget_part (number_of m p.set) x))) ends
      (record {
        formed = subst⁻¹ (λ m. PartFormed v m (retarget_part to x)) (count_same to x) (part_formed v n p.jumps p.set lead all x o.inside.sound);
        few_levels = subst⁻¹ (λ m. m ≤ most_levels) (depth_same to x) (omega arith);
        few_variables = g.few_names;
        few_temporaries = subst⁻¹ (λ t. t ≤ most_temporaries) (temporaries_same to x) o.inside.few;
        few_orders = omega arith;
      })

  finished_good : p.groups ≡ [] → (u : Unset) → first_unset p.set p.jumps ≡ u → OutcomeGood (finished p u)
  finished_good none (unset k) e = tt
  finished_good none all_set e = given_good none e

  still_open : (h : Group) (gs : List Group) (o : Outcome) → OutcomeGood (closed (h ∷ gs) o)
  unfolding closed
  still_open h [] o = tt
  still_open h (i ∷ gs) o = still_open i gs o

  concluding_good : (gs : List Group) → p.groups ≡ gs → OutcomeGood (closed gs (finished p (first_unset p.set p.jumps)))
  unfolding closed
  concluding_good [] e = finished_good e (first_unset p.set p.jumps) refl
  concluding_good (h ∷ gs) e = still_open h gs (finished p (first_unset p.set p.jumps))

  -- ---- a statement

  order_good : (q : Stage) (k : ℕ) (xs : List Lexeme) (f : Form) → Early q p.groups p.here → FormBounded (length p.names) f
      → OutcomeGood (in_order p q k xs f)
  order_good nothing k xs beginning early h = opened_good p g early
  order_good nothing k xs declaration early h = tt
  order_good nothing k xs ending early h = tt
  order_good nothing k xs (labels ls) early h = tt
  order_good nothing k xs (instruction ls i) early h = tt
  order_good nothing k xs finish early h = tt
  order_good nothing k xs finish_else early h = tt
  order_good nothing k xs no_form early h = tt
  order_good declarations k xs beginning early h = tt
  order_good declarations k xs declaration early h = declare_good p g early k (names_in xs)
  order_good declarations k xs ending early h = concluding_good p.groups refl
  order_good declarations k xs (labels ls) early h = labelling_good p g k ls
  order_good declarations k xs (instruction ls i) early h = instructing_good p g k ls i h
  order_good declarations k xs finish early h = finishing_good k p.groups refl
  order_good declarations k xs finish_else early h = alternating_good k p.groups refl
  order_good declarations k xs no_form early h = tt
  order_good instructions k xs beginning early h = tt
  order_good instructions k xs declaration early h = tt
  order_good instructions k xs ending early h = concluding_good p.groups refl
  order_good instructions k xs (labels ls) early h = labelling_good p g k ls
  order_good instructions k xs (instruction ls i) early h = instructing_good p g k ls i h
  order_good instructions k xs finish early h = finishing_good k p.groups refl
  order_good instructions k xs finish_else early h = alternating_good k p.groups refl
  order_good instructions k xs no_form early h = tt

  lexed_good : (k : ℕ) (l : Lexed) → LexedFine (length p.names) l → OutcomeGood (on_lexed p k l)
  lexed_good k (wrong n) h = tt
  lexed_good k (lexed xs) h =
      order_good p.stage k xs (form (map (looked_up p.names) xs)) g.early
      (form_bounded (length p.names) (map (looked_up p.names) xs) (looked_up_law p.names xs h))

  pub statement_good : (k : ℕ) (cells : List ℕ) → Each Small cells → OutcomeGood (statement p k cells)
  unfolding statement
  statement_good k cells h = lexed_good k (lexemes cells) (lexemes_fine (length p.names) cells h)
