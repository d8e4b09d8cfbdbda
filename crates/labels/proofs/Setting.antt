-- Labels set behind others.
use Prim.Native.Nat.{ℕ, ◌+◌, ◌-◌, ◌*◌, ◌/◌, ◌%◌, ◌<◌, ◌≤◌}
use mathlib.Core.Path.{◌≡◌, refl, sym, ap, ap₂, ◌∙◌}
use mathlib.Core.Bool.{Bool, true, false}
use mathlib.Core.List.{List, [], ◌∷◌, ◌++◌, append-nil, append_assoc}
use native.Mathlib.Omega.{arith}
use borrow.Author.Tests.{eq-eqb, ne_eqb, le-leb, lt-leb, lt-ltb, eqb-true, leb-true, ltb-true}
use lib.Dec.{ltb, leb, eqb}
use lib.ListN.{length, get_or, set}
use lib.Seq.{get_or-set_same, get_or-set_other}
use Rattle.std.proofs.Common.{is_some, Result, Ok, Err}
use Rattle.base.specs.Choice.{pick}
use Rattle.base.specs.Places.{each}
use Rattle.base.proofs.Cases.{by_test, by_equal, both_yes}
use Rattle.base.proofs.Places.{each_more, each_over, each_append, each_same, each_length}
use Rattle.source.specs.Limits.{greatest_label}
use Rattle.source.specs.Memory.{label_rows}
use Rattle.source.specs.Program.{next, Label, label, is_set, can_set, labels_set}
use Rattle.labels.specs.declared.Failure.{Failure}
use Rattle.labels.specs.declared.Failure.TheVariants.{Refused, Unfit}
use Rattle.labels.specs.Memory.{spot_numbers, instruction_numbers, label_in, labels_of, SoFar}
use Rattle.labels.specs.Answers.{found_of, labels, refusal, unfit, set_all, fit, set_of, SetsLabels}
use Rattle.labels.specs.Internal.{Room, SetsOne, SettingAll, SetsAll, Loop}
use Rattle.labels.proofs.Finding.{spot_next}

-- ---- one label

-- whether finding a label finds one
found_told : (n : ℕ) (ls : List Label) (l : ℕ) → is_some (found_of n ls l) ≡ is_set ls l
unfolding found_of pick
found_told n ls l = by_test (is_set ls l) (λ t. rw t refl) (λ t. rw t refl)

module _ (ms : List Label) (l : ℕ) (ls : List ℕ) where
  set_zero : l ≡ 0 → refusal 9 ≡ set_all ms (l ∷ ls)
  unfolding can_set pick
  set_zero e = rw (eq-eqb l 0 e) refl

  set_great : (l ≡ 0 → ⊥) → greatest_label < l → refusal 9 ≡ set_all ms (l ∷ ls)
  unfolding can_set pick
  set_great n h = rw (ne_eqb l 0 n, lt-leb l greatest_label h) refl

  module _ (n : l ≡ 0 → ⊥) (h : l ≤ greatest_label) where
    set_twice : is_set ms l ≡ true → refusal 9 ≡ set_all ms (l ∷ ls)
    unfolding can_set pick
    set_twice e = rw (ne_eqb l 0 n, le-leb l greatest_label h, e) refl

    set_turn : is_set ms l ≡ false → set_all (ms ++ label l next ∷ []) ls ≡ set_all ms (l ∷ ls)
    unfolding can_set pick
    set_turn e = rw (ne_eqb l 0 n, le-leb l greatest_label h, e, append_assoc ms (label l next ∷ []) (labels_set ls)) refl

-- the labels with one more behind them
module _ (ls : List ℕ) (n count l : ℕ) (few : n < instruction_numbers) (room : count < length ls) where
  abbrev entry : ℕ
  entry = l * spot_numbers + n % spot_numbers

  quotient : entry / spot_numbers ≡ l
  quotient = omega arith

  rest : entry % spot_numbers ≡ n
  rest = omega arith

  set_more : labels_of n (count + 1) (set ls count entry) ≡ labels_of n count ls ++ label l next ∷ []
  set_more =
      each_append (λ i. label_in n (get_or (set ls count entry) i 0)) count
      ∙ ap₂
      (λ xs x. xs ++ x ∷ [])
      (each_same _ _ 0 count (λ i from less. ap (label_in n) (get_or-set_other ls count i entry 0 (omega arith))))
      (ap (label_in n) (get_or-set_same ls count entry 0 room) ∙ ap₂ label quotient (spot_next n (entry % spot_numbers) rest))

  so_far_more : SoFar n count ls → SoFar n (count + 1) (set ls count entry)
  so_far_more so_far i h g =
      by_equal i count
      (λ e. let same = ap (λ j. get_or (set ls count entry) j 0) e ∙ get_or-set_same ls count entry 0 room in omega (arith, same, rest))
      (λ e. let same = get_or-set_other ls count i entry 0 (omega arith) in
      let k = so_far i (omega arith) (omega (arith, g, same)) in omega (arith, same))

module _ (l : List ℕ) (count n x : ℕ) where
  pub zero_set : x ≡ 0 → SetsOne l count n x (Err Refused) l
  zero_set e = record { kept = refl; in_rows = tt; told = λ room ls. set_zero (labels_of n count l) x ls e }

  pub great_set : (x ≡ 0 → ⊥) → greatest_label < x → SetsOne l count n x (Err Refused) l
  great_set e h = record { kept = refl; in_rows = tt; told = λ room ls. set_great (labels_of n count l) x ls e h }

  module _ (e : x ≡ 0 → ⊥) (h : x ≤ greatest_label) where
    pub twice_set : is_some (found_of n (labels_of n count l) x) ≡ true → SetsOne l count n x (Err Refused) l
    twice_set g = record { kept = refl; in_rows = tt; told = λ room ls. set_twice (labels_of n count l) x ls e h (sym (found_told n (labels_of n count l) x) ∙ g) }

    pub one_set : (after : List ℕ) → after ≡ set l count (x * spot_numbers + n % spot_numbers) → length after ≡ length l
        → is_some (found_of n (labels_of n count l) x) ≡ false → count < label_rows → SetsOne l count n x (Ok (count + 1)) after
    one_set after put kept g row = record {
      kept = kept;
      in_rows = (refl, omega arith);
      told = λ room.
          let inside : count < length l = omega (arith, room.whole, room.rows) in
          record {
            counted = refl;
            others = λ ls.
                rw (put, set_more l n count x room.few inside)
                (set_turn (labels_of n count l) x ls e h (sym (found_told n (labels_of n count l) x) ∙ g));
            so_far = λ s. rw put (so_far_more l n count x room.few inside s);
          };
    }

-- ---- the loop over a statement's labels

set_over : (ms : List Label) → labels ms ≡ set_all ms []
unfolding can_set pick
set_over ms = ap labels (sym (append-nil ms))

module _ (l : List ℕ) (count n : ℕ) (f : ℕ → ℕ) (many : ℕ) where
  abbrev pub left : ℕ → List ℕ
  left i = each f i (many - i)

  module _ (i set : ℕ) (now : List ℕ) (x : ℕ) (known : x ≡ f i) (h : i < many) where
    row : Room l (count + length (each f 0 many)) n → set ≡ count + i → length now ≡ length l → Room now (set + 1) n
    row room e same = record {
      whole = same ∙ room.whole;
      rows = omega (arith, room.rows, each_length f 0 many);
      few = room.few;
    }

    pub loop_fails : (r : Result ℕ Failure) (u : Failure) (after : List ℕ) → r ≡ Err u → length now ≡ length l → Room l (count + length (each f 0 many)) n
        → Loop l count n (each f 0 many) (left i) set i now → SetsOne now set n x r after → SettingAll l count n (each f 0 many) (Err u) after
    loop_fails (Ok c) u after e same room p one = absurd (cc)
    loop_fails (Err Refused) Refused after e same room p one = record {
      told =
          one.told (row room p.counted same) (left (i + 1))
          ∙ ap (λ y. set_all (labels_of n set now) (y ∷ left (i + 1))) known
          ∙ ap (set_all (labels_of n set now)) (sym (each_more f i many h))
          ∙ p.others;
      so_far = λ s. tt;
    }
    loop_fails (Err Refused) Unfit after e same room p one = absurd (cc)
    loop_fails (Err Unfit) u after e same room p one = absurd (one.told (row room p.counted same))

    pub loop_more : (r : Result ℕ Failure) (c : ℕ) (after : List ℕ) → r ≡ Ok c → length now ≡ length l → Room l (count + length (each f 0 many)) n
        → Loop l count n (each f 0 many) (left i) set i now → SetsOne now set n x r after
        → Loop l count n (each f 0 many) (left (i + 1)) c (i + 1) after
    loop_more (Ok d) c after e same room p one =
        let here : d ≡ c = cc in
        let more = one.told (row room p.counted same) in
        record {
          counted = sym here ∙ more.counted ∙ omega (arith, p.counted);
          others =
              ap (λ k. set_all (labels_of n k after) (left (i + 1))) (sym here)
              ∙ more.others (left (i + 1))
              ∙ ap (λ y. set_all (labels_of n set now) (y ∷ left (i + 1))) known
              ∙ ap (set_all (labels_of n set now)) (sym (each_more f i many h))
              ∙ p.others;
          so_far = λ s. rw (← here) (more.so_far (p.so_far s));
        }
    loop_more (Err u) c after e same room p one = absurd (cc)

  pub loop_ends : (i set : ℕ) (now : List ℕ) → many ≤ i → Loop l count n (each f 0 many) (left i) set i now
      → SettingAll l count n (each f 0 many) (Ok set) now
  loop_ends i set now h p = record {
    told = set_over (labels_of n set now) ∙ ap (set_all (labels_of n set now)) (sym (each_over f i many h)) ∙ p.others;
    so_far = p.so_far;
  }

-- ---- any table

module _ (l : List ℕ) (count n : ℕ) (ls : List ℕ) where
  fits : fit (length l) (count + length ls) n ≡ true → Room l (count + length ls) n
  fits e =
      let one = both_yes (eqb (length l) label_rows) (pick (leb (count + length ls) label_rows) (ltb n instruction_numbers) false) e in
      let two = both_yes (leb (count + length ls) label_rows) (ltb n instruction_numbers) one.1 in
      record {
        whole = eqb-true (length l) label_rows one.0;
        rows = leb-true (count + length ls) label_rows two.0;
        few = ltb-true n instruction_numbers two.1;
      }

  pub set_fit : (t : Bool) → t ≡ fit (length l) (count + length ls) n → t ≡ true → (r : Result ℕ Failure) (after : List ℕ)
      → SetsAll l count n ls r after → SetsLabels l count n ls r after
  unfolding set_of pick
  set_fit t known e r after p =
      let yes = sym known ∙ e in
      let all = p.told (fits yes) in
      record { told = rw yes all.told; kept = p.kept; so_far = all.so_far }

  pub set_unfit : (t : Bool) → t ≡ fit (length l) (count + length ls) n → t ≡ false → SetsLabels l count n ls (Err Unfit) l
  unfolding set_of pick
  set_unfit t known e = record { told = rw (sym known ∙ e) refl; kept = refl; so_far = λ s. tt }

  -- with room for the labels
  pub set_whole : Room l (count + length ls) n → set_of n count l ls ≡ set_all (labels_of n count l) ls
  unfolding set_of pick
  set_whole room =
      rw (
        eq-eqb (length l) label_rows room.whole,
        le-leb (count + length ls) label_rows room.rows,
        lt-ltb n instruction_numbers room.few,
      ) refl

-- what setting labels tells of the test and of the labels
module _ (ms : List Label) (ls : List ℕ) where
  pub not_set_all : (n : ℕ) → refusal n ≡ set_all ms ls → (can_set ms ls ≡ false) × (n ≡ 9)
  unfolding pick
  not_set_all n e =
      by_test (can_set ms ls)
      (λ t. let z = rw t at e in absurd (cc))
      (λ t. let same : n ≡ 9 = cc (rw t at e) in (t, same))

  pub set_together : (m : List Label) → labels m ≡ set_all ms ls → (can_set ms ls ≡ true) × (m ≡ ms ++ labels_set ls)
  unfolding pick
  set_together m e =
      by_test (can_set ms ls)
      (λ t. let same : m ≡ ms ++ labels_set ls = cc (rw t at e) in (t, same))
      (λ t. let z = rw t at e in absurd (cc))

  pub never_unfit : {A : Type 0} → unfit ≡ set_all ms ls → A
  unfolding pick
  never_unfit e =
      by_test (can_set ms ls)
      (λ t. let z = rw t at e in absurd (cc))
      (λ t. let z = rw t at e in absurd (cc))
