-- Names declared one after the other, and where there is room for all.
use Prim.Native.Nat.{ℕ, ◌+◌, ◌-◌, ◌/◌, ◌%◌, ◌<◌, ◌≤◌}
use mathlib.Core.Bool.{true, false}
use mathlib.Core.Path.{◌≡◌, refl, sym, ap, ◌∙◌}
use mathlib.Core.List.{List, [], ◌∷◌, ◌++◌, append-nil, append_assoc}
use native.Mathlib.Omega.{arith}
use native.Mathlib.Nat.{sub-zero}
use borrow.Author.Tests.{eq-eqb, ne_eqb, lt-ltb, le-leb}
use lib.Dec.{eqb}
use lib.ListN.{length, take, drop, get_or, length-append}
use Rattle.base.specs.Choice.{pick}
use Rattle.base.specs.Places.{each}
use Rattle.base.proofs.Cases.{by_test}
use Rattle.base.proofs.Places.{each_more, each_over}
use Rattle.source.specs.Limits.{most_bytes, most_cells}
use Rattle.source.specs.Tokens.{Lexeme, name, token}
use Rattle.source.specs.Program.{word_of, can_declare, names_in}
use Rattle.source.specs.Memory.{lexeme_of, lexemes_from, name_rows, letters_in}
use Rattle.source.proofs.Stored.{lexemes_each}
use Rattle.source.proofs.Letters.{letters_append}
use Rattle.std.proofs.Common.{Result, Ok, Err}
use Rattle.name_index.specs.declared.Names.{Names as Counts}
use Rattle.name_index.specs.declared.Unfit.{Unfit as NotAdded}
use Rattle.name_index.specs.Memory.{NamesHeld}
use Rattle.name_index.specs.Answers.{has_room, AddedTo}
use Rattle.names.specs.declared.Failure.{Failure}
use Rattle.names.specs.declared.Failure.TheVariants.{Refused, Unfit}
use Rattle.names.specs.Answers.{Names, names, refusal, unfit, declared_of, Tells, declares, refuses, no_room}
use Rattle.names.specs.Internal.{NamesSoFar}

-- ---- one name

module _ (ms : List (List ℕ)) (n : List ℕ) where
  twice : (word_of ms n ≡ 0 → ⊥) → declared_of ms (n ∷ []) ≡ refusal 8
  unfolding declared_of pick
  twice e = rw (ne_eqb (word_of ms n) 0 e) refl

  module _ (new : word_of ms n ≡ 0) where
    with_room : has_room ms n ≡ true → declared_of ms (n ∷ []) ≡ names (ms ++ n ∷ [])
    unfolding declared_of pick
    with_room r = rw (eq-eqb (word_of ms n) 0 new, r) refl

    without_room : has_room ms n ≡ false → declared_of ms (n ∷ []) ≡ unfit
    unfolding declared_of pick
    without_room r = rw (eq-eqb (word_of ms n) 0 new, r) refl

module _ (ms : List (List ℕ)) (n : List ℕ) (new : word_of ms n ≡ 0) {letters index : List ℕ} (r : Result Counts NotAdded) (added : AddedTo ms n r letters index) where
  pub is_added : (c : Counts) → r ≡ Ok c → Tells letters index (Ok c) (declared_of ms (n ∷ []))
  is_added c e =
      let one : (has_room ms n ≡ true) × NamesHeld (ms ++ n ∷ []) c.count c.letters letters index = rw e at added in
      rw (with_room ms n new one.0) (declares (ms ++ n ∷ []) c one.1)

  pub is_not_added : {u : NotAdded} → r ≡ Err u → Tells letters index (Err Unfit) (declared_of ms (n ∷ []))
  is_not_added e =
      let full : has_room ms n ≡ false = rw e at added in
      rw (without_room ms n new full) no_room

pub is_twice : (ms : List (List ℕ)) (n letters index : List ℕ) → (word_of ms n ≡ 0 → ⊥) → Tells letters index (Err Refused) (declared_of ms (n ∷ []))
is_twice ms n letters index e = rw (twice ms n e) refuses

-- ---- the name that a token is

pub no_name : (cells : List ℕ) (k v : ℕ) → (k ≡ 0 → ⊥) → names_in (lexeme_of cells k v ∷ []) ≡ []
unfolding lexeme_of names_in pick
no_name cells k v n = rw (ne_eqb k 0 n) refl

module _ (cells : List ℕ) (k v : ℕ) (n : List ℕ) (e : n ≡ take (v % most_cells) (drop (v / most_cells) cells)) where
  pub one_name : k ≡ 0 → names_in (lexeme_of cells k v ∷ []) ≡ n ∷ []
  unfolding lexeme_of names_in pick
  one_name z = rw (eq-eqb k 0 z, e) refl

pub none_declared : {ms : List (List ℕ)} (c : Counts) {letters index : List ℕ} → NamesHeld ms c.count c.letters letters index → Tells letters index (Ok c) (declared_of ms [])
unfolding declared_of
none_declared {ms} c held = declares ms c held

-- ---- one after the other

abbrev on_names : Names → (List (List ℕ) → Names) → Names
on_names (names ms) f = f ms
on_names (refusal n) f = refusal n
on_names unfit f = unfit

declared_on : (ms : List (List ℕ)) (x : Lexeme) (xs : List Lexeme) → declared_of ms (names_in (x ∷ xs)) ≡ on_names (declared_of ms (names_in (x ∷ []))) (λ m. declared_of m (names_in xs))
unfolding declared_of names_in pick
declared_on ms (token t) xs = refl
declared_on ms (name n) xs =
    by_test (eqb (word_of ms n) 0)
    (λ t. by_test (has_room ms n) (λ r. rw (t, r) refl) (λ r. rw (t, r) refl))
    (λ t. rw t refl)

-- what an answer says of what it stands for
abbrev pub Says : List ℕ → List ℕ → Result Counts Failure → Names → Type 0
Says letters index (Ok c) o = (ms : List (List ℕ)) × NamesHeld ms c.count c.letters letters index × (o ≡ names ms)
Says letters index (Err Refused) o = o ≡ refusal 8
Says letters index (Err Unfit) o = o ≡ unfit

pub says : {letters index : List ℕ} {r : Result Counts Failure} {o : Names} → Tells letters index r o → Says letters index r o
says (declares ms c h) = (ms, h, refl)
says refuses = refl
says no_room = refl

module _ (f : ℕ → Lexeme) (n i : ℕ) (h : i < n) {ms all : List (List ℕ)} {v filled : ℕ} {letters index after_letters after_index : List ℕ}
    (so_far : NamesSoFar ms all (names_in (each f i (n - i))) v filled letters index) {r : Result Counts Failure}
    (one : Tells after_letters after_index r (declared_of so_far.names_too (names_in (f i ∷ [])))) where
  on : declared_of so_far.names_too (names_in (each f i (n - i))) ≡ on_names (declared_of so_far.names_too (names_in (f i ∷ []))) (λ m. declared_of m (names_in (each f (i + 1) (n - (i + 1)))))
  on = ap (λ xs. declared_of so_far.names_too (names_in xs)) (each_more f i n h) ∙ declared_on so_far.names_too (f i) (each f (i + 1) (n - (i + 1)))

  pub declare_turn : (c : Counts) → r ≡ Ok c → NamesSoFar ms all (names_in (each f (i + 1) (n - (i + 1)))) c.count c.letters after_letters after_index
  declare_turn c e =
      let s = says (rw e at one) in record {
        names_too = s.0;
        held = s.1;
        same = sym (on ∙ ap (λ o. on_names o (λ k. declared_of k (names_in (each f (i + 1) (n - (i + 1)))))) s.2) ∙ so_far.same;
      }

  pub declare_fails : (e : Failure) → r ≡ Err e → Tells after_letters after_index (Err e) (declared_of ms all)
  declare_fails Refused e =
      let s = says (rw e at one) in
      rw (← so_far.same, on ∙ ap (λ o. on_names o (λ k. declared_of k (names_in (each f (i + 1) (n - (i + 1)))))) s) refuses
  declare_fails Unfit e =
      let s = says (rw e at one) in
      rw (← so_far.same, on ∙ ap (λ o. on_names o (λ k. declared_of k (names_in (each f (i + 1) (n - (i + 1)))))) s) no_room

pub declare_start : {ms : List (List ℕ)} {v filled : ℕ} {letters index : List ℕ} (cells ks vs : List ℕ) (n : ℕ) → NamesHeld ms v filled letters index
    → NamesSoFar ms (names_in (lexemes_from 0 n cells ks vs)) (names_in (each (λ i. lexeme_of cells (get_or ks i 0) (get_or vs i 0)) 0 (n - 0))) v filled letters index
declare_start {ms} cells ks vs n h = record {
  names_too = ms;
  held = h;
  same = ap (λ xs. declared_of ms (names_in xs)) (rw (sub-zero n) (sym (lexemes_each 0 n cells ks vs)));
}

pub declare_end : {ms all : List (List ℕ)} (c : Counts) {letters index : List ℕ} (f : ℕ → Lexeme) (n i : ℕ) → n ≤ i
    → NamesSoFar ms all (names_in (each f i (n - i))) c.count c.letters letters index → Tells letters index (Ok c) (declared_of ms all)
unfolding declared_of names_in
declare_end c f n i h s =
    let none : names s.names_too ≡ declared_of s.names_too (names_in (each f i (n - i))) = rw (each_over f i n h) refl in
    rw (← s.same, ← none) (declares s.names_too c s.held)

-- ---- with room for all

pub declared_all : (ms ns : List (List ℕ)) → length ms + length ns ≤ name_rows → letters_in ms + letters_in ns ≤ most_bytes
    → declared_of ms ns ≡ pick (can_declare ms ns) (names (ms ++ ns)) (refusal 8)
unfolding declared_of can_declare pick letters_in
declared_all ms [] h g = ap names (sym (append-nil ms))
declared_all ms (n ∷ ns) h g =
    by_test (eqb (word_of ms n) 0)
    (λ t.
    let a = length-append ms (n ∷ []) in
    let b = letters_append ms (n ∷ []) in
    let rest = declared_all (ms ++ n ∷ []) ns (omega (arith, a, h)) (omega (arith, b, g)) in
    rw (t, lt-ltb (length ms) name_rows (omega (arith, h)), le-leb (letters_in ms + length n) most_bytes (omega (arith, g)))
    (rest ∙ ap (λ l. pick (can_declare (ms ++ n ∷ []) ns) (names l) (refusal 8)) (append_assoc ms (n ∷ []) ns)))
    (λ t. rw t refl)

module _ (ms ns : List (List ℕ)) (rows : length ms + length ns ≤ name_rows) (room : letters_in ms + letters_in ns ≤ most_bytes) where
  told_all : {o : Names} → declared_of ms ns ≡ o → pick (can_declare ms ns) (names (ms ++ ns)) (refusal 8) ≡ o
  told_all e = sym (declared_all ms ns rows room) ∙ e

  pub all_declared : (m : List (List ℕ)) → declared_of ms ns ≡ names m → (can_declare ms ns ≡ true) × (m ≡ ms ++ ns)
  unfolding pick
  all_declared m e =
      by_test (can_declare ms ns)
      (λ t. let z = rw t at (told_all e) in (t, cc))
      (λ t. let z = rw t at (told_all e) in absurd (cc))

  pub not_declared : declared_of ms ns ≡ refusal 8 → can_declare ms ns ≡ false
  unfolding pick
  not_declared e = by_test (can_declare ms ns) (λ t. let z = rw t at (told_all e) in cc) (λ t. t)

  pub always_room : {A : Type 0} → declared_of ms ns ≡ unfit → A
  unfolding pick
  always_room e =
      by_test (can_declare ms ns)
      (λ t. let z = rw t at (told_all e) in absurd (cc))
      (λ t. let z = rw t at (told_all e) in absurd (cc))
