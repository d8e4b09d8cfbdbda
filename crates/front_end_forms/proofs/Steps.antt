-- %BEGIN and declarations.
use Prim.Native.Nat.{ℕ, ◌+◌, ◌≤◌, ◌<◌}
use mathlib.Core.Bool.{true, false}
use mathlib.Core.Path.{◌≡◌, refl, sym, ◌∙◌}
use mathlib.Core.List.{List, ◌++◌}
use native.Mathlib.Omega.{arith}
use borrow.Author.Tests.{lt-ltb, le-ltb}
use lib.ListN.{length}
use Rattle.base.specs.Choice.{pick}
use Rattle.order.specs.Limits.{most_variables}
use Rattle.source.specs.Limits.{most_bytes}
use Rattle.source.specs.Memory.{most_listed, name_rows, letters_in}
use Rattle.source.specs.Tokens.{Lexeme}
use Rattle.source.specs.Grammar.{beginning, declaration}
use Rattle.source.specs.Program.{Program, Stage, nothing, declarations, instructions, refused, further, names_in, can_declare, in_order, declare, declaring, opened}
use Rattle.name_index.specs.Memory.{NamesHeld}
use Rattle.std.proofs.Common.{Result, Ok, Err}
use Rattle.source.specs.declared.Refusal.TheVariants.{Form as NoForm, Name as BadName, Limit as OverLimit}
use Rattle.name_index.specs.declared.Names.{Names}
use Rattle.names.specs.declared.Failure.{Failure as NamesFailure}
use Rattle.names.specs.declared.Failure.TheVariants.{Refused as NotDeclared, Unfit as NotFit}
use Rattle.names.specs.Answers.{declared_of, Tells, Declares as NowDeclares}
use Rattle.names.proofs.Declarations.{says, all_declared, not_declared, always_room}
use Rattle.front_end_forms.specs.declared.Progress.{Progress}
use Rattle.front_end_forms.specs.declared.Stage.TheVariants.{Nothing, Declarations}
use Rattle.front_end_forms.specs.declared.Failure.TheVariants.{Refused}
use Rattle.front_end_forms.specs.Memory.{NameTable, stage_of, Holds}
use Rattle.front_end_forms.specs.Answers.{Comes, Goes}
use Rattle.front_end_forms.proofs.Stages.{comes_refused, comes_further}

-- ---- %BEGIN

module _ (q : Program) (k : ℕ) (xs : List Lexeme) where
  begin_late : (t : Stage) → (stage_of t ≡ Nothing → ⊥) → in_order q t k xs beginning ≡ refused 7 k
  begin_late nothing n = absurd (n refl)
  begin_late declarations n = refl
  begin_late instructions n = refl

  begin_first : (t : Stage) → stage_of t ≡ Nothing → in_order q t k xs beginning ≡ further (opened q)
  begin_first nothing e = refl
  begin_first declarations e = cc
  begin_first instructions e = cc

  declare_elsewhere : (t : Stage) → (stage_of t ≡ Declarations → ⊥) → in_order q t k xs declaration ≡ refused 7 k
  declare_elsewhere nothing n = refl
  declare_elsewhere declarations n = absurd (n refl)
  declare_elsewhere instructions n = refl

  declare_here : (t : Stage) → stage_of t ≡ Declarations → in_order q t k xs declaration ≡ declare q k (names_in xs)
  declare_here nothing e = cc
  declare_here declarations e = refl
  declare_here instructions e = cc

abbrev in_declarations : Progress → Progress
in_declarations p = record {
  stage = Declarations;
  names = p.names;
  labels = p.labels;
  fields = p.fields;
  instructions = p.instructions;
  orders = p.orders;
  groups = p.groups;
}

abbrev with_names : Progress → Names → Progress
with_names p n = record {
  stage = p.stage;
  names = n;
  labels = p.labels;
  fields = p.fields;
  instructions = p.instructions;
  orders = p.orders;
  groups = p.groups;
}

module _ {q : Program} {p : Progress} {ns : NameTable} {ls gs fs : List ℕ} (h : Holds q p ns ls gs fs) (k : ℕ) (xs : List Lexeme) where
  pub begun_late : (p.stage ≡ Nothing → ⊥) → Comes (Goes (λ o n. Holds o n ns ls gs fs)) (Err (Refused NoForm k)) (in_order q q.stage k xs beginning)
  begun_late n = comes_refused NoForm k (begin_late q k xs q.stage (λ z. n (h.staged ∙ z)))

  pub begun : p.stage ≡ Nothing → Comes (Goes (λ o n. Holds o n ns ls gs fs)) (Ok (in_declarations p)) (in_order q q.stage k xs beginning)
  begun e = comes_further (opened q) _ (begin_first q k xs q.stage (sym h.staged ∙ e))
      (record { staged = refl; its_names = h.its_names; its_labels = h.its_labels; its_groups = h.its_groups; its_fields = h.its_fields })

-- ---- %INTEGER

module _ (q : Program) (k : ℕ) (ns : List (List ℕ)) where
  declare_refused : can_declare q.names ns ≡ false → declare q k ns ≡ refused 8 k
  unfolding pick
  declare_refused t = rw t refl

  module _ (can : can_declare q.names ns ≡ true) where
    declare_many : most_variables < length (q.names ++ ns) → declare q k ns ≡ refused 11 k
    unfolding pick
    declare_many h = rw (can, lt-ltb most_variables (length (q.names ++ ns)) h) refl

    declare_few : length (q.names ++ ns) ≤ most_variables → declare q k ns ≡ further (declaring q ns)
    unfolding pick
    declare_few h = rw (can, le-ltb most_variables (length (q.names ++ ns)) h) refl

module _ {q : Program} {p : Progress} {ns : NameTable} {ls gs fs : List ℕ} (h : Holds q p ns ls gs fs) (k : ℕ) (xs : List Lexeme) where
  pub declared_elsewhere : (p.stage ≡ Declarations → ⊥) → (after : NameTable)
      → Comes (Goes (λ o n. Holds o n after ls gs fs)) (Err (Refused NoForm k)) (in_order q q.stage k xs declaration)
  declared_elsewhere n after = comes_refused NoForm k (declare_elsewhere q k xs q.stage (λ z. n (h.staged ∙ z)))

  module _ (here : p.stage ≡ Declarations) (few : length (names_in xs) ≤ most_listed) (room : letters_in q.names + letters_in (names_in xs) ≤ most_bytes) (r : Result Names NamesFailure)
      (after : NameTable) (declares : NowDeclares (names_in xs) p.names.count p.names.letters ns.letters ns.index r after.letters after.index) where
    in_order_law : in_order q q.stage k xs declaration ≡ declare q k (names_in xs)
    in_order_law = declare_here q k xs q.stage (sym h.staged ∙ here)

    told : Tells after.letters after.index r (declared_of q.names (names_in xs))
    told = declares q.names h.its_names.named

    -- there is a row for each of the names
    rows : length q.names + length (names_in xs) ≤ name_rows
    rows =
        let v = h.its_names.named.counted in
        let most = h.its_names.few_names in
        omega (arith, v, most, few)

    pub comes_twice : r ≡ Err NotDeclared → Comes (Goes (λ o n. Holds o n after ls gs fs)) (Err (Refused BadName k)) (in_order q q.stage k xs declaration)
    comes_twice e = comes_refused BadName k (in_order_law ∙ declare_refused q k (names_in xs) (not_declared q.names (names_in xs) rows room (says (rw e at told))))

    pub declared_fits : {A : Type 0} → r ≡ Err NotFit → A
    declared_fits e = always_room q.names (names_in xs) rows room (says (rw e at told))

    module _ (n : Names) (e : r ≡ Ok n) where
      all_names : (can_declare q.names (names_in xs) ≡ true) × NamesHeld (q.names ++ names_in xs) n.count n.letters after.letters after.index
      all_names =
          let s = says (rw e at told) in
          let all = all_declared q.names (names_in xs) rows room s.0 s.2 in
          (all.0, rw (← all.1) s.1)

      pub comes_many : most_variables < n.count → Comes (Goes (λ o n. Holds o n after ls gs fs)) (Err (Refused OverLimit k)) (in_order q q.stage k xs declaration)
      comes_many many =
          let all = all_names in
          comes_refused OverLimit k (in_order_law ∙ declare_many q k (names_in xs) all.0 (rw (← all.1.counted) many))

      pub comes_declared : n.count ≤ most_variables
          → Comes (Goes (λ o n. Holds o n after ls gs fs)) (Ok (with_names p n)) (in_order q q.stage k xs declaration)
      comes_declared few_too =
          let all = all_names in
          comes_further
          (declaring q (names_in xs))
          _
          (in_order_law ∙ declare_few q k (names_in xs) all.0 (rw (← all.1.counted) few_too))
          (record {
            staged = here;
            its_names = record { named = all.1; few_names = few_too };
            its_labels = h.its_labels;
            its_groups = h.its_groups;
            its_fields = h.its_fields;
          })
