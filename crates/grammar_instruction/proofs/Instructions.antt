-- The functions that read an instruction, one lemma for each of their returns.
use Prim.Native.Nat.{ℕ, ◌+◌, ◌<◌, ◌≤◌}
use mathlib.Core.Path.{◌≡◌, refl, ap, ◌∙◌}
use mathlib.Core.Bool.{Bool, true, false}
use mathlib.Core.List.{List, [], ◌∷◌, ◌++◌, append_assoc}
use Rattle.std.specs.Prelude.{Option, Some, None, option_map}
use Rattle.base.specs.Choice.{pick}
use Rattle.sheet.specs.declared.Field.{Field}
use Rattle.sheet.specs.declared.Field.TheVariants.{Else, Start, Finish, If}
use Rattle.sheet.specs.Sheet.{Simple, Condition}
use Rattle.sheet.specs.Fields.{simple_fields}
use Rattle.sheet.specs.Memory.{condition_fields}
use Rattle.source.specs.declared.Token.{Token}
use Rattle.source.specs.Tokens.{mark_if, mark_then, mark_else, mark_start}
use Rattle.source.specs.Grammar.{Read, read, none, next, past, opens, behind_first, simple_at, condition_at}
use Rattle.source.specs.Grammar.{Instruction, simple, if_then, if_else, if_start, chosen, consequent}
use Rattle.source.specs.Fields.{instruction_fields}
use Rattle.grammar_look.specs.declared.Tokens.{Tokens}
use Rattle.grammar_look.specs.Internal.{ahead}
use Rattle.grammar_look.proofs.Places.{ahead_behind}
use Rattle.grammar_output.specs.declared.Step.{Step}
use Rattle.grammar_output.specs.Internal.{written}
use Rattle.grammar_expression.specs.Internal.{stepped}
use Rattle.grammar_expression.proofs.Closing.{moved_later}
use Rattle.grammar_simple.specs.Internal.{simple_pass}
use Rattle.grammar_condition.specs.Internal.{condition_pass}
use Rattle.grammar_instruction.specs.declared.Instructed.{Instructed}
use Rattle.grammar_instruction.specs.declared.Instructed.TheVariants.{Whole, Opening}
use Rattle.grammar_instruction.specs.Internal.{Output, whole, opening, output_in, MovedOn, output_of}
use Rattle.grammar_instruction.specs.Internal.{alternative_pass, otherwise_pass, lone_pass, whole_pass, consequent_pass, conditional_pass, instruction_pass}

-- ---- what the passes come to

-- an instruction behind the fields fs
abbrev given : List Field → Read Instruction → Read Output
given fs x = next x (λ i rest. read (output_of fs i) rest)

module _ (fs : List Field) (c : Condition) where
  -- behind START
  abbrev opened : List Field
  opened = fs ++ (If ∷ []) ++ condition_fields c ++ (Start ∷ [])

  opened_fields : opened ≡ fs ++ instruction_fields (if_start c)
  opened_fields = simp append_assoc

  then_fields : (u : Simple) → opened ++ simple_fields u ++ (Finish ∷ []) ≡ fs ++ instruction_fields (if_then c u)
  then_fields u = simp append_assoc

  else_fields : (u w : Simple)
      → opened ++ simple_fields u ++ (Else ∷ []) ++ simple_fields w ++ (Finish ∷ []) ≡ fs ++ instruction_fields (if_else c u w)
  else_fields u w = simp append_assoc

  second_part : (u : Simple) (x : Read Simple)
      → whole_pass (next (written simple_fields (opened ++ simple_fields u ++ (Else ∷ [])) x) (λ g l. read (g ++ (Finish ∷ [])) l))
      ≡ given fs (next x (λ w rest. read (if_else c u w) rest))
  unfolding next written
  second_part u none = refl
  second_part u (read w rest) = ap (λ l. read (whole l) rest) (else_fields u w)

  else_part : (u : Simple) (rest : List Token)
      → whole_pass (otherwise_pass (opened ++ simple_fields u) rest) ≡ given fs (chosen c u rest)
  unfolding next pick
  else_part u rest = go (opens mark_else rest)
    where
      go : (t : Bool)
          → whole_pass (pick t (alternative_pass (opened ++ simple_fields u) (behind_first rest)) (read (opened ++ simple_fields u ++ (Finish ∷ [])) rest))
          ≡ given fs (pick t (next (simple_at (behind_first rest)) (λ w others. read (if_else c u w) others)) (read (if_then c u) rest))
      go true = second_part u (simple_at (behind_first rest))
      go false = ap (λ l. read (whole l) rest) (then_fields u)

  first_part : (x : Read Simple)
      → whole_pass (next (written simple_fields opened x) (λ g l. otherwise_pass g l)) ≡ given fs (next x (λ u rest. chosen c u rest))
  unfolding next written
  first_part none = refl
  first_part (read u rest) = else_part u rest

  consequent_fields : (ts : List Token) → consequent_pass opened ts ≡ given fs (consequent c ts)
  unfolding next pick
  consequent_fields ts = go (opens mark_start ts)
    where
      go : (t : Bool)
          → pick t (read (opening opened) (behind_first ts)) (whole_pass (lone_pass opened ts))
          ≡ given fs (pick t (read (if_start c) (behind_first ts)) (next (simple_at ts) (λ u rest. chosen c u rest)))
      go true = ap (λ l. read (opening l) (behind_first ts)) opened_fields
      go false = first_part (simple_at ts)

  then_part : (ts : List Token)
      → past mark_then ts (λ m. consequent_pass opened m) ≡ given fs (past mark_then ts (λ m. consequent c m))
  unfolding next pick
  then_part ts = go (opens mark_then ts)
    where
      go : (t : Bool)
          → pick t (consequent_pass opened (behind_first ts)) none ≡ given fs (pick t (consequent c (behind_first ts)) none)
      go true = consequent_fields (behind_first ts)
      go false = refl

module _ (fs : List Field) where
  asked_part : (x : Read Condition)
      → next
      (written condition_fields (fs ++ (If ∷ [])) x)
      (λ g l. past mark_then l (λ m. consequent_pass (g ++ (Start ∷ [])) m))
      ≡ given fs (next x (λ c rest. past mark_then rest (λ l. consequent c l)))
  unfolding next written
  asked_part none = refl
  asked_part (read c rest) = then_part fs c rest

  simple_part : (x : Read Simple) → whole_pass (written simple_fields fs x) ≡ given fs (next x (λ u rest. read (simple u) rest))
  unfolding next written
  simple_part none = refl
  simple_part (read u rest) = refl

-- ---- steps

-- a whole instruction, or none
whole_in : (toks : Tokens) (ws : List ℕ) (s : Option Step) → output_in toks (option_map Whole s) ws ≡ whole_pass (stepped toks s ws)
unfolding next
whole_in toks ws (Some s) = refl
whole_in toks ws None = refl

pub moved_on : (d e n at out at₁ out₁ : ℕ) (r : Option Instructed) → MovedOn d n at₁ out₁ r → at + e ≤ at₁ + d → out ≤ out₁
    → out₁ + at ≤ at₁ + out → MovedOn e n at out r
moved_on d e n at out at₁ out₁ (Some (Whole s)) m h g f = moved_later d e n at out at₁ out₁ (Some s) m h g f
moved_on d e n at out at₁ out₁ (Some (Opening s)) m h g f = moved_later d e n at out at₁ out₁ (Some s) m h g f
moved_on d e n at out at₁ out₁ None m h g f = tt

-- ---- the returns

module _ (fs gs : List Field) (ts : List Token) (put : gs ≡ fs ++ (Else ∷ [])) where
  pub alternative_missing : none ≡ simple_pass gs ts → none ≡ alternative_pass fs ts
  unfolding next
  alternative_missing e = rw (← put, ← e) refl

  pub alternative_found : (hs ks : List Field) (rest : List Token) → read hs rest ≡ simple_pass gs ts → ks ≡ hs ++ (Finish ∷ [])
      → read ks rest ≡ alternative_pass fs ts
  unfolding next
  alternative_found hs ks rest e f = rw (← put, ← e) (ap (λ l. read l rest) f)

module _ (toks : Tokens) (at : ℕ) (fs : List Field) where
  pub else_found : (r : Read (List Field)) → opens mark_else (ahead toks at) ≡ true → at < toks.count
      → r ≡ alternative_pass fs (ahead toks (at + 1)) → r ≡ otherwise_pass fs (ahead toks at)
  unfolding pick
  else_found r o h e = rw o (e ∙ ap (alternative_pass fs) (ahead_behind toks at h))

  pub no_else : (gs : List Field) → opens mark_else (ahead toks at) ≡ false → gs ≡ fs ++ (Finish ∷ [])
      → read gs (ahead toks at) ≡ otherwise_pass fs (ahead toks at)
  unfolding pick
  no_else gs o e = rw o (ap (λ l. read l (ahead toks at)) e)

  pub start_found : opens mark_start (ahead toks at) ≡ true → at < toks.count
      → read (opening fs) (ahead toks (at + 1)) ≡ consequent_pass fs (ahead toks at)
  unfolding pick
  start_found o h = rw o (ap (λ l. read (opening fs) l) (ahead_behind toks at h))

  pub no_start_law : (s : Option Step) (ws : List ℕ) → opens mark_start (ahead toks at) ≡ false
      → stepped toks s ws ≡ lone_pass fs (ahead toks at) → output_in toks (option_map Whole s) ws ≡ consequent_pass fs (ahead toks at)
  unfolding pick
  no_start_law s ws o e = rw o (whole_in toks ws s ∙ ap whole_pass e)

  module _ (gs : List Field) (put : gs ≡ fs ++ (If ∷ [])) where
    pub condition_missing : none ≡ condition_pass gs (ahead toks at) → none ≡ conditional_pass fs (ahead toks at)
    unfolding next
    condition_missing e = rw (← put, ← e) refl

    module _ (a : ℕ) (hs : List Field) (found : read hs (ahead toks a) ≡ condition_pass gs (ahead toks at)) where
      behind_condition : past mark_then (ahead toks a) (λ m. consequent_pass (hs ++ (Start ∷ [])) m) ≡ conditional_pass fs (ahead toks at)
      unfolding next
      behind_condition = rw (← put, ← found) refl

      pub no_then : opens mark_then (ahead toks a) ≡ false → none ≡ conditional_pass fs (ahead toks at)
      unfolding pick
      no_then o = rw o at behind_condition

      pub then_read : (is : List Field) (r : Read Output) → opens mark_then (ahead toks a) ≡ true → a < toks.count → is ≡ hs ++ (Start ∷ [])
          → r ≡ consequent_pass is (ahead toks (a + 1)) → r ≡ conditional_pass fs (ahead toks at)
      unfolding pick
      then_read is r o h f e =
          let there : consequent_pass (hs ++ (Start ∷ [])) (behind_first (ahead toks a)) ≡ conditional_pass fs (ahead toks at) =
          rw o at behind_condition in
          e ∙ rw (f, ahead_behind toks a h) there

  pub if_read : (r : Read Output) → opens mark_if (ahead toks at) ≡ true → at < toks.count → r ≡ conditional_pass fs (ahead toks (at + 1))
      → r ≡ instruction_pass fs (ahead toks at)
  unfolding pick
  if_read r o h e =
      rw o
      (e ∙ ap (conditional_pass fs) (ahead_behind toks at h) ∙ asked_part fs (condition_at (behind_first (ahead toks at))))

  pub simple_read_law : (s : Option Step) (ws : List ℕ) → opens mark_if (ahead toks at) ≡ false
      → stepped toks s ws ≡ simple_pass fs (ahead toks at) → output_in toks (option_map Whole s) ws ≡ instruction_pass fs (ahead toks at)
  unfolding pick
  simple_read_law s ws o e = rw o (whole_in toks ws s ∙ ap whole_pass e ∙ simple_part fs (simple_at (ahead toks at)))
