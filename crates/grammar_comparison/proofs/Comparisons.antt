-- Comparisons, one lemma for each return of the functions that read them.
use Prim.Native.Nat.{ℕ, ◌+◌, ◌<◌}
use mathlib.Core.Path.{◌≡◌, refl, ap, ap₂, ◌∙◌}
use mathlib.Core.List.{List, [], ◌∷◌, ◌++◌, append_assoc}
use native.Mathlib.Omega.{arith}
use lib.ListN.{length}
use Rattle.std.specs.Prelude.{Some, None}
use Rattle.word.specs.declared.Relation.{Relation}
use Rattle.sheet.specs.declared.Field.{Field}
use Rattle.sheet.specs.declared.Field.TheVariants.{Compare as CompareField}
use Rattle.sheet.specs.Sheet.{Expression, compares}
use Rattle.sheet.specs.Fields.{expression_fields}
use Rattle.sheet.specs.Memory.{condition_fields}
use Rattle.source.specs.declared.Token.{Token}
use Rattle.source.specs.declared.Token.TheVariants.{Name, Number, Quoted, Binary, Compare, Mark}
use Rattle.source.specs.Grammar.{Read, read, none, next, behind_first, expression, relation_at}
use Rattle.grammar_look.specs.declared.Tokens.{Tokens}
use Rattle.grammar_look.specs.Internal.{ahead, first_relation}
use Rattle.grammar_look.proofs.Places.{ahead_behind}
use Rattle.grammar_output.specs.Internal.{written, insert_at}
use Rattle.grammar_output.proofs.Shifting.{insert_at_seam}
use Rattle.grammar_expression.specs.Internal.{expression_pass}
use Rattle.grammar_expression.proofs.Following.{then_found, then_missing}
use Rattle.grammar_comparison.specs.Internal.{compared_pass, comparison_pass}

-- ---- comparisons

relation_none : (l : List Token) → first_relation l ≡ None → relation_at l ≡ none
unfolding relation_at
relation_none [] e = refl
relation_none (Name w ∷ ts) e = refl
relation_none (Number m ∷ ts) e = refl
relation_none (Quoted m ∷ ts) e = refl
relation_none (Binary o ∷ ts) e = refl
relation_none (Compare r ∷ ts) e = let z : ◌≡◌ {A = ℕ} 0 1 = cc in absurd (omega arith)
relation_none (Mark m ∷ ts) e = refl

relation_found : (l : List Token) (s : Relation) → first_relation l ≡ Some s → relation_at l ≡ read s (behind_first l)
unfolding relation_at behind_first
relation_found [] s e = let z : ◌≡◌ {A = ℕ} 0 1 = cc in absurd (omega arith)
relation_found (Name w ∷ ts) s e = let z : ◌≡◌ {A = ℕ} 0 1 = cc in absurd (omega arith)
relation_found (Number m ∷ ts) s e = let z : ◌≡◌ {A = ℕ} 0 1 = cc in absurd (omega arith)
relation_found (Quoted m ∷ ts) s e = let z : ◌≡◌ {A = ℕ} 0 1 = cc in absurd (omega arith)
relation_found (Binary o ∷ ts) s e = let z : ◌≡◌ {A = ℕ} 0 1 = cc in absurd (omega arith)
relation_found (Compare r ∷ ts) s e = cc
relation_found (Mark m ∷ ts) s e = let z : ◌≡◌ {A = ℕ} 0 1 = cc in absurd (omega arith)

module _ (fs : List Field) where
  after_first : Read Expression → Read (List Field)
  after_first x =
      next x (λ a behind. next (relation_at behind) (λ r others. read (fs ++ CompareField r ∷ expression_fields a) others))

  first_missing : (x : Read Expression) → none ≡ written expression_fields fs x → none ≡ after_first x
  unfolding written next after_first
  first_missing none e = refl
  first_missing (read a rest) e = let z : ◌≡◌ {A = ℕ} 0 1 = cc in absurd (omega arith)

  unrelated : (x : Read Expression) (gs : List Field) (rest : List Token) → read gs rest ≡ written expression_fields fs x
      → first_relation rest ≡ None → none ≡ after_first x
  unfolding written next after_first
  unrelated none gs rest e f = refl
  unrelated (read a l) gs rest e f =
      let same : rest ≡ l = cc in
      let test : first_relation l ≡ None = rw same at f in
      rw (relation_none l test) refl

  related : (x : Read Expression) (s : Relation) (p : ℕ) (gs hs : List Field) (rest : List Token)
      → read gs rest ≡ written expression_fields fs x → first_relation rest ≡ Some s → length fs ≡ p
      → hs ≡ insert_at p (CompareField s) gs → read hs (behind_first rest) ≡ after_first x
  unfolding written next after_first
  related none s p gs hs rest e f g h = let z : ◌≡◌ {A = ℕ} 0 1 = cc in absurd (omega arith)
  related (read a l) s p gs hs rest e f g h =
      let same : rest ≡ l = cc in
      let all : gs ≡ fs ++ expression_fields a = cc in
      let test : first_relation l ≡ Some s = rw same at f in
      rw (relation_found l s test)
      (ap₂ (λ x y. read x (behind_first y)) (h ∙ ap (insert_at p (CompareField s)) all ∙ insert_at_seam fs (expression_fields a) p (CompareField s) g) same)

  module _ (toks : Tokens) (at : ℕ) where
    pub compared_missing : none ≡ expression_pass fs (ahead toks at)
        → none ≡ compared_pass fs (ahead toks at)
    unfolding after_first
    compared_missing h = first_missing (expression (ahead toks at)) h

    pub compared_unrelated : (gs : List Field) (rest : List Token)
        → read gs rest ≡ expression_pass fs (ahead toks at)
        → first_relation rest ≡ None → none ≡ compared_pass fs (ahead toks at)
    unfolding after_first
    compared_unrelated gs rest h f =
        unrelated (expression (ahead toks at)) gs rest h f

    pub compared_found : (s : Relation) (p a : ℕ) (gs hs : List Field)
        → read gs (ahead toks a) ≡ expression_pass fs (ahead toks at)
        → first_relation (ahead toks a) ≡ Some s → a < toks.count → length fs ≡ p → hs ≡ insert_at p (CompareField s) gs
        → read hs (ahead toks (a + 1)) ≡ compared_pass fs (ahead toks at)
    unfolding after_first
    compared_found s p a gs hs h f i g e =
        ap (λ l. read hs l) (ahead_behind toks a i)
        ∙ related (expression (ahead toks at)) s p gs hs (ahead toks a) h f g e

-- ---- the second expression

module _ (fs : List Field) where
  second_fields : (r : Relation) (a : Expression) (x : Read Expression)
      → written expression_fields (fs ++ CompareField r ∷ expression_fields a) x
      ≡ written condition_fields fs (next x (λ b rest. read (compares r a b) rest))
  unfolding written next condition_fields
  second_fields r a none = refl
  second_fields r a (read b rest) =
      ap (λ l. read l rest) (append_assoc fs (CompareField r ∷ expression_fields a) (expression_fields b))

  related_fields : (a : Expression) (y : Read Relation)
      → next (next y (λ r others. read (fs ++ CompareField r ∷ expression_fields a) others)) (λ g l. expression_pass g l)
      ≡ written condition_fields fs (next y (λ r others. next (expression others) (λ b rest. read (compares r a b) rest)))
  unfolding written next
  related_fields a none = refl
  related_fields a (read r others) = second_fields r a (expression others)

  first_fields : (x : Read Expression)
      → next
      (next x (λ a behind. next (relation_at behind) (λ r others. read (fs ++ CompareField r ∷ expression_fields a) others)))
      (λ g l. expression_pass g l)
      ≡ written condition_fields fs
      (next x (λ a behind. next (relation_at behind) (λ r others. next (expression others) (λ b rest. read (compares r a b) rest))))
  unfolding written next
  first_fields none = refl
  first_fields (read a behind) = related_fields a (relation_at behind)

  module _ (toks : Tokens) (at : ℕ) where
    pub comparison_missing : none ≡ compared_pass fs (ahead toks at) → none ≡ comparison_pass fs (ahead toks at)
    comparison_missing e =
        then_missing (compared_pass fs (ahead toks at)) (λ g l. expression_pass g l) e ∙ first_fields (expression (ahead toks at))

    pub comparison_read : (a : ℕ) (gs : List Field) (r : Read (List Field)) → read gs (ahead toks a) ≡ compared_pass fs (ahead toks at)
        → r ≡ expression_pass gs (ahead toks a) → r ≡ comparison_pass fs (ahead toks at)
    comparison_read a gs r e h =
        then_found (compared_pass fs (ahead toks at)) (λ g l. expression_pass g l) gs (ahead toks a) r e h
        ∙ first_fields (expression (ahead toks at))
