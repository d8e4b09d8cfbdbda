-- What the private functions do. A reader of the promises needs none of it.
use Rattle.std.specs.Prelude.{ℕ, ◌*◌, ◌≤◌, ◌≡◌, Result, List, ◌++◌}
use Rattle.source.specs.declared.Token.{Token}
use Rattle.source.specs.Grammar.{Labelled, labelled, labels_at}
use Rattle.source.specs.Memory.{tokens_from}
use Rattle.grammar_look.specs.declared.Tokens.{Tokens}
use Rattle.grammar_look.specs.Internal.{ahead}
use Rattle.grammar.specs.declared.Form.{Form}
use Rattle.grammar.specs.declared.Failure.{Failure}
use Rattle.grammar.specs.Answers.{Told, told, labels_in}

-- labels in front of others
abbrev pub further_all : List ℕ → Labelled → Labelled
further_all ms (labelled ls ts) = labelled (ms ++ ls) ts

-- the tokens of a statement
abbrev pub all_of : Tokens → List Token
all_of toks = tokens_from 0 toks.count toks.kinds.now toks.values.now

-- r is the number of their labels
pub record LabelsOf (toks : Tokens) (r : ℕ) : Type 0 where
  pub found : labels_at (all_of toks) ≡ labelled (labels_in r (all_of toks)) (ahead toks (2 * r))
  pub inside : 2 * r ≤ toks.count

-- an answer that says neither labels nor fields
abbrev pub Tells : Result Form Failure → Told → Type 0
Tells r t = (ts : List Token) (fs : List ℕ) → told ts r fs ≡ t
