-- The syntax of statements, document 01 ("Statements") and 02, L1 and L5, as relations between tokens and what they stand for. It
-- speaks of no reader: proofs/Syntax shows that `form` of Grammar finds these forms and no others. In tokens a name is its word,
-- and SEND is `send_word`; whether a name is known, and whether a label is "1 to 9999", is no matter of form. Comments in quotes
-- are their words.
use Rattle.std.specs.Prelude.{ℕ, suc, List, [], ◌∷◌, ◌++◌}
use Rattle.word.specs.declared.Relation.{Relation}
use Rattle.word.specs.declared.Relation.TheVariants.{Equal}
use Rattle.sheet.specs.declared.Operator.{Operator}
use Rattle.sheet.specs.declared.Operator.TheVariants.{Plus, Minus}
use Rattle.sheet.specs.declared.Joining.{Joining}
use Rattle.sheet.specs.Sheet.{Expression, word, constant, negated, inverted, binary, Simple, set, send, goto}
use Rattle.sheet.specs.Sheet.{Condition, compares}
use Rattle.sheet.specs.Merge.{join_of}
use Rattle.source.specs.declared.Token.{Token}
use Rattle.source.specs.declared.Token.TheVariants.{Name, Number, Quoted, Binary, Compare, Mark}
use Rattle.source.specs.Tokens.{mark_begin, mark_end, mark_integer, mark_if, mark_then, mark_else, mark_arrow, mark_open}
use Rattle.source.specs.Tokens.{mark_start, mark_finish, mark_close, mark_comma, mark_colon, mark_invert}
use Rattle.source.specs.Grammar.{level, send_word, mark_of, Instruction, simple, if_then, if_else, if_start}
use Rattle.source.specs.Grammar.{Form, beginning, declaration, ending, labels, instruction, finish, finish_else}

-- ---- expressions. "An expression may begin with one `+`, `-` or `\`, also inside brackets, nowhere else."

-- where a part of an expression stands: at its beginning, or behind a sign or an operator
pub data Place : Type 0 where
  first : Place
  later : Place

mutual
  -- a name, a constant, or an expression in brackets
  pub data Operand : List Token → Expression → Type 0 where
    named : (w : ℕ) → Operand (Name w ∷ []) (word w)
    decimal : (n : ℕ) → Operand (Number n ∷ []) (constant n)
    quoted : (n : ℕ) → Operand (Quoted n ∷ []) (constant n)
    bracketed : {ts : List Token} {e : Expression} → Expressed ts e → Operand (Mark mark_open ∷ ts ++ Mark mark_close ∷ []) e

  -- a part whose operators outside brackets are of level n or higher. "Levels, highest first: `\`; `** << >>`; `* / &`;
  -- `+ - ! !!`.": 4 is that of `\` and of an operand alone; `level` has the others, 3, 2 and 1
  pub data Level : Place → ℕ → List Token → Expression → Type 0 where
    operand : {p : Place} {ts : List Token} {e : Expression} → Operand ts e → Level p 4 ts e
    inverse : {ts : List Token} {e : Expression} → Operand ts e → Level first 4 (Mark mark_invert ∷ ts) (inverted e)
    higher : {p : Place} {n : ℕ} {ts : List Token} {e : Expression} → Level p (suc n) ts e → Level p n ts e
    -- "Equal levels go left to right."
    operation : {p : Place} {ts us : List Token} {l r : Expression} (o : Operator) → Level p (level o) ts l
        → Level later (suc (level o)) us r → Level p (level o) (ts ++ Binary o ∷ us) (binary o l r)
    -- "A leading minus has the lowest level, that of binary `-`: `-2**2` is -4 and `-A+B` is `(-A)+B`."
    minus : {ts : List Token} {e : Expression} → Level later (suc (level Minus)) ts e
        → Level first (level Minus) (Binary Minus ∷ ts) (negated e)

  -- a part of the lowest level; "a leading plus left out"
  pub data Expressed : List Token → Expression → Type 0 where
    expression : {ts : List Token} {e : Expression} → Level first 1 ts e → Expressed ts e
    plus : {ts : List Token} {e : Expression} → Level later 1 ts e → Expressed (Binary Plus ∷ ts) e

-- ---- instructions. "An instruction is `name = expr`, `SEND(expr)`, `->label`, or `%IF expr rel expr %THEN u` with an
-- optional `%ELSE u`, where u is one of the first three. rel is `= # < <= > >=`." A condition is more than `expr rel expr` (02, L5).

-- u
pub data Simply : List Token → Simple → Type 0 where
  assignment : (w : ℕ) {ts : List Token} {e : Expression} → Expressed ts e → Simply (Name w ∷ Compare Equal ∷ ts) (set w e)
  sending : {ts : List Token} {e : Expression} → Expressed ts e
      → Simply (Name send_word ∷ Mark mark_open ∷ ts ++ Mark mark_close ∷ []) (send e)
  jump : (l : ℕ) → Simply (Mark mark_arrow ∷ Number l ∷ []) (goto l)

-- "`%AND`, `%OR` and bracketed conditions"
mutual
  -- "expr rel expr", or a condition in brackets
  pub data Member : List Token → Condition → Type 0 where
    comparison : {xs ys : List Token} {a b : Expression} (r : Relation) → Expressed xs a → Expressed ys b
        → Member (xs ++ Compare r ∷ ys) (compares r a b)
    enclosed : {ts : List Token} {c : Condition} → Asked ts c → Member (Mark mark_open ∷ ts ++ Mark mark_close ∷ []) c

  -- two members or more, joined by one word: "Mixing the two without brackets is refusal 7"
  pub data Joined : Joining → List Token → Condition → Type 0 where
    two : (w : Joining) {ts us : List Token} {a b : Condition} → Member ts a → Member us b
        → Joined w (ts ++ Mark (mark_of w) ∷ us) (join_of w a b)
    more : (w : Joining) {ts us : List Token} {a b : Condition} → Joined w ts a → Member us b
        → Joined w (ts ++ Mark (mark_of w) ∷ us) (join_of w a b)

  pub data Asked : List Token → Condition → Type 0 where
    single : {ts : List Token} {c : Condition} → Member ts c → Asked ts c
    run : {w : Joining} {ts : List Token} {c : Condition} → Joined w ts c → Asked ts c

pub data Instructed : List Token → Instruction → Type 0 where
  simply : {ts : List Token} {u : Simple} → Simply ts u → Instructed ts (simple u)
  conditional : {xs us : List Token} {c : Condition} {u : Simple} → Asked xs c → Simply us u
      → Instructed (Mark mark_if ∷ xs ++ Mark mark_then ∷ us) (if_then c u)
  alternative : {xs us ws : List Token} {c : Condition} {u w : Simple} → Asked xs c → Simply us u → Simply ws w
      → Instructed (Mark mark_if ∷ xs ++ Mark mark_then ∷ us ++ Mark mark_else ∷ ws) (if_else c u w)
  -- "`%IF .. %THEN %START`"
  opening : {xs : List Token} {c : Condition} → Asked xs c
      → Instructed (Mark mark_if ∷ xs ++ Mark mark_then ∷ Mark mark_start ∷ []) (if_start c)

-- ---- statements

-- names parted by commas
pub data NameList : List Token → Type 0 where
  last : (w : ℕ) → NameList (Name w ∷ [])
  comma : (w : ℕ) {ts : List Token} → NameList ts → NameList (Name w ∷ Mark mark_comma ∷ ts)

-- "Any number of `label:`"
pub data LabelList : List Token → List ℕ → Type 0 where
  none : LabelList [] []
  label : (l : ℕ) {ts : List Token} {ls : List ℕ} → LabelList ts ls → LabelList (Number l ∷ Mark mark_colon ∷ ts) (l ∷ ls)

-- "`%BEGIN` first; then any number of `%INTEGER` name lists; then any number of instructions; then `%ENDOFPROGRAM`,
-- unlabelled"; labels "may stand before an instruction or alone". (No tokens are no labels alone; a statement of nothing is
-- skipped before its form is asked for.)
pub data Stated : List Token → Form → Type 0 where
  begin : Stated (Mark mark_begin ∷ []) beginning
  integers : {ts : List Token} → NameList ts → Stated (Mark mark_integer ∷ ts) declaration
  instructed : {ts us : List Token} {ls : List ℕ} {i : Instruction} → LabelList ts ls → Instructed us i
      → Stated (ts ++ us) (instruction ls i)
  alone : {ts : List Token} {ls : List ℕ} → LabelList ts ls → Stated ts (labels ls)
  -- "`%FINISH`, and `%FINISH %ELSE %START`"
  finishes : Stated (Mark mark_finish ∷ []) finish
  goes_on : Stated (Mark mark_finish ∷ Mark mark_else ∷ Mark mark_start ∷ []) finish_else
  end : Stated (Mark mark_end ∷ []) ending
