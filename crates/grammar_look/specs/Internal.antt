-- What the functions find at a place of the tokens. A reader of the promises needs none of it.
use Rattle.std.specs.Prelude.{ℕ, ◌-◌, Bool, true, false, Option, None, Some, List, [], ◌∷◌, eqb, get_or, option_and_then}
use Rattle.base.specs.Choice.{pick}
use Rattle.word.specs.declared.Relation.{Relation}
use Rattle.sheet.specs.declared.Operator.{Operator}
use Rattle.sheet.specs.declared.Operator.TheVariants.{Plus, Minus, Times, Over, Power, Left, Right, And, Or, Unlike}
use Rattle.sheet.specs.declared.Field.TheVariants.{Word, Constant}
use Rattle.source.specs.declared.Token.{Token}
use Rattle.source.specs.declared.Token.TheVariants.{Name, Number, Quoted, Binary, Compare, Mark}
use Rattle.source.specs.Tokens.{mark_arrow, mark_open, mark_colon, mark_invert}
use Rattle.source.specs.Grammar.{is_mark, is_equal, is_name, send_word}
use Rattle.source.specs.Memory.{token_of, tokens_from}
use Rattle.grammar_look.specs.declared.Tokens.{Tokens}
use Rattle.grammar_look.specs.declared.Operand.{Operand}
use Rattle.grammar_look.specs.declared.Operand.TheVariants.{Plain, Open}
use Rattle.grammar_look.specs.declared.Lead.{Lead}
use Rattle.grammar_look.specs.declared.Lead.TheVariants.{Plus as PlusLead, Minus as MinusLead, Invert as InvertLead}
use Rattle.grammar_look.specs.declared.Opening.{Opening}
use Rattle.grammar_look.specs.declared.Opening.TheVariants.{Set, Send, Goto}

-- the token at a place of the arrays
abbrev pub token_at : Tokens → ℕ → Token
token_at toks at = token_of (get_or toks.kinds.now at 0) (get_or toks.values.now at 0)

-- the tokens from a place on
abbrev pub ahead : Tokens → ℕ → List Token
ahead toks at = tokens_from at (toks.count - at) toks.kinds.now toks.values.now

abbrev pub first : List Token → Option Token
first [] = None
first (t ∷ ts) = Some t

abbrev pub operand_of : Token → Option Operand
operand_of (Name w) = Some (Plain (Word w))
operand_of (Number n) = Some (Plain (Constant n))
operand_of (Quoted n) = Some (Plain (Constant n))
operand_of (Binary o) = None
operand_of (Compare r) = None
operand_of (Mark m) = pick (eqb m mark_open) (Some Open) None

abbrev pub first_operand : List Token → Option Operand
first_operand ts = option_and_then operand_of (first ts)

abbrev pub operator_lead : Operator → Option Lead
operator_lead Plus = Some PlusLead
operator_lead Minus = Some MinusLead
operator_lead Times = None
operator_lead Over = None
operator_lead Power = None
operator_lead Left = None
operator_lead Right = None
operator_lead And = None
operator_lead Or = None
operator_lead Unlike = None

abbrev pub lead_of : Token → Option Lead
lead_of (Name w) = None
lead_of (Number n) = None
lead_of (Quoted n) = None
lead_of (Binary o) = operator_lead o
lead_of (Compare r) = None
lead_of (Mark m) = pick (eqb m mark_invert) (Some InvertLead) None

abbrev pub first_lead : List Token → Option Lead
first_lead ts = option_and_then lead_of (first ts)

abbrev pub link_of : Token → Option Operator
link_of (Name w) = None
link_of (Number n) = None
link_of (Quoted n) = None
link_of (Binary o) = Some o
link_of (Compare r) = None
link_of (Mark m) = None

abbrev pub first_link : List Token → Option Operator
first_link ts = option_and_then link_of (first ts)

abbrev pub relation_of : Token → Option Relation
relation_of (Name w) = None
relation_of (Number n) = None
relation_of (Quoted n) = None
relation_of (Binary o) = None
relation_of (Compare r) = Some r
relation_of (Mark m) = None

abbrev pub first_relation : List Token → Option Relation
first_relation ts = option_and_then relation_of (first ts)

abbrev pub behind_name : ℕ → Token → Option Opening
behind_name w (Name v) = None
behind_name w (Number n) = None
behind_name w (Quoted n) = None
behind_name w (Binary o) = None
behind_name w (Compare r) = pick (is_equal r) (Some (Set w)) None
behind_name w (Mark m) = pick (eqb m mark_open) (pick (eqb w send_word) (Some Send) None) None

abbrev pub behind_arrow : Token → Option Opening
behind_arrow (Name w) = None
behind_arrow (Number l) = Some (Goto l)
behind_arrow (Quoted n) = None
behind_arrow (Binary o) = None
behind_arrow (Compare r) = None
behind_arrow (Mark m) = None

abbrev pub opening_of : Token → Token → Option Opening
opening_of (Name w) u = behind_name w u
opening_of (Number n) u = None
opening_of (Quoted n) u = None
opening_of (Binary o) u = None
opening_of (Compare r) u = None
opening_of (Mark m) u = pick (eqb m mark_arrow) (behind_arrow u) None

abbrev pub first_opening : List Token → Option Opening
first_opening [] = None
first_opening (t ∷ []) = None
first_opening (t ∷ u ∷ ts) = opening_of t u

abbrev pub first_name : List Token → Bool
first_name [] = false
first_name (t ∷ ts) = is_name t

abbrev pub is_number : Token → Bool
is_number (Name w) = false
is_number (Number n) = true
is_number (Quoted n) = false
is_number (Binary o) = false
is_number (Compare r) = false
is_number (Mark m) = false

abbrev pub first_number : List Token → Bool
first_number [] = false
first_number (t ∷ ts) = is_number t

abbrev pub first_label : List Token → Bool
first_label [] = false
first_label (t ∷ []) = false
first_label (t ∷ u ∷ ts) = pick (is_number t) (is_mark mark_colon u) false
