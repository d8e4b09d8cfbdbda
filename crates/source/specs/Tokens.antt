-- From cells to tokens, document 01: "A run of keyword letters is cut from the left, always taking the longest of BEGIN
-- ENDOFPROGRAM INTEGER IF THEN ELSE", of START and FINISH of 02, L1, and of AND and OR of L5. "A name is a letter and the letters and digits after it,
-- compared whole." Comments in quotes are document 01's words.
use Rattle.std.specs.Prelude.{ℕ, zero, suc, ◌+◌, ◌-◌, ◌*◌, Bool, true, false, List, [], ◌∷◌, ltb, leb, eqb, length}
use Prim.Native.String.{String}
use Rattle.base.specs.Choice.{pick}
use Rattle.base.specs.Text.{bytes}
use Rattle.base.specs.Front.{found, missing, on_front}
use Rattle.word.specs.declared.Relation.TheVariants.{Equal, Unequal, Less, AtMost, Greater, AtLeast}
use Rattle.text.specs.Pieces.{Front, fixed}
use Rattle.sheet.specs.declared.Operator.TheVariants.{Plus, Minus, Times, Over, Power, Left, Right, And, Or, Unlike}
use Rattle.source.specs.declared.Token.{Token}
use Rattle.source.specs.declared.Token.TheVariants.{Number, Quoted, Binary, Compare, Mark}
use Rattle.source.specs.Limits.{greatest_constant}
use Rattle.source.specs.Cells.{is_capital, is_small}

-- ---- marks: the numbers of keywords, of -> and of single characters; a character of no token is a mark that no form has

abbrev pub mark_begin : ℕ
mark_begin = 128

abbrev pub mark_end : ℕ
mark_end = 129

abbrev pub mark_integer : ℕ
mark_integer = 130

abbrev pub mark_if : ℕ
mark_if = 131

abbrev pub mark_then : ℕ
mark_then = 132

abbrev pub mark_else : ℕ
mark_else = 133

abbrev pub mark_arrow : ℕ
mark_arrow = 134

abbrev pub mark_start : ℕ
mark_start = 135

abbrev pub mark_finish : ℕ
mark_finish = 136

abbrev pub mark_and : ℕ
mark_and = 137

abbrev pub mark_or : ℕ
mark_or = 138

abbrev pub mark_open : ℕ
mark_open = 40

abbrev pub mark_close : ℕ
mark_close = 41

abbrev pub mark_comma : ℕ
mark_comma = 44

abbrev pub mark_colon : ℕ
mark_colon = 58

-- `\`
abbrev pub mark_invert : ℕ
mark_invert = 92

-- ---- fixed strings

-- a string and the token that it is
pub data Sign : Type 0 where
  sign : String → Token → Sign

-- the longest first; keyword letters are small in cells
abbrev pub keywords : List Sign
keywords =
    sign "endofprogram" (Mark mark_end)
    ∷ sign "integer" (Mark mark_integer)
    ∷ sign "finish" (Mark mark_finish)
    ∷ sign "begin" (Mark mark_begin)
    ∷ sign "start" (Mark mark_start)
    ∷ sign "then" (Mark mark_then)
    ∷ sign "else" (Mark mark_else)
    ∷ sign "and" (Mark mark_and)
    ∷ sign "if" (Mark mark_if)
    ∷ sign "or" (Mark mark_or)
    ∷ []

-- "`** << >> !! -> <= >=` are taken whenever both characters are there."
abbrev pub pairs : List Sign
pairs =
    sign "**" (Binary Power)
    ∷ sign "<<" (Binary Left)
    ∷ sign ">>" (Binary Right)
    ∷ sign "!!" (Binary Unlike)
    ∷ sign "->" (Mark mark_arrow)
    ∷ sign "<=" (Compare AtMost)
    ∷ sign ">=" (Compare AtLeast)
    ∷ []

abbrev pub singles : List Sign
singles =
    sign "+" (Binary Plus)
    ∷ sign "-" (Binary Minus)
    ∷ sign "*" (Binary Times)
    ∷ sign "/" (Binary Over)
    ∷ sign "&" (Binary And)
    ∷ sign "!" (Binary Or)
    ∷ sign "=" (Compare Equal)
    ∷ sign "#" (Compare Unequal)
    ∷ sign "<" (Compare Less)
    ∷ sign ">" (Compare Greater)
    ∷ []

-- the token of the first of these strings that stands at the front
unfoldable pub first_of : List Sign → List ℕ → Front Token
first_of [] cells = missing
first_of (sign s t ∷ signs) cells = on_front (fixed (bytes s) cells) (λ b rest. found t rest) (first_of signs cells)

-- ---- one token

-- a token; a name is what it is spelled
pub data Lexeme : Type 0 where
  name : List ℕ → Lexeme
  token : Token → Lexeme

-- what stands at the front of cells and the cells behind it, or a refusal with 5 or 6
pub data One : Type 0 where
  one : Lexeme → List ℕ → One
  wrong : ℕ → One

-- the cells in front that all pass a test, and those behind them
unfoldable pub run : (ℕ → Bool) → List ℕ → List ℕ
run test [] = []
run test (c ∷ cells) = pick (test c) (c ∷ run test cells) []

unfoldable pub past_run : (ℕ → Bool) → List ℕ → List ℕ
past_run test [] = []
past_run test (c ∷ cells) = pick (test c) (past_run test cells) (c ∷ cells)

abbrev pub is_digit : ℕ → Bool
is_digit c = pick (leb 48 c) (leb c 57) false

abbrev pub in_name : ℕ → Bool
in_name c = pick (is_capital c) true (is_digit c)

abbrev pub name_at : List ℕ → One
name_at cells = one (name (run in_name cells)) (past_run in_name cells)

-- "unknown keyword"
abbrev pub keyword_at : List ℕ → One
keyword_at cells = on_front (first_of keywords cells) (λ t rest. one (token t) rest) (wrong 5)

-- the value of digits behind those that make v
unfoldable pub decimal_value : ℕ → List ℕ → ℕ
decimal_value v [] = v
decimal_value v (c ∷ cells) = decimal_value (v * 10 + (c - 48)) cells

abbrev pub decimal_at : List ℕ → One
decimal_at cells =
    pick
    (ltb greatest_constant (decimal_value 0 (run is_digit cells)))
    (wrong 6)
    (one (token (Number (decimal_value 0 (run is_digit cells)))) (past_run is_digit cells))

-- the characters up to the closing quote, "a doubled quote being one", and the cells behind it
pub data Text : Type 0 where
  text : List ℕ → List ℕ → Text
  unclosed : Text

abbrev pub longer : ℕ → Text → Text
longer c (text cs rest) = text (c ∷ cs) rest
longer c unclosed = unclosed

unfoldable pub text_at : List ℕ → Text
text_at [] = unclosed
text_at (c ∷ []) = pick (eqb c 39) (text [] []) unclosed
text_at (c ∷ d ∷ cells) =
    pick
    (eqb c 39)
    (pick (eqb d 39) (longer 39 (text_at cells)) (text [] (d ∷ cells)))
    (longer c (text_at (d ∷ cells)))

-- "packed eight bits each, the last lowest", behind those that make v
unfoldable pub packed : ℕ → List ℕ → ℕ
packed v [] = v
packed v (c ∷ cs) = packed (v * 256 + c) cs

-- "A quoted constant has one to four characters"; no statement ends in quotes
abbrev pub constant_of : Text → One
constant_of unclosed = wrong 6
constant_of (text cs rest) =
    pick
    (eqb (length cs) 0)
    (wrong 6)
    (pick (ltb 4 (length cs)) (wrong 6) (one (token (Quoted (packed 0 cs))) rest))

-- a pair, a single one, or any other character
abbrev pub sign_at : ℕ → List ℕ → One
sign_at c cells =
    on_front
    (first_of pairs (c ∷ cells))
    (λ t rest. one (token t) rest)
    (on_front (first_of singles (c ∷ cells)) (λ t rest. one (token t) rest) (one (token (Mark c)) cells))

-- what stands at the front of the cells c and those behind it
unfoldable pub lexeme : ℕ → List ℕ → One
lexeme c cells =
    pick
    (is_small c)
    (keyword_at (c ∷ cells))
    (pick
    (is_capital c)
    (name_at (c ∷ cells))
    (pick (is_digit c) (decimal_at (c ∷ cells)) (pick (eqb c 39) (constant_of (text_at cells)) (sign_at c cells))))

-- ---- all cells. "then the first of 5 and 6 from the left"

pub data Lexed : Type 0 where
  lexed : List Lexeme → Lexed
  refused : ℕ → Lexed

abbrev pub behind : Lexeme → Lexed → Lexed
behind x (lexed xs) = lexed (x ∷ xs)
behind x (refused n) = refused n

unfoldable pub on_one : One → (List ℕ → Lexed) → Lexed
on_one (one x rest) others = behind x (others rest)
on_one (wrong n) others = refused n

-- at most k tokens
unfoldable pub lexemes_in : ℕ → List ℕ → Lexed
lexemes_in zero cells = lexed []
lexemes_in (suc k) [] = lexed []
lexemes_in (suc k) (c ∷ cells) = on_one (lexeme c cells) (λ rest. lexemes_in k rest)

-- each token has a cell
abbrev pub lexemes : List ℕ → Lexed
lexemes cells = lexemes_in (length cells) cells
