-- What of its spelling plays no part in how a source is read. Each statement holds for all bytes behind and, where it says
-- `cells`, for all cells of the statement held so far. Numbers of bytes: 10 newline, 32 space, 33 !, 37 %, 59 ;, 67 C.
-- Comments in quotes are document 01's words.
use Prim.Native.Nat.{ℕ, ◌+◌, ◌<◌}
use mathlib.Core.Path.{◌≡◌, refl, ap, sym, ◌∙◌}
use mathlib.Core.List.{List, [], ◌∷◌, ◌++◌, append-nil}
use borrow.Author.Tests.{le-ltb, ne_eqb}
use lib.ListN.{length}
use Rattle.base.specs.Choice.{pick}
use Rattle.source.specs.declared.Mode.{Mode}
use Rattle.source.specs.declared.Mode.TheVariants.{Plain, Keyword, Comment}
use Rattle.source.specs.Limits.{most_bytes, most_cells}
use Rattle.source.specs.Cells.{capital, Turn, goes_on, ends, over, outside, turn, ◌then◌, source_end, on_turn, statements_from, statements}
use Rattle.source.specs.Program.{nothing_read}
use Rattle.source.specs.Source.{answer, program}
use Rattle.source.specs.Spelling.{Outside, plain, keyword, CommentText, EndsComment, by_line, by_semicolon}
use Rattle.source.specs.Spelling.{onward, place_from, Alike, Admitted}
use Rattle.source.proofs.Turns.{plain_capital, keyword_capital, keeps_c, drops_c}

-- ---- "Outside quotes a to z become capitals."

pub letter_case : {m : Mode} → Outside m → (cells : List ℕ) (b : ℕ) (bs : List ℕ)
    → statements_from m cells (b ∷ bs) ≡ statements_from m cells (capital b ∷ bs)
unfolding statements_from
letter_case plain cells b bs = ap (λ t. on_turn t (λ n held. statements_from n held bs)) (plain_capital b cells)
letter_case keyword cells b bs = ap (λ t. on_turn t (λ n held. statements_from n held bs)) (keyword_capital b cells)

module _ (cells bs : List ℕ) where
  -- ---- "Spaces outside quotes vanish."

  pub space : statements_from Plain cells (32 ∷ bs) ≡ statements_from Plain cells bs
  unfolding statements_from on_turn turn outside pick
  space = refl

  -- `%` marks "keyword letters up to the first non-letter, a space included"
  pub space_behind_keyword : statements_from Keyword cells (32 ∷ bs) ≡ statements_from Plain cells bs
  unfolding statements_from on_turn turn outside pick
  space_behind_keyword = refl

  -- ---- a keyword in pieces

  pub percent_again : statements_from Keyword cells (37 ∷ bs) ≡ statements_from Keyword cells bs
  unfolding statements_from on_turn turn outside pick
  percent_again = refl

  pub space_percent : statements_from Keyword cells (32 ∷ 37 ∷ bs) ≡ statements_from Keyword cells bs
  unfolding statements_from on_turn turn outside pick
  space_percent = refl

  -- ---- "A newline outside quotes, when the last cell held is a keyword letter C, is dropped with that C, and the statement
  -- goes on.", where the C and the newline have room

  pub continuation : {m : Mode} → Outside m → length cells + 1 < most_cells
      → statements_from m cells (37 ∷ 67 ∷ 10 ∷ bs) ≡ statements_from Plain cells bs
  unfolding statements_from on_turn turn outside
  continuation plain room = unfold pick in rw (keeps_c cells room, drops_c cells room) refl
  continuation keyword room = unfold pick in rw (keeps_c cells room, drops_c cells room) refl

-- ---- "`;` or newline ends a statement; a statement of nothing is skipped."

module _ (bs : List ℕ) where
  pub empty_line : {m : Mode} → Outside m → statements_from m [] (10 ∷ bs) ≡ statements_from Plain [] bs
  unfolding statements_from on_turn turn outside pick
  empty_line plain = refl
  empty_line keyword = refl

  pub empty_statement : {m : Mode} → Outside m → statements_from m [] (59 ∷ bs) ≡ statements_from Plain [] bs
  unfolding statements_from on_turn turn outside pick
  empty_statement plain = refl
  empty_statement keyword = refl

-- ---- "`!` where no cell of the statement is held yet starts a comment, which swallows all through the next `;` or newline."

swallowed : (text : List ℕ) → CommentText text → (bs : List ℕ) → statements_from Comment [] (text ++ bs) ≡ statements_from Comment [] bs
unfolding statements_from turn on_turn pick
swallowed [] no_end bs = refl
swallowed (b ∷ text) no_end bs =
    rw (ne_eqb b 59 no_end.0.1, ne_eqb b 10 no_end.0.0) (swallowed text no_end.1 bs)

comment_ends : {e : ℕ} → EndsComment e → (bs : List ℕ) → statements_from Comment [] (e ∷ bs) ≡ statements_from Plain [] bs
unfolding statements_from turn on_turn pick
comment_ends by_line bs = refl
comment_ends by_semicolon bs = refl

module _ (bs : List ℕ) where
  comment_starts : {m : Mode} → Outside m → statements_from m [] (33 ∷ bs) ≡ statements_from Comment [] bs
  unfolding statements_from turn on_turn outside pick
  comment_starts plain = refl
  comment_starts keyword = refl

module _ {m : Mode} (o : Outside m) (text : List ℕ) (no_end : CommentText text) where
  pub comment : {e : ℕ} → EndsComment e → (bs : List ℕ) → statements_from m [] (33 ∷ text ++ e ∷ bs) ≡ statements_from Plain [] bs
  comment {e} end bs = comment_starts (text ++ e ∷ bs) o ∙ swallowed text no_end (e ∷ bs) ∙ comment_ends end bs

  -- a comment may be the last of a source
  pub last_comment : statements_from m [] (33 ∷ text) ≡ statements_from Plain [] []
  unfolding statements_from source_end pick
  last_comment = comment_starts text o ∙ sym (ap (statements_from Comment []) (append-nil text)) ∙ swallowed text no_end []

-- ---- anywhere in a source

alike_on :
    (t : Turn) (front a b : List ℕ)
    → ((m : Mode) (cells : List ℕ)
    → Alike (place_from m cells front) a b
    → statements_from m cells (front ++ a) ≡ statements_from m cells (front ++ b))
    → Alike (onward t (λ n held. place_from n held front)) a b
    → on_turn t (λ n held. statements_from n held (front ++ a)) ≡ on_turn t (λ n held. statements_from n held (front ++ b))
unfolding on_turn
alike_on (goes_on m cells) front a b more e = more m cells e
alike_on (ends cells) front a b more e = ap (λ l. cells then l) (more Plain [] e)
alike_on over front a b more e = refl

alike_from : (front a b : List ℕ) (m : Mode) (cells : List ℕ) → Alike (place_from m cells front) a b
    → statements_from m cells (front ++ a) ≡ statements_from m cells (front ++ b)
unfolding statements_from
alike_from [] a b m cells e = e
alike_from (c ∷ front) a b m cells e =
    alike_on (turn m c cells) front a b (λ n held more. alike_from front a b n held more) e

-- so each law above holds behind every front that leads to the mode and cells that it names
pub anywhere : (front a b : List ℕ) → Alike (place_from Plain [] front) a b → statements (front ++ a) ≡ statements (front ++ b)
anywhere front a b e = alike_from front a b Plain [] e

-- ---- what is read alike is answered alike

pub answered : (source : List ℕ) → Admitted source → answer source ≡ program nothing_read 0 (statements source)
unfolding pick
answered source a = rw (le-ltb most_bytes (length source) a.few, a.allowed) refl

pub same_answer : (a b : List ℕ) → Admitted a → Admitted b → statements a ≡ statements b → answer a ≡ answer b
same_answer a b x y e = answered a x ∙ ap (program nothing_read 0) e ∙ sym (answered b y)
