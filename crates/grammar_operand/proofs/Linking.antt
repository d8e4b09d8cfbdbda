-- One pass over a chain writes the fields of its tree.
use Prim.Native.Nat.{ℕ, zero, suc, ◌+◌}
use mathlib.Core.Path.{◌≡◌, refl, sym, ap, ap₂, ◌∙◌}
use mathlib.Core.List.{List, [], ◌∷◌, ◌++◌, append_assoc, append-nil}
use native.Mathlib.Omega.{arith}
use lib.ListN.{length, length-append}
use Rattle.base.specs.Choice.{pick}
use Rattle.sheet.specs.declared.Operator.{Operator}
use Rattle.sheet.specs.declared.Field.{Field}
use Rattle.sheet.specs.declared.Field.TheVariants.{Neg, Binary as BinaryField}
use Rattle.sheet.specs.Sheet.{Expression, inverted, binary}
use Rattle.sheet.specs.Fields.{expression_fields}
use Rattle.source.specs.declared.Token.{Token}
use Rattle.source.specs.declared.Token.TheVariants.{Name, Number, Quoted, Binary, Compare, Mark}
use Rattle.source.specs.Grammar.{Read, read, none, next, operand_by, links_by, chain_by, Link, link, level, tree}
use Rattle.source.specs.Grammar.{Lead, bare, minus, invert, start, highest}
use Rattle.source.proofs.Joining.{Front, nothing, negation, left_of, behind_front, tree_from, tree_end, tree_high, tree_middle}
use Rattle.source.proofs.Joining.{tree_low, lead_front, tree_whole, by_level}
use Rattle.grammar_output.specs.declared.Places.{Places}
use Rattle.grammar_output.specs.Internal.{written, insert_at, place_for, places_after}
use Rattle.grammar_output.proofs.Shifting.{insert_at_seam}
use Rattle.grammar_lead.specs.Internal.{lead_fields, upper_place}
use Rattle.grammar_operand.specs.Internal.{links_pass, operand_pass}

-- the fields of a front, and those of what is behind it
abbrev front_fields : Front → List Field
front_fields nothing = []
front_fields negation = Neg ∷ []
front_fields (left_of o l) = BinaryField o ∷ expression_fields l

front_fields_law : (u : Front) (e : Expression) → expression_fields (behind_front u e) ≡ front_fields u ++ expression_fields e
unfolding expression_fields
front_fields_law nothing e = refl
front_fields_law negation e = refl
front_fields_law (left_of o l) e = refl

-- the fields written so far, and the places
abbrev so_far : List Field → Front → Front → Expression → List Field
so_far fs u w e = fs ++ front_fields u ++ front_fields w ++ expression_fields e

abbrev places : ℕ → ℕ → ℕ → Places
places a b c = record { low = a; middle = b; high = c }

abbrev places_of : List Field → Front → Front → Places
places_of fs u w =
    places (length fs) (length (fs ++ front_fields u)) (length (fs ++ front_fields u ++ front_fields w))

both_fields : (u w : Front) (e : Expression)
    → expression_fields (behind_front u (behind_front w e)) ≡ front_fields u ++ (front_fields w ++ expression_fields e)
both_fields u w e = front_fields_law u (behind_front w e) ∙ ap (λ l. front_fields u ++ l) (front_fields_law w e)

all_fields_law : (fs : List Field) (u w : Front) (e : Expression) → so_far fs u w e ≡ fs ++ expression_fields (behind_front u (behind_front w e))
all_fields_law fs u w e =
    append_assoc (fs ++ front_fields u) (front_fields w) (expression_fields e)
    ∙ append_assoc fs (front_fields u) (front_fields w ++ expression_fields e)
    ∙ ap (λ l. fs ++ l) (sym (both_fields u w e))

-- what a link of each level does to both
module _ (fs : List Field) (u w : Front) (e r : Expression) (o : Operator) where
  after : Places
  after = places_after (places_of fs u w) o (length (so_far fs u w e) + 1)

  with_link : List Field
  with_link = insert_at (place_for (places_of fs u w) o) (BinaryField o) (so_far fs u w e) ++ expression_fields r

  high_fields : level o ≡ 3 → with_link ≡ so_far fs u w (binary o e r)
  unfolding with_link pick expression_fields
  high_fields h =
      rw h
      (ap (λ l. l ++ expression_fields r)
      (insert_at_seam (fs ++ front_fields u ++ front_fields w) (expression_fields e) _ (BinaryField o) refl)
      ∙ append_assoc (fs ++ front_fields u ++ front_fields w) (BinaryField o ∷ expression_fields e) (expression_fields r))

  high_places : level o ≡ 3 → after ≡ places_of fs u w
  unfolding after pick
  high_places h = rw h refl

  middle_fields : level o ≡ 2 → with_link ≡ so_far fs u (left_of o (behind_front w e)) r
  unfolding with_link pick
  middle_fields h =
      rw h
      (ap (λ l. insert_at (length (fs ++ front_fields u)) (BinaryField o) l ++ expression_fields r)
      (append_assoc (fs ++ front_fields u) (front_fields w) (expression_fields e))
      ∙ ap (λ l. l ++ expression_fields r)
      (insert_at_seam (fs ++ front_fields u) (front_fields w ++ expression_fields e) _ (BinaryField o) refl)
      ∙ ap (λ l. fs ++ front_fields u ++ (BinaryField o ∷ l) ++ expression_fields r) (sym (front_fields_law w e)))

  middle_places : level o ≡ 2 → after ≡ places_of fs u (left_of o (behind_front w e))
  unfolding after pick
  middle_places h =
      rw h
      (ap (λ c. places (length fs) (length (fs ++ front_fields u)) c)
      (ap (λ l. length l + 1)
      (append_assoc (fs ++ front_fields u) (front_fields w) (expression_fields e)
      ∙ ap (λ l. fs ++ front_fields u ++ l) (sym (front_fields_law w e)))
      ∙ one_more_law (fs ++ front_fields u) (expression_fields (behind_front w e)) (BinaryField o)))
    where
      one_more_law : (l m : List Field) (f : Field) → length (l ++ m) + 1 ≡ length (l ++ (f ∷ m))
      one_more_law l m f = omega (arith, length-append l m, length-append l (f ∷ m))

  low_fields : level o ≡ 1 → with_link ≡ so_far fs (left_of o (behind_front u (behind_front w e))) nothing r
  unfolding with_link pick
  low_fields h =
      rw h
      (ap (λ l. insert_at (length fs) (BinaryField o) l ++ expression_fields r) (all_fields_law fs u w e)
      ∙ ap (λ l. l ++ expression_fields r)
      (insert_at_seam fs (expression_fields (behind_front u (behind_front w e))) _ (BinaryField o) refl
      ∙ sym (append-nil (fs ++ (BinaryField o ∷ expression_fields (behind_front u (behind_front w e)))))))

  low_places : level o ≡ 1 → after ≡ places_of fs (left_of o (behind_front u (behind_front w e))) nothing
  unfolding after pick
  low_places h =
      let free : length (so_far fs u w e) + 1 ≡ length (fs ++ (BinaryField o ∷ expression_fields (behind_front u (behind_front w e)))) =
      ap (λ l. length l + 1) (all_fields_law fs u w e) ∙ one_more_law fs (expression_fields (behind_front u (behind_front w e))) (BinaryField o) in
      rw h
      (ap₂ (λ b c. places (length fs) b c) free
      (free ∙ ap length (sym (append-nil (fs ++ (BinaryField o ∷ expression_fields (behind_front u (behind_front w e))))))))
    where
      one_more_law : (l m : List Field) (f : Field) → length (l ++ m) + 1 ≡ length (l ++ (f ∷ m))
      one_more_law l m f = omega (arith, length-append l m, length-append l (f ∷ m))

-- a link more, where what is written from it on agrees with the tree from it on
one_link : (fs : List Field) (u w u₁ w₁ : Front) (e e₁ r : Expression) (o : Operator)
    → ((ls : List Link) → tree_from u w e (link o r ∷ ls) ≡ tree_from u₁ w₁ e₁ ls) → (y : Read (List Link))
    → written (λ ls. expression_fields (tree_from u₁ w₁ e₁ ls)) fs y
    ≡ written (λ ls. expression_fields (tree_from u w e ls)) fs (next y (λ ls l. read (link o r ∷ ls) l))
unfolding written next
one_link fs u w u₁ w₁ e e₁ r o h none = refl
one_link fs u w u₁ w₁ e e₁ r o h (read ls l) = ap (λ t. read (fs ++ expression_fields t) l) (sym (h ls))

-- where the places are behind what a chain begins with
abbrev pub start_places : Lead → ℕ → Places
start_places l out = places out (upper_place l out) (upper_place l out)

module _ (inner : List Token → Read Expression) where
  AgreesAt : ℕ → Type 0
  AgreesAt k =
      (fs : List Field) (u w : Front) (e : Expression) (ts : List Token)
      → links_pass inner k (places_of fs u w) (so_far fs u w e) ts
      ≡ written (λ ls. expression_fields (tree_from u w e ls)) fs (links_by inner k ts)

  agrees_stop : (fs : List Field) (u w : Front) (e : Expression) (ts : List Token)
      → read (so_far fs u w e) ts ≡ written (λ ls. expression_fields (tree_from u w e ls)) fs (read [] ts)
  unfolding written
  agrees_stop fs u w e ts =
      ap (λ l. read l ts) (all_fields_law fs u w e ∙ ap (λ t. fs ++ expression_fields t) (sym (tree_end u w e)))

  agrees_link : (k : ℕ) → AgreesAt k → (fs : List Field) (u w : Front) (e : Expression) (o : Operator) (x : Read Expression)
      → next x (λ r rest. links_pass inner k (places_after (places_of fs u w) o (length (so_far fs u w e) + 1))
      (insert_at (place_for (places_of fs u w) o) (BinaryField o) (so_far fs u w e) ++ expression_fields r) rest)
      ≡ written (λ ls. expression_fields (tree_from u w e ls)) fs
      (next x (λ r rest. next (links_by inner k rest) (λ ls l. read (link o r ∷ ls) l)))
  unfolding next written AgreesAt after with_link
  agrees_link k ih fs u w e o none = refl
  agrees_link k ih fs u w e o (read r rest) =
      by_level o
      (λ h. ap₂ (λ p l. links_pass inner k p l rest) (low_places fs u w e r o h) (low_fields fs u w e r o h)
      ∙ ih fs (left_of o (behind_front u (behind_front w e))) nothing r rest
      ∙ one_link fs u w (left_of o (behind_front u (behind_front w e))) nothing e r r o (λ ls. tree_low u w e r o ls h) (links_by inner k rest))
      (λ h. ap₂ (λ p l. links_pass inner k p l rest) (middle_places fs u w e r o h) (middle_fields fs u w e r o h)
      ∙ ih fs u (left_of o (behind_front w e)) r rest
      ∙ one_link fs u w u (left_of o (behind_front w e)) e r r o (λ ls. tree_middle u w e r o ls h) (links_by inner k rest))
      (λ h. ap₂ (λ p l. links_pass inner k p l rest) (high_places fs u w e r o h) (high_fields fs u w e r o h)
      ∙ ih fs u w (binary o e r) rest
      ∙ one_link fs u w u w e (binary o e r) r o (λ ls. tree_high u w e r o ls h) (links_by inner k rest))

  agrees : (k : ℕ) → AgreesAt k
  unfolding AgreesAt links_pass links_by written
  agrees zero fs u w e ts = refl
  agrees (suc k) fs u w e [] = agrees_stop fs u w e []
  agrees (suc k) fs u w e (Name v ∷ ts) = agrees_stop fs u w e (Name v ∷ ts)
  agrees (suc k) fs u w e (Number n ∷ ts) = agrees_stop fs u w e (Number n ∷ ts)
  agrees (suc k) fs u w e (Quoted n ∷ ts) = agrees_stop fs u w e (Quoted n ∷ ts)
  agrees (suc k) fs u w e (Binary o ∷ ts) = agrees_link k (agrees k) fs u w e o (operand_by inner ts)
  agrees (suc k) fs u w e (Compare r ∷ ts) = agrees_stop fs u w e (Compare r ∷ ts)
  agrees (suc k) fs u w e (Mark m ∷ ts) = agrees_stop fs u w e (Mark m ∷ ts)

  -- a whole chain: behind the fields of what it begins with, an operand and the links
  chain_lead : (k : ℕ) (l : Lead) (fs : List Field) (e : Expression) (ts : List Token)
      → links_pass inner k (start_places l (length fs)) (fs ++ lead_fields l ++ expression_fields e) ts
      ≡ written (λ ls. expression_fields (tree_from (lead_front l) nothing (highest l e) ls)) fs (links_by inner k ts)
  unfolding AgreesAt expression_fields
  chain_lead k bare fs e ts =
      ap₂ (λ p g. links_pass inner k p g ts)
      (ap₂ (places (length fs)) (ap length (sym (append-nil fs))) (ap length (sym (append-nil (fs ++ []) ∙ append-nil fs))))
      (ap (λ g. g ++ expression_fields e) (sym (append-nil (fs ++ []))))
      ∙ agrees k fs nothing nothing e ts
  chain_lead k minus fs e ts =
      let n : length fs + 1 ≡ length (fs ++ (Neg ∷ [])) = omega (arith, length-append fs (Neg ∷ [])) in
      ap₂ (λ p g. links_pass inner k p g ts)
      (ap₂ (places (length fs)) n (n ∙ ap length (sym (append-nil (fs ++ (Neg ∷ []))))))
      (ap (λ g. g ++ expression_fields e) (sym (append-nil (fs ++ (Neg ∷ [])))))
      ∙ agrees k fs negation nothing e ts
  chain_lead k invert fs e ts =
      ap₂ (λ p g. links_pass inner k p g ts)
      (ap₂ (places (length fs)) (ap length (sym (append-nil fs))) (ap length (sym (append-nil (fs ++ []) ∙ append-nil fs))))
      (append_assoc fs (lead_fields invert) (expression_fields e)
      ∙ ap (λ g. g ++ expression_fields (inverted e)) (sym (append-nil (fs ++ []) ∙ append-nil fs)))
      ∙ agrees k fs nothing nothing (inverted e) ts

  whole_tree : (l : Lead) (fs : List Field) (e : Expression) (y : Read (List Link))
      → written (λ ls. expression_fields (tree_from (lead_front l) nothing (highest l e) ls)) fs y
      ≡ written expression_fields fs (next y (λ ls others. read (tree l e ls) others))
  unfolding written next
  whole_tree l fs e none = refl
  whole_tree l fs e (read ls rest) = ap (λ t. read (fs ++ expression_fields t) rest) (sym (tree_whole l e ls))

  chain_from : (k : ℕ) (l : Lead) (fs : List Field) (x : Read Expression)
      → next x (λ e rest. links_pass inner k (start_places l (length fs)) (fs ++ lead_fields l ++ expression_fields e) rest)
      ≡ written expression_fields fs
      (next x (λ e others. next (links_by inner k others) (λ ls more. read (tree l e ls) more)))
  unfolding written next
  chain_from k l fs none = refl
  chain_from k l fs (read e others) = chain_lead k l fs e others ∙ whole_tree l fs e (links_by inner k others)

  pub chain_agrees : (k : ℕ) (l : Lead) (fs : List Field) (ts : List Token)
      → operand_pass inner k (start_places l (length fs)) (fs ++ lead_fields l) ts
      ≡ written expression_fields fs (chain_by inner k (start l ts))
  chain_agrees k l fs ts = chain_from k l fs (operand_by inner ts)
