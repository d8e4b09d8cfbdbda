-- An expression along the left: its leaf and its links, their orders and their fields, and what the orders show of a link.
use Prim.Native.Nat.{ℕ, suc, ◌+◌, ◌<◌, ◌≤◌}
use mathlib.Core.Path.{◌≡◌, refl, sym, ap, subst, ◌∙◌}
use mathlib.Core.Bool.{true, false}
use mathlib.Core.List.{List, [], ◌∷◌, ◌++◌, append_assoc, append-nil}
use native.Mathlib.Omega.{arith}
use borrow.Author.Tests.{lt-ltb, le-ltb, eq-eqb, ne_eqb}
use lib.ListN.{length, length-append}
use Rattle.base.specs.Choice.{pick}
use Rattle.order.specs.declared.Operation.{Operation}
use Rattle.order.specs.declared.Operation.TheVariants.{Load, Add, Sub, Mlt, Div, Exp, Shl, Shr, And, Or, Xor, Cmp}
use Rattle.order.specs.declared.Order.{Order}
use Rattle.order.specs.declared.Order.TheVariants.{Word, Number, Store, Neg, Not}
use Rattle.sheet.specs.declared.Operator.{Operator}
use Rattle.sheet.specs.declared.Operator.TheVariants.{Plus, Minus, Times, Over, Power, Left, Right, And, Or, Unlike}
use Rattle.sheet.specs.declared.Field.{Field}
use Rattle.sheet.specs.declared.Field.TheVariants.{Else, Neg as NegField, Not as NotField, Binary, Word as WordField, Constant}
use Rattle.sheet.specs.Sheet.{Expression, word, constant, negated, inverted, binary, operand, Operand, in_word, itself, worked_out}
use Rattle.sheet.specs.Fields.{expression_fields}
use Rattle.sheet.specs.Orders.{operation, temporary, joined, code, comparison_code}
use Rattle.sheet.specs.Guess.{by_operation}
use Rattle.sheet.specs.Formed.{Expressed}
use Rattle.std.specs.Prelude.{Option, Some, None}
use Rattle.untranslate_expression.specs.declared.Use.TheVariants.{Joins}
use Rattle.untranslate_expression.specs.declared.Link.{Link}
use Rattle.untranslate_expression.specs.declared.Link.TheVariants.{Unary, Plain, Kept}
use Rattle.untranslate_expression.specs.Internal.{first_order, behind, use_of, loads_leaf, past_load, joined_by, operator_by, link_of, past_link}
use Rattle.untranslate_expression.specs.Internal.{Linkage, negating, inverting, joining, comparing, extend, extend_all, link_code, links_code, link_length, links_length}
use Rattle.untranslate_expression.specs.Internal.{LinkGood, LinksGood, Chain}

-- ---- orders of links

use_operation : (o : Operator) → use_of (operation o) ≡ Joins o
use_operation Plus = refl
use_operation Minus = refl
use_operation Times = refl
use_operation Over = refl
use_operation Power = refl
use_operation Left = refl
use_operation Right = refl
use_operation And = refl
use_operation Or = refl
use_operation Unlike = refl

pub joined_left : (f : Operation) (v d : ℕ) (q : Operand) (a b : List Order) → joined f v d q a b ≡ a ++ joined f v d q [] b
joined_left f v d (in_word w) a b = refl
joined_left f v d (itself n) a b = refl
joined_left f v d worked_out a b = append_assoc a (Store (temporary v d) ∷ b) _

pub length_extend : (x : List Field) (k : Linkage) → length (extend x k) ≡ suc (length x + link_length k)
length_extend x negating = omega arith
length_extend x inverting = omega arith
length_extend x (joining o r) = ap suc (length-append x (expression_fields r))
length_extend x (comparing r) = ap suc (length-append x (expression_fields r))

pub length_all : (ks : List Linkage) (x : List Field) → length (extend_all x ks) ≡ length x + links_length ks
unfolding extend_all links_length
length_all [] x = omega arith
length_all (k ∷ ks) x = omega (arith, length_all ks (extend x k), length_extend x k)

pub links_some : (ks : List Linkage) → length ks ≤ links_length ks
unfolding links_length
links_some [] = omega arith
links_some (k ∷ ks) = omega (arith, links_some ks)

-- ---- an expression and a comparison as chains

chain :
    (v d : ℕ) (e : Expression) (ks : List Linkage)
    → Expressed v e
    → LinksGood v ks
    → Chain v d (code v d e ++ links_code v d ks) (extend_all (expression_fields e) ks)
unfolding Expressed LinksGood extend_all links_code code expression_fields
chain v d (word w) ks h g = record { leaf = Word Load w; links = ks; codes = refl; fields = refl; good = g }
chain v d (constant n) ks h g = record { leaf = Number Load n; links = ks; codes = refl; fields = refl; good = g }
chain v d (negated e) ks h g =
    let s = chain v d e (negating ∷ ks) h (tt, g) in
    record { leaf = s.leaf; links = s.links; codes = append_assoc (code v d e) (Neg ∷ []) (links_code v d ks) ∙ s.codes; fields = s.fields; good = s.good }
chain v d (inverted e) ks h g =
    let s = chain v d e (inverting ∷ ks) h (tt, g) in
    record { leaf = s.leaf; links = s.links; codes = append_assoc (code v d e) (Not ∷ []) (links_code v d ks) ∙ s.codes; fields = s.fields; good = s.good }
chain v d (binary o a b) ks h g =
    let s = chain v d a (joining o b ∷ ks) h.0 (h.1, g) in
    let right = joined (operation o) v d (operand b) [] (code v (suc d) b) in
    record {
      leaf = s.leaf;
      links = s.links;
      codes =
          ap (λ l. l ++ links_code v d ks) (joined_left (operation o) v d (operand b) (code v d a) (code v (suc d) b))
          ∙ append_assoc (code v d a) right (links_code v d ks)
          ∙ s.codes;
      fields = s.fields;
      good = s.good;
    }

pub expression_chain : (v d : ℕ) (e : Expression) → Expressed v e → Chain v d (code v d e) (expression_fields e)
unfolding LinksGood extend_all links_code
expression_chain v d e h = subst (λ c. Chain v d c (expression_fields e)) (append-nil (code v d e)) (chain v d e [] h tt)

pub comparison_chain :
    (v : ℕ) (a b : Expression)
    → Expressed v a
    → Expressed v b
    → Chain v 0 (comparison_code v a b) (Else ∷ (expression_fields a ++ expression_fields b))
unfolding LinksGood extend_all links_code
comparison_chain v a b h g =
    subst (λ c. Chain v 0 c (Else ∷ (expression_fields a ++ expression_fields b)))
    (ap (λ l. code v 0 a ++ l) (append-nil (joined Cmp v 0 (operand b) [] (code v 1 b))) ∙ sym (joined_left Cmp v 0 (operand b) (code v 0 a) (code v 1 b)))
    (chain v 0 a (comparing b ∷ []) h (g, tt))

-- ---- the orders of an expression: the first loads a variable or a constant, and none is on a temporary that was in use

pub starts : (v d : ℕ) (e : Expression) → Expressed v e → (m : List Order) → loads_leaf (v + 2) (first_order (code v d e ++ m)) ≡ true
unfolding Expressed code
starts v d (word w) h m = lt-ltb w (v + 2) h.1
starts v d (constant n) h m = refl
starts v d (negated e) h m = rw (append_assoc (code v d e) (Neg ∷ []) m) (starts v d e h (Neg ∷ m))
starts v d (inverted e) h m = rw (append_assoc (code v d e) (Not ∷ []) m) (starts v d e h (Not ∷ m))
starts v d (binary o a b) h m =
    rw (
      joined_left (operation o) v d (operand b) (code v d a) (code v (suc d) b),
      append_assoc (code v d a) (joined (operation o) v d (operand b) [] (code v (suc d) b)) m,
    ) (starts v d a h.0 (joined (operation o) v d (operand b) [] (code v (suc d) b) ++ m))

abbrev pub closing : Operation → ℕ → ℕ → List Order
closing f v d = Store (temporary v (suc d)) ∷ Word Load (temporary v d) ∷ Word f (temporary v (suc d)) ∷ []

-- no operation on another word is LOAD of it
never_loads : (f : Operation) → by_operation f false (λ o. false) false ≡ false
never_loads Load = refl
never_loads Add = refl
never_loads Sub = refl
never_loads Mlt = refl
never_loads Div = refl
never_loads Exp = refl
never_loads Shl = refl
never_loads Shr = refl
never_loads And = refl
never_loads Or = refl
never_loads Xor = refl
never_loads Cmp = refl

module _ (v t : ℕ) (used : v + 2 ≤ t) where
  abbrev Passed : ℕ → Expression → Type 0
  Passed d e = t < temporary v d → (m : List Order) → past_load t (code v d e ++ m) ≡ past_load t m

  kept_passed :
      (f : Operation) (d : ℕ) (r : Expression)
      → Passed (suc d) r
      → t < temporary v d
      → (m : List Order)
      → past_load t (((Store (temporary v d) ∷ code v (suc d) r) ++ closing f v d) ++ m) ≡ past_load t m
  unfolding past_load pick
  kept_passed f d r p h m =
      ap (past_load t) (append_assoc (code v (suc d) r) (closing f v d) m)
      ∙ p (omega arith) (closing f v d ++ m)
      ∙ rw (ne_eqb (temporary v d) t (omega arith), ne_eqb (temporary v (suc d)) t (omega arith), never_loads f) refl

  right_passed :
      (f : Operation) (d : ℕ) (r : Expression)
      → Expressed v r
      → Passed (suc d) r
      → t < temporary v d
      → (m : List Order)
      → past_load t (joined f v d (operand r) [] (code v (suc d) r) ++ m) ≡ past_load t m
  unfolding past_load pick Expressed
  right_passed f d (word w) x p h m = rw (ne_eqb w t (omega (arith, x.1)), never_loads f) refl
  right_passed f d (constant n) x p h m = refl
  right_passed f d (negated e) x p h m = kept_passed f d (negated e) p h m
  right_passed f d (inverted e) x p h m = kept_passed f d (inverted e) p h m
  right_passed f d (binary o a b) x p h m = kept_passed f d (binary o a b) p h m

  code_passed : (d : ℕ) (e : Expression) → Expressed v e → Passed d e
  unfolding past_load pick Expressed code
  code_passed d (word w) x h m = rw (ne_eqb w t (omega (arith, x.1))) refl
  code_passed d (constant n) x h m = refl
  code_passed d (negated e) x h m = ap (past_load t) (append_assoc (code v d e) (Neg ∷ []) m) ∙ code_passed d e x h (Neg ∷ m)
  code_passed d (inverted e) x h m = ap (past_load t) (append_assoc (code v d e) (Not ∷ []) m) ∙ code_passed d e x h (Not ∷ m)
  code_passed d (binary o a b) x h m =
      let right = joined (operation o) v d (operand b) [] (code v (suc d) b) in
      ap (past_load t)
      (ap (λ l. l ++ m) (joined_left (operation o) v d (operand b) (code v d a) (code v (suc d) b)) ∙ append_assoc (code v d a) right m)
      ∙ code_passed d a x.0 h (right ++ m)
      ∙ right_passed (operation o) d b x.1 (code_passed (suc d) b x.1) h m

-- ---- what the orders show of a link

abbrev seen_right : Field → Expression → Option Link
seen_right f (word w) = Some (Plain f (WordField w))
seen_right f (constant n) = Some (Plain f (Constant n))
seen_right f (negated e) = Some Kept
seen_right f (inverted e) = Some Kept
seen_right f (binary q a b) = Some Kept

abbrev pub seen : Linkage → Option Link
seen negating = Some (Unary NegField)
seen inverting = Some (Unary NotField)
seen (joining o r) = seen_right (Binary o) r
seen (comparing r) = seen_right Else r

module _ (v d first t : ℕ) (start : first ≡ v + 2) (free : t ≡ temporary v d) where
  kept_seen :
      (r : Expression)
      → Expressed v r
      → (c m : List Order)
      → link_of first t (((Store (temporary v d) ∷ code v (suc d) r) ++ c) ++ m) ≡ Some Kept
  unfolding pick
  kept_seen r h c m =
      rw (
        start,
        append_assoc (code v (suc d) r) c m,
        starts v (suc d) r h (c ++ m),
        eq-eqb (temporary v d) t (sym free),
      ) refl

  -- an operation whose field is g
  right_seen :
      (f : Operation) (g : Field)
      → ((x : Field) → joined_by x (use_of f) ≡ (Some (Plain g x)))
      → (r : Expression)
      → Expressed v r
      → (m : List Order)
      → link_of first t (joined f v d (operand r) [] (code v (suc d) r) ++ m) ≡ seen_right g r
  right_seen f g joins (word w) h m = joins (WordField w)
  right_seen f g joins (constant n) h m = joins (Constant n)
  right_seen f g joins (negated e) h m = kept_seen (negated e) h _ m
  right_seen f g joins (inverted e) h m = kept_seen (inverted e) h _ m
  right_seen f g joins (binary q a b) h m = kept_seen (binary q a b) h _ m

  pub link_seen : (k : Linkage) → LinkGood v k → (m : List Order) → link_of first t (link_code v d k ++ m) ≡ seen k
  link_seen negating h m = refl
  link_seen inverting h m = refl
  link_seen (joining o r) h m = right_seen (operation o) (Binary o) (λ x. ap (joined_by x) (use_operation o)) r h m
  link_seen (comparing r) h m = right_seen Cmp Else (λ x. refl) r h m

  -- behind a right operand that was worked out there is no link
  pub closing_ends : (m : List Order) → link_of first (t + 1) (Store (temporary v (suc d)) ∷ Word Load (temporary v d) ∷ m) ≡ None
  unfolding pick
  closing_ends m =
      let more : temporary v (suc d) ≡ t + 1 = omega arith in
      let none : first ≤ temporary v d = omega arith in
      rw (eq-eqb (temporary v (suc d)) (t + 1) more, le-ltb (temporary v d) first none) refl

  -- ---- what is behind a link

  kept_past :
      (f : Operation) (r : Expression)
      → Expressed v r
      → (m : List Order)
      → past_link t (Some Kept) (((Store (temporary v d) ∷ code v (suc d) r) ++ closing f v d) ++ m) ≡ m
  unfolding past_load pick
  kept_past f r h m =
      let found : past_load t (closing f v d ++ m) ≡ Word f (temporary v (suc d)) ∷ m = rw (eq-eqb (temporary v d) t (sym free)) refl in
      ap behind
      (ap (past_load t) (append_assoc (code v (suc d) r) (closing f v d) m)
      ∙ code_passed v t (omega arith) (suc d) r h (omega arith) (closing f v d ++ m)
      ∙ found)

  right_past :
      (f : Operation) (g : Field) (r : Expression)
      → Expressed v r
      → (m : List Order)
      → past_link t (seen_right g r) (joined f v d (operand r) [] (code v (suc d) r) ++ m) ≡ m
  right_past f g (word w) h m = refl
  right_past f g (constant n) h m = refl
  right_past f g (negated e) h m = kept_past f (negated e) h m
  right_past f g (inverted e) h m = kept_past f (inverted e) h m
  right_past f g (binary q a b) h m = kept_past f (binary q a b) h m

  pub link_past : (k : Linkage) → LinkGood v k → (m : List Order) → past_link t (seen k) (link_code v d k ++ m) ≡ m
  link_past negating h m = refl
  link_past inverting h m = refl
  link_past (joining o r) h m = right_past (operation o) (Binary o) r h m
  link_past (comparing r) h m = right_past Cmp Else r h m

-- ---- what a link adds, by what the orders show of it

pub record UnaryLink (k : Linkage) (f : Field) : Type 0 where
  pub many : link_length k ≡ 0
  pub adds : (x : List Field) → extend x k ≡ f ∷ x

pub record PlainLink (k : Linkage) (f g : Field) : Type 0 where
  pub many : link_length k ≡ 1
  pub adds : (x : List Field) → extend x k ≡ f ∷ (x ++ (g ∷ []))

pub record KeptLink (v d : ℕ) (k : Linkage) : Type 0 where
  pub does : Operation
  pub right : Expression
  pub good : Expressed v right
  pub many : link_length k ≡ length (expression_fields right)
  pub adds : (x : List Field) → extend x k ≡ operator_by (use_of does) ∷ (x ++ expression_fields right)
  pub codes : link_code v d k ≡ (Store (temporary v d) ∷ code v (suc d) right) ++ closing does v d

abbrev pub Adds : ℕ → ℕ → Linkage → Option Link → Type 0
Adds v d k (Some (Unary f)) = UnaryLink k f
Adds v d k (Some (Plain f g)) = PlainLink k f g
Adds v d k (Some Kept) = KeptLink v d k
Adds v d k None = ⊥

module _ (v d : ℕ) where
  right_adds :
      (f : Operation) (g : Field)
      → g ≡ operator_by (use_of f)
      → (r : Expression)
      → Expressed v r
      → (k : Linkage)
      → link_length k ≡ length (expression_fields r)
      → ((x : List Field) → extend x k ≡ g ∷ (x ++ expression_fields r))
      → link_code v d k ≡ joined f v d (operand r) [] (code v (suc d) r)
      → Adds v d k (seen_right g r)
  unfolding expression_fields
  right_adds f g its (word w) h k many adds codes = record { many = many; adds = adds }
  right_adds f g its (constant n) h k many adds codes = record { many = many; adds = adds }
  right_adds f g its (negated e) h k many adds codes =
      record { does = f; right = negated e; good = h; many = many; adds = λ x. rw its at (adds x); codes = codes }
  right_adds f g its (inverted e) h k many adds codes =
      record { does = f; right = inverted e; good = h; many = many; adds = λ x. rw its at (adds x); codes = codes }
  right_adds f g its (binary q a b) h k many adds codes =
      record { does = f; right = binary q a b; good = h; many = many; adds = λ x. rw its at (adds x); codes = codes }

  link_adds : (k : Linkage) → LinkGood v k → Adds v d k (seen k)
  link_adds negating h = record { many = refl; adds = λ x. refl }
  link_adds inverting h = record { many = refl; adds = λ x. refl }
  link_adds (joining o r) h =
      right_adds (operation o) (Binary o) (sym (ap operator_by (use_operation o))) r h (joining o r) refl (λ x. refl) refl
  link_adds (comparing r) h = right_adds Cmp Else refl r h (comparing r) refl (λ x. refl) refl

  pub link_told : (k : Linkage) (q : Option Link) → LinkGood v k → seen k ≡ q → Adds v d k q
  link_told k q h e = subst (Adds v d k) e (link_adds k h)
