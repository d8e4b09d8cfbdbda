-- What specs/Syntax says of expressions is read: the reader of Grammar takes exactly the tokens of an expression.
use Prim.Native.Nat.{ℕ, zero, suc, ◌+◌, ◌<◌, ◌≤◌}
use mathlib.Core.Path.{◌≡◌, refl, ap, ◌∙◌}
use mathlib.Core.List.{List, [], ◌∷◌, ◌++◌, append_assoc}
use native.Mathlib.Omega.{arith}
use lib.ListN.{length, length-append}
use Rattle.base.specs.Choice.{pick}
use Rattle.sheet.specs.declared.Operator.TheVariants.{Plus}
use Rattle.sheet.specs.Sheet.{Expression}
use Rattle.source.specs.declared.Token.{Token}
use Rattle.source.specs.declared.Token.TheVariants.{Name, Number, Quoted, Binary, Compare, Mark}
use Rattle.source.specs.Tokens.{mark_close}
use Rattle.source.specs.Grammar.{Read, read, next, past, opens, behind_first, operand_by, links_by, chain_by, expression_in, expression}
use Rattle.source.specs.Grammar.{Link, Lead, bare, minus, invert, tree, start, start_of}
use Rattle.source.specs.Syntax.{Place, later, Operand, named as name, decimal, quoted, bracketed, Expressed, expression as level_one, plus}
use Rattle.source.specs.Printed.{Ends}
use Rattle.source.proofs.SyntaxChains.{Links, none as no_links, linked, lead_tokens, Chained, chained, unsigned, level_chain}

pub operand_some : {ts : List Token} {e : Expression} → Operand ts e → 1 ≤ length ts
operand_some (name w) = omega arith
operand_some (decimal n) = omega arith
operand_some (quoted n) = omega arith
operand_some (bracketed {ts = ts} d) = omega arith

-- an operand begins with no sign
operand_start : {ts : List Token} {e : Expression} → Operand ts e → (rest : List Token) → start_of (ts ++ rest) ≡ start bare (ts ++ rest)
unfolding start_of pick
operand_start (name w) rest = refl
operand_start (decimal n) rest = refl
operand_start (quoted n) rest = refl
operand_start (bracketed d) rest = refl

lead_start_law : (l : Lead) {ts : List Token} {e : Expression} → Operand ts e → (rest : List Token)
    → start_of (lead_tokens l ++ (ts ++ rest)) ≡ start l (ts ++ rest)
unfolding start_of pick
lead_start_law bare x rest = operand_start x rest
lead_start_law minus x rest = refl
lead_start_law invert x rest = refl

links_end : (inner : List Token → Read Expression) (k : ℕ) (ts : List Token) → Ends ts → links_by inner (suc k) ts ≡ read [] ts
unfolding links_by
links_end inner k [] h = refl
links_end inner k (Name w ∷ ts) h = refl
links_end inner k (Number n ∷ ts) h = refl
links_end inner k (Quoted n ∷ ts) h = refl
links_end inner k (Binary o ∷ ts) h = absurd h
links_end inner k (Compare r ∷ ts) h = refl
links_end inner k (Mark m ∷ ts) h = refl

-- operands of at most k + 1 tokens are read, where brackets have k of them
abbrev OperandsFound : ℕ → Type 0
OperandsFound k =
    (ts : List Token) (e : Expression) → Operand ts e → (rest : List Token) → length ts ≤ suc k
    → operand_by (expression_in k) (ts ++ rest) ≡ read e rest

module _ (k : ℕ) (found : OperandsFound k) where
  links_found : (j : ℕ) {us : List Token} {ls : List Link} → Links us ls → (rest : List Token) → Ends rest → length us < j
      → length us ≤ suc k → links_by (expression_in k) j (us ++ rest) ≡ read ls rest
  unfolding links_by next
  links_found zero l rest f g h = absurd (omega (arith, g))
  links_found (suc j) no_links rest f g h = links_end (expression_in k) j rest f
  links_found (suc j) (linked o {ts = ts} {us = us} {e = e} x l) rest f g h =
      let size : length (ts ++ us) ≡ length ts + length us = length-append ts us in
      rw (
        append_assoc ts us rest,
        found ts e x (us ++ rest) (omega (arith, h, size)),
        links_found j l rest f (omega (arith, g, size)) (omega (arith, h, size)),
      )
      refl

  chain_found : (l : Lead) {ts us : List Token} {e : Expression} {ls : List Link} → Operand ts e → Links us ls → (rest : List Token) → Ends rest
      → length ts + length us ≤ suc k → chain_by (expression_in k) (suc k) (start l (ts ++ (us ++ rest))) ≡ read (tree l e ls) rest
  unfolding next
  chain_found l {ts = ts} {us = us} {e = e} x m rest f h =
      let some : 1 ≤ length ts = operand_some x in
      rw (found ts e x (us ++ rest) (omega (arith, h)), links_found (suc k) m rest f (omega (arith, h, some)) (omega (arith, h))) refl

  signed_found : {p : Place} {n : ℕ} {ts : List Token} {e : Expression} → Chained p n ts e → (rest : List Token) → Ends rest
      → length ts ≤ suc k → expression_in (suc k) (ts ++ rest) ≡ read e rest
  unfolding expression_in
  signed_found (chained l {ts = ts} {us = us} b x m o) rest f h =
      let size : length (lead_tokens l ++ (ts ++ us)) ≡ length (lead_tokens l) + length (ts ++ us) = length-append (lead_tokens l) (ts ++ us) in
      let sizes : length (ts ++ us) ≡ length ts + length us = length-append ts us in
      rw (append_assoc (lead_tokens l) (ts ++ us) rest, append_assoc ts us rest, lead_start_law l x (us ++ rest))
      (chain_found l x m rest f (omega (arith, h, size, sizes)))

  plus_found : {n : ℕ} {ts : List Token} {e : Expression} → Chained later n ts e → (rest : List Token) → Ends rest
      → length ts ≤ suc k → expression_in (suc k) (Binary Plus ∷ ts ++ rest) ≡ read e rest
  unfolding expression_in start_of
  plus_found (chained bare {ts = ts} {us = us} unsigned x m o) rest f h =
      let sizes : length (ts ++ us) ≡ length ts + length us = length-append ts us in
      rw (append_assoc ts us rest) (chain_found bare x m rest f (omega (arith, h, sizes)))
  plus_found {n = n} (chained minus {ts = ts} {us = us} {e = e} {ls = ls} x24 x m o) rest f h = elim x24 [ ]
  plus_found {n = n} (chained invert {ts = ts} {us = us} {e = e} {ls = ls} x25 x m o) rest f h = elim x25 [ ]

  expressed_found : {ts : List Token} {e : Expression} → Expressed ts e → (rest : List Token) → Ends rest → length ts ≤ suc k
      → expression_in (suc k) (ts ++ rest) ≡ read e rest
  expressed_found (level_one d) rest f h = signed_found (level_chain d) rest f h
  expressed_found (plus d) rest f h = plus_found (level_chain d) rest f (omega (arith, h))

bracket_found : (x : Read Expression) (e : Expression) (rest : List Token) → x ≡ read e (Mark mark_close ∷ rest)
    → next x (λ a others. past mark_close others (λ l. read a l)) ≡ read e rest
unfolding next pick opens behind_first
bracket_found x e rest h = rw h refl

operands_none : OperandsFound 0
unfolding operand_by
operands_none ts e (name w) rest h = refl
operands_none ts e (decimal n) rest h = refl
operands_none ts e (quoted n) rest h = refl
operands_none ts e (bracketed {ts = us} d) rest h =
    let size : length (us ++ Mark mark_close ∷ []) ≡ length us + 1 = length-append us (Mark mark_close ∷ []) in
    absurd (omega (arith, h, size))

operands_more : (k : ℕ) → OperandsFound k → OperandsFound (suc k)
unfolding operand_by pick
operands_more k found ts e (name w) rest h = refl
operands_more k found ts e (decimal n) rest h = refl
operands_more k found ts e (quoted n) rest h = refl
operands_more k found ts e (bracketed {ts = us} d) rest h =
    let size : length (us ++ Mark mark_close ∷ []) ≡ length us + 1 = length-append us (Mark mark_close ∷ []) in
    bracket_found _ e rest
    (ap (expression_in (suc k)) (append_assoc us (Mark mark_close ∷ []) rest)
    ∙ expressed_found k found d (Mark mark_close ∷ rest) tt (omega (arith, h, size)))

operands_found : (k : ℕ) → OperandsFound k
operands_found zero = operands_none
operands_found (suc k) = operands_more k (operands_found k)

chain_some : {p : Place} {n : ℕ} {ts : List Token} {e : Expression} → Chained p n ts e → 1 ≤ length ts
chain_some (chained l {ts = ts} {us = us} b x m o) =
    let size : length (lead_tokens l ++ (ts ++ us)) ≡ length (lead_tokens l) + length (ts ++ us) = length-append (lead_tokens l) (ts ++ us) in
    let sizes : length (ts ++ us) ≡ length ts + length us = length-append ts us in
    let some : 1 ≤ length ts = operand_some x in
    omega (arith, size, sizes, some)

expressed_some : {ts : List Token} {e : Expression} → Expressed ts e → 1 ≤ length ts
expressed_some (level_one d) = chain_some (level_chain d)
expressed_some (plus d) = omega arith

-- exactly the tokens of an expression are taken, where no operator goes on with them
pub expression_found : {ts : List Token} {e : Expression} → Expressed ts e → (rest : List Token) → Ends rest
    → expression (ts ++ rest) ≡ read e rest
expression_found {ts} {e} d rest f = go (length (ts ++ rest)) (length-append ts rest)
  where
    go : (k : ℕ) → k ≡ length ts + length rest → expression_in k (ts ++ rest) ≡ read e rest
    go zero h = absurd (omega (arith, h, expressed_some d))
    go (suc k) h = expressed_found k (operands_found k) d rest f (omega (arith, h))
