use borrow.Author.Rules.{rules}
use Rattle.std.proofs.lemmas.Result.{err_from_is_err_and}
use mathlib.Core.Path.{refl, ap₂}
use mathlib.Core.List.{[], ◌∷◌}
use Rattle.source.specs.Memory.{lexeme_of}
use Rattle.names.proofs.Lookups.{lexeme_in}
use Rattle.names.proofs.Declarations.{declare_start, declare_turn, declare_fails, declare_end}
use Rattle.names.proofs.declare.Goals as goal

pub loop-i-init : goal.loop-i-init
loop-i-init c = let a = c.args in (refl, refl, λ ms held. declare_start a.cells.now a.tokens.now.kinds.now a.tokens.now.values.now a.tokens.now.count held)

pub loop-i-preserved : goal.loop-i-preserved
loop-i-preserved c = let a = c.args in
    let l = c.loop-i in
    let x = ap₂ (λ k v. lexeme_of a.cells.now k v ∷ []) c.at-kind.ensures c.at-value.ensures in (
      search rules,
      search rules,
      λ ms held.
          let s = l.invariant.2 ms held in
          declare_turn (lexeme_in a.cells.now a.tokens.now.kinds.now a.tokens.now.values.now) a.tokens.now.count l.i c.loop-i-test.true s (rw (← x) (c.declare_one.ensures s.names_too s.held)) _ c.in_ok-names.was,
    )

pub returns-in_err-names : goal.returns-in_err-names
returns-in_err-names c = let a = c.args in
    let l = c.loop-i in
    let x = ap₂ (λ k v. lexeme_of a.cells.now k v ∷ []) c.at-kind.ensures c.at-value.ensures in
    let p = err_from_is_err_and c.from_residual.result c.from_residual.ensures.1 in
    rw (p.1, p.2) (λ ms held.
    let s = l.invariant.2 ms held in
    declare_fails (lexeme_in a.cells.now a.tokens.now.kinds.now a.tokens.now.values.now) a.tokens.now.count l.i c.loop-i-test.true s (rw (← x) (c.declare_one.ensures s.names_too s.held)) _ c.in_err-names.was)

pub returns : goal.returns
returns c = let a = c.args in
    let l = c.loop-i in
    λ ms held. declare_end l.names (lexeme_in a.cells.now a.tokens.now.kinds.now a.tokens.now.values.now) a.tokens.now.count l.i c.loop-i-test.false (l.invariant.2 ms held)
