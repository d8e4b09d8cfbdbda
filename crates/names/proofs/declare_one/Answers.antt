use native.Mathlib.Omega.{arith}
use Prim.Native.Nat.{◌/◌}
use Rattle.std.proofs.lemmas.Result.{err_from_is_err_and}
use mathlib.Core.Path.{sym, ◌∙◌}
use Rattle.source.specs.Limits.{most_cells}
use Rattle.name_index.proofs.Search.{place_found}
use Rattle.name_index.proofs.Order.{short_part}
use Rattle.names.proofs.Declarations.{no_name, one_name, none_declared, is_twice, is_added, is_not_added}
use Rattle.names.proofs.Lookups.{send_word_law, other_word}
use Rattle.names.proofs.declare_one.Goals as goal

pub returns-then-kind-ne0 : goal.returns-then-kind-ne0
returns-then-kind-ne0 c = let a = c.args in λ ms held. rw (no_name a.cells.now a.kind a.value c.if-kind-ne0.true) (none_declared _ held)

pub returns-then-is_send : goal.returns-then-is_send
returns-then-is_send c = let a = c.args in
    λ ms held.
    rw (one_name a.cells.now a.kind a.value _ c.part-name.ensures c.if-kind-ne0.false)
    (is_twice ms _ _ _ (λ z. let s = send_word_law ms _ _ c.is_send.ensures c.if-is_send.true in absurd (omega (arith, s, z))))

pub returns-then-found-ne0 : goal.returns-then-found-ne0
returns-then-found-ne0 c = let a = c.args in
    λ ms held.
    rw (one_name a.cells.now a.kind a.value _ c.part-name.ensures c.if-kind-ne0.false)
    (is_twice ms _ _ _ (λ z. c.if-found-ne0.true (other_word ms _ _ c.is_send.ensures _ c.if-is_send.false (c.find-found.ensures.found ms _ held) ∙ z)))

pub returns-in_err-add : goal.returns-in_err-add
returns-in_err-add c = let a = c.args in
    let p = err_from_is_err_and c.from_residual.result c.from_residual.ensures.1 in
    rw (p.1, p.2) (λ ms held.
    let new = sym (other_word ms _ _ c.is_send.ensures _ c.if-is_send.false (c.find-found.ensures.found ms _ held)) ∙ c.if-found-ne0.false in
    let added = c.add.ensures ms held (place_found held _ c.find-found.ensures.made c.if-found-ne0.false) (short_part a.cells.now _ (a.value / most_cells) a.value c.part-name.ensures) in
    rw (one_name a.cells.now a.kind a.value _ c.part-name.ensures c.if-kind-ne0.false) (is_not_added ms _ new _ added c.in_err-add.was))

pub returns : goal.returns
returns c = let a = c.args in
    λ ms held.
    let new = sym (other_word ms _ _ c.is_send.ensures _ c.if-is_send.false (c.find-found.ensures.found ms _ held)) ∙ c.if-found-ne0.false in
    let added = c.add.ensures ms held (place_found held _ c.find-found.ensures.made c.if-found-ne0.false) (short_part a.cells.now _ (a.value / most_cells) a.value c.part-name.ensures) in
    rw (one_name a.cells.now a.kind a.value _ c.part-name.ensures c.if-kind-ne0.false) (is_added ms _ new _ added _ c.in_ok-add.was)
