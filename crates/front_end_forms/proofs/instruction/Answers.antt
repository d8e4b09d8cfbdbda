use mathlib.Core.Path.{◌≡◌, sym, ◌∙◌}
use borrow.Author.Rules.{rules}
use Rattle.std.proofs.lemmas.Result.{err_from_is_err_and}
use Rattle.front_end_forms.specs.declared.Stage.TheVariants.{Nothing}
use Rattle.front_end_forms.proofs.Stages.{instruction_behind, labels_behind, early, late, late_told}
use Rattle.front_end_forms.proofs.Instructing.{known_told, jumps_told, not_known, not_labels, not_set, then_placed}
use Rattle.front_end_forms.proofs.instruction.Goals as goal

pub returns-then-eq : goal.returns-then-eq
returns-then-eq c = let e : c.args.p.stage ≡ Nothing = search rules in λ q ns xs i h few is many. early (instruction_behind q c.args.k xs _ i) h e

pub returns-then-not-all_known : goal.returns-then-not-all_known
returns-then-not-all_known c = let n : c.args.p.stage ≡ Nothing → ⊥ = search rules in
    λ q ns xs i h few is many. late (instruction_behind q c.args.k xs _ i) h n (not_known q c.args.k _ i (known_told is (sym c.all_known.ensures ∙ c.if-not-all_known.true)))

pub returns-then-not-good_jumps : goal.returns-then-not-good_jumps
returns-then-not-good_jumps c = let n : c.args.p.stage ≡ Nothing → ⊥ = search rules in
    λ q ns xs i h few is many.
    let known = known_told is (sym c.all_known.ensures ∙ c.if-not-all_known.false) in
    late (instruction_behind q c.args.k xs _ i) h n (not_labels q c.args.k _ i known (jumps_told is (sym c.good_jumps.ensures ∙ c.if-not-good_jumps.true)))

pub returns-in_err-labelled : goal.returns-in_err-labelled
returns-in_err-labelled c = let n : c.args.p.stage ≡ Nothing → ⊥ = search rules in
    let p = err_from_is_err_and c.from_residual.result c.from_residual.ensures.1 in
    rw (p.1, p.2) (λ q ns xs i h few is many.
    let known = known_told is (sym c.all_known.ensures ∙ c.if-not-all_known.false) in
    let good = jumps_told is (sym c.good_jumps.ensures ∙ c.if-not-good_jumps.false) in
    let set = late_told (labels_behind q c.args.k xs _) h n (c.label.ensures.set q ns c.args.groups.now c.args.fields.now xs h many) in
    late (instruction_behind q c.args.k xs _ i) h n (not_set q c.args.k _ i known good _ set c.in_err-labelled.was))

pub returns : goal.returns
returns c = let n : c.args.p.stage ≡ Nothing → ⊥ = search rules in
    λ q ns xs i h few is many.
    let known = known_told is (sym c.all_known.ensures ∙ c.if-not-all_known.false) in
    let good = jumps_told is (sym c.good_jumps.ensures ∙ c.if-not-good_jumps.false) in
    let set = late_told (labels_behind q c.args.k xs _) h n (c.label.ensures.set q ns c.args.groups.now c.args.fields.now xs h many) in
    late (instruction_behind q c.args.k xs _ i) h n (then_placed q c.args.k _ i known good _ set c.in_ok-labelled.was (λ held. c.place.ensures _ ns _ i held few is good))
