use Rattle.front_end_statement.proofs.Forms.{on_form, on_end, on_instruction, told_begin, told_declaration, told_end, told_labels, told_instruction, told_opening, told_finish, told_finish_else, few_labels_told, few_labels_before, few_labels_opening, own_fields, opening_fields}
use Rattle.front_end_statement.proofs.dispatch.Goals as goal

pub returns-in-Begin : goal.returns-in-Begin
returns-in-Begin c = let a = c.args in
    λ g e few q h small room.
    rw c.further.ensures (on_form q a.k _ g (told_begin a.tokens.now.count a.tokens.now.kinds.now a.tokens.now.values.now a.own.now g e c.in-Begin.is) (c.begin.ensures q _ _ _ _ _ h))

pub returns-in-Declaration : goal.returns-in-Declaration
returns-in-Declaration c = let a = c.args in
    λ g e few q h small room.
    let told = told_declaration a.tokens.now.count a.tokens.now.kinds.now a.tokens.now.values.now a.own.now g e c.in-Declaration.is in
    rw c.further-in-Declaration.ensures (on_form q a.k _ g told (c.declaration.ensures q _ _ _ h (few told) room))

pub returns-in-End : goal.returns-in-End
returns-in-End c = let a = c.args in
    λ g e few q h small room.
    rw c.given.ensures (on_end q a.k _ g (told_end a.tokens.now.count a.tokens.now.kinds.now a.tokens.now.values.now a.own.now g e c.in-End.is) (c.conclude.ensures q _ _ h))

pub returns-in-Labels : goal.returns-in-Labels
returns-in-Labels c = let a = c.args in
    let p = c.requires in
    let z = c.in-Labels.is in
    λ g e few q h small room.
    rw c.further-in-Labels.ensures (on_form q a.k _ g (told_labels a.tokens.now.count a.tokens.now.kinds.now a.tokens.now.values.now a.own.now g e p.1 _ z)
    (c.label.ensures.set q _ _ _ _ h (few_labels_told a.tokens.now.count p.1 p.2 a.tokens.now.kinds.now a.tokens.now.values.now _ z)))

pub returns-in-Instruction : goal.returns-in-Instruction
returns-in-Instruction c = let a = c.args in
    let p = c.requires in
    let z = c.in-Instruction.is in
    λ g e few q h small room.
    rw c.further-in-Instruction.ensures (on_instruction q a.k _ g _ a.own.now _ _ (own_fields a.tokens.now.count p.1 _ _ z p.3)
    (told_instruction a.tokens.now.count a.tokens.now.kinds.now a.tokens.now.values.now a.own.now g e p.1 _ _ z)
    (λ i same. c.instruction.ensures q _ _ i h small same (few_labels_before a.tokens.now.count p.1 p.2 a.tokens.now.kinds.now a.tokens.now.values.now _ _ z)))

pub returns-in-Opening : goal.returns-in-Opening
returns-in-Opening c = let a = c.args in
    let p = c.requires in
    let z = c.in-Opening.is in
    λ g e few q h small room.
    rw c.further-in-Opening.ensures (on_instruction q a.k _ g _ a.own.now _ _ (opening_fields a.tokens.now.count p.1 _ _ z p.3)
    (told_opening a.tokens.now.count a.tokens.now.kinds.now a.tokens.now.values.now a.own.now g e p.1 _ _ z)
    (λ i same. c.instruction-in-Opening.ensures q _ _ i h small same (few_labels_opening a.tokens.now.count p.1 p.2 a.tokens.now.kinds.now a.tokens.now.values.now _ _ z)))

pub returns-in-Finish : goal.returns-in-Finish
returns-in-Finish c = let a = c.args in
    λ g e few q h small room.
    rw c.further-in-Finish.ensures (on_form q a.k _ g (told_finish a.tokens.now.count a.tokens.now.kinds.now a.tokens.now.values.now a.own.now g e c.in-Finish.is) (c.finish.ensures q _ _ h))

pub returns-in-FinishElse : goal.returns-in-FinishElse
returns-in-FinishElse c = let a = c.args in
    λ g e few q h small room.
    rw c.further-in-FinishElse.ensures (on_form q a.k _ g (told_finish_else a.tokens.now.count a.tokens.now.kinds.now a.tokens.now.values.now a.own.now g e c.in-FinishElse.is) (c.finish_else.ensures q _ _ h))
