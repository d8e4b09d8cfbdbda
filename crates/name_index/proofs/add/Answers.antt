use native.Mathlib.Omega.{arith}
use Rattle.name_index.proofs.Addition.{some_room, no_row, no_letters, one_more_law, copied}
use Rattle.name_index.proofs.add.Goals as goal

pub returns-then-v-ge-NAME_ROWS : goal.returns-then-v-ge-NAME_ROWS
returns-then-v-ge-NAME_ROWS c = λ ns held fits short. no_row held c.args.name.now c.if-v-ge-NAME_ROWS.true

pub returns-then-begin-gt-MOST_BYTES : goal.returns-then-begin-gt-MOST_BYTES
returns-then-begin-gt-MOST_BYTES c = let t = c.if-begin-gt-MOST_BYTES.true in λ ns held fits short. no_letters held c.args.name.now (omega (arith, t))

pub returns-then-begin-name : goal.returns-then-begin-name
returns-then-begin-name c = let t = c.if-begin-name.true in let u = c.if-begin-gt-MOST_BYTES.false in
    λ ns held fits short. no_letters held c.args.name.now (omega (arith, t, u))

pub returns : goal.returns
returns c =
    let few = c.if-v-ge-NAME_ROWS.false in
    let some = c.if-begin-gt-MOST_BYTES.false in
    let room = c.if-begin-name.false in
    λ ns held fits short.
    let rows_whole = held.room_for_rows in
    let whole = held.room_for_letters in
    let inserted = c.insert.ensures fits.inside (omega (arith, few, rows_whole)) in (
      some_room held c.args.name.now (omega (arith, few)) (omega (arith, some, room)),
      one_more_law held fits short (omega (arith, few)) (omega (arith, some, room)) inserted c.insert.auto.index
          (copied c.args.letters.now c.args.name.now _ c.args.others.letters (omega (arith, some, room, whole)) c.copy_from_slice.ensures.after),
    )
