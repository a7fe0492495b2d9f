use Rattle.std.proofs.Common.{length, arith, rules, inl, inr}
use Rattle.std.proofs.lemmas.Grind.{common_steps}
use Rattle.bit_rows.proofs.Passing.{count_within}
use Rattle.graph_rows.specs.Held.{marks_other}
use Rattle.graph_rows.proofs.Marking.{adds_mark, marks_new, marks_old, room_in_row}
use Rattle.graph_rows.proofs.marks.mark.Goals as goal
use Rattle.graph_rows.proofs.marks.mark.Goals.{else-is_new-via-then-is_new+else-a-b, else-is_new-via-else-is_new}

pub overflow_add-degrees : goal.overflow_add-degrees
overflow_add-degrees c =
    omega (arith, c.requires.marks.counted c.args.a c.requires.from, count_within (marks_other c.args.words.now c.args.width c.args.a) (length c.args.degrees.now))

pub returns-then-a-b-clause-marks : goal.returns-then-a-b-clause-marks
returns-then-a-b-clause-marks c =
    let room = room_in_row _ _ c.requires.marks.width_is in
    marks_new _ _ _ _ _ _ _ c.requires.marks (adds_mark _ _ _ _ _ (omega (arith, room)) c.set_bit.ensures) (search rules) c.requires.from c.requires.to
    (search rules) (grind (arith, common_steps))

pub returns-then-a-b-clause-added : goal.returns-then-a-b-clause-added
returns-then-a-b-clause-added c =
    let room = room_in_row _ _ c.requires.marks.width_is in
    adds_mark _ _ _ _ _ (omega (arith, room)) c.set_bit.ensures

pub returns-else-is_new-clause-marks : goal.returns-else-is_new-clause-marks
returns-else-is_new-clause-marks c =
    let room = room_in_row _ _ c.requires.marks.width_is in
    marks_old _ _ _ _ _ _ _ c.requires.marks (adds_mark _ _ _ _ _ (omega (arith, room)) c.set_bit.ensures) (search rules) c.requires.from c.requires.to
    (elim c.else-is_new.branch [ else-is_new-via-then-is_new+else-a-b w ↦ inl (search rules) | else-is_new-via-else-is_new w ↦ inr (grind (arith, common_steps)) ])

pub returns-else-is_new-clause-added : goal.returns-else-is_new-clause-added
returns-else-is_new-clause-added c =
    let room = room_in_row _ _ c.requires.marks.width_is in
    adds_mark _ _ _ _ _ (omega (arith, room)) c.set_bit.ensures
