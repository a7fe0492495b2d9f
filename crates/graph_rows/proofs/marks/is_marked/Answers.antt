use Rattle.std.proofs.Common.{arith}
use Rattle.graph_rows.proofs.Places.{fits_place}
use Rattle.graph_rows.proofs.marks.is_marked.Goals as goal

pub overflow_add-a : goal.overflow_add-a
overflow_add-a c = omega (arith, fits_place c.args.a c.args.width c.requires.from c.requires.narrow)
