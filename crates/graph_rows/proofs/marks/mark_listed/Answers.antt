use Rattle.std.proofs.Common.{arith, rules}
use Rattle.graph_rows.proofs.Parts.{below_at}
use Rattle.graph_rows.proofs.Marking.{adds_listed_more}
use Rattle.graph_rows.proofs.marks.mark_listed.Goals as goal

pub mark-requires-clause-to : goal.mark-requires-clause-to
mark-requires-clause-to c =
    let below = below_at _ c.args.listed.now c.loop-b.b-index c.requires.to c.loop-b-test.true in
    omega arith

pub mark-requires-in-loop-b-clause-from : goal.mark-requires-in-loop-b-clause-from
mark-requires-in-loop-b-clause-from c =
    let below = below_at _ c.args.listed.now c.loop-b.b-index c.requires.to c.loop-b-test.true in
    omega arith

pub loop-b-preserved : goal.loop-b-preserved
loop-b-preserved c = record {
  marks = search rules;
  added = adds_listed_more _ _ _ _ _ _ c.args.listed.now c.loop-b.b-index c.loop-b-test.true c.loop-b.invariant.added c.mark.ensures.added c.mark-in-loop-b.ensures.added;
}
