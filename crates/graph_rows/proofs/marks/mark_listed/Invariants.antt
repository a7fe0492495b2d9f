use Rattle.std.proofs.Common.{take, length}
use Rattle.graph_rows.specs.Held.{AreMarks, AddsListed}
use Rattle.graph_rows.proofs.marks.mark_listed.Given as goal

abbrev pub invariant-loop-b : goal.invariant-loop-b
invariant-loop-b l = record {
  marks : AreMarks (length l.degrees) l.width l.words l.degrees;
  added : AddsListed l.width l.fn.words l.words l.a (take l.b-index l.listed);
}
