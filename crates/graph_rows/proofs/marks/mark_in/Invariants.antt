use Rattle.std.proofs.Common.{take, length}
use Rattle.graph_rows.specs.Held.{AreMarks, AddsIn}
use Rattle.graph_rows.proofs.marks.mark_in.Given as goal

abbrev pub invariant-loop-near : goal.invariant-loop-near
invariant-loop-near l = record {
  marks : AreMarks (length l.degrees) l.width l.words l.degrees;
  added : AddsIn l.width l.fn.words l.words l.a (take l.near-index l.listed);
}
