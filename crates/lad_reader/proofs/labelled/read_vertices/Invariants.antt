use Rattle.std.proofs.Common.{◌≡◌, length}
use Rattle.graph_theory.specs.Progress.{WentVertices}
use Rattle.graph_theory.specs.declared.lad_text.LadKind.TheVariants.{LabelledLad}
use Rattle.lad_reader.specs.Parts.{labelled_from}
use Rattle.lad_reader.specs.Given.{AreStamped, IsBegun}
use Rattle.lad_reader.proofs.labelled.read_vertices.Given as goal

abbrev pub invariant-loop-i : goal.invariant-loop-i
invariant-loop-i l = record {
  went : WentVertices LabelledLad l.size l.i l.fn.words l.words (labelled_from l.labels.items l.listed.neighbours.lists l.listed.labels.lists);
  lengths : length l.labels.items ≡ length l.listed.neighbours.lists;
  edges : length l.labels.items ≡ length l.listed.labels.lists;
  begun : IsBegun l.listed.neighbours.rest l.listed.labels.rest;
  stamped : AreStamped l.i l.stamps;
}
