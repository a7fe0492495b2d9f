use Rattle.std.proofs.Common.{◌≡◌, length}
use Rattle.graph_theory.specs.Progress.{WentListed}
use Rattle.graph_theory.specs.declared.lad_text.LadKind.TheVariants.{LabelledLad}
use Rattle.lad_reader.specs.Parts.{with_labels}
use Rattle.lad_reader.specs.Given.{AreGiven}
use Rattle.lad_reader.proofs.labelled.read_neighbours.Given as goal

abbrev pub invariant-loop-i : goal.invariant-loop-i
invariant-loop-i l = record {
  went : WentListed LabelledLad l.size l._i l.fn.words l.words (with_labels l.listed.neighbours.rest l.listed.labels.rest);
  given : AreGiven l.size l.stamp l.stamps l.labels (with_labels l.listed.neighbours.rest l.listed.labels.rest);
  lengths : length l.listed.neighbours.rest ≡ length l.listed.labels.rest;
  lists : l.listed.neighbours.lists ≡ l.fn.listed.neighbours.lists;
  edges : l.listed.labels.lists ≡ l.fn.listed.labels.lists;
}
