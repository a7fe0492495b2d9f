use Rattle.std.proofs.Common.{◌≡◌, map}
use Rattle.graph_theory.specs.Progress.{WentListed}
use Rattle.graph_theory.specs.declared.lad_text.LadKind.{LadKind}
use Rattle.lad_reader.specs.Parts.{unlabelled, WritesNoEdgeLabels}
use Rattle.lad_reader.proofs.reader.read_neighbours.Given as goal

abbrev pub invariant-loop-i : goal.invariant-loop-i
invariant-loop-i l = record {
  went : (kind : LadKind) → WritesNoEdgeLabels kind → WentListed kind l.size l._i l.fn.words l.words (map unlabelled l.lists.rest);
  lists : l.lists.lists ≡ l.fn.lists.lists;
}
