use Rattle.std.proofs.Common.{◌≡◌, [], length}
use Rattle.graph_theory.specs.Progress.{WentVertices}
use Rattle.lad_reader.specs.Parts.{vertices_from}
use Rattle.lad_reader.proofs.reader.read_vertices.Given as goal

abbrev pub invariant-loop-i : goal.invariant-loop-i
invariant-loop-i l = record {
  went : WentVertices l.kind l.size l._i l.fn.words l.words (vertices_from l.labels.items l.lists.lists);
  lengths : length l.labels.items ≡ length l.lists.lists;
  begun : l.lists.rest ≡ [];
}
