use Rattle.std.proofs.Common.{◌≡◌, ◌++◌, length}
use Rattle.graph_theory.specs.Mapping.{yes_text, AreNumbers32}
use Rattle.graph_rows.proofs.mapping.images_in.Given as goal

abbrev pub invariant-loop-rest : goal.invariant-loop-rest
invariant-loop-rest l = record {
  images : AreNumbers32 l.images.items;
  text : l.bytes ≡ yes_text l.images.items ++ l.rest;
}

abbrev pub decreases-loop-rest : goal.decreases-loop-rest
decreases-loop-rest l = length l.rest
