use Rattle.std.proofs.Common.{◌≡◌, ◌*◌, length}
use Rattle.graph_theory.specs.Graph.{size}
use Rattle.pair_supports.specs.Kinds.{AreKinds}
use Rattle.pair_supports.proofs.kinds.classify_all.Given as goal

abbrev pub invariant-loop-p : goal.invariant-loop-p
invariant-loop-p l = record {
  kinds : AreKinds l.q l.kinds.items l.places.items (l.p * size l.q.pattern);
  guesses : length l.guesses ≡ 256;
}
