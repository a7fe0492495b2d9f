use Rattle.std.proofs.Common.{◌≡◌, length}
use Rattle.propagation.specs.Learning.{DecidedWait}
use Rattle.propagation.proofs.counting.raise_decided.Given as goal

abbrev pub invariant-loop-p : goal.invariant-loop-p
invariant-loop-p g l = record {
  long : length l.waiting ≡ l.d.vertices;
  decided : DecidedWait l.d l.waiting l.p;
}
