use Rattle.std.proofs.Common.{◌≤◌, length, take, Some}
use Rattle.recorder.specs.Holding.{HoldsRows}
use Rattle.propagation.specs.Learning.{AreNogoods}
use Rattle.propagation.proofs.nogoods.Nogoods.take_rows.Given as goal

abbrev pub invariant-loop-k : goal.invariant-loop-k
invariant-loop-k l = record {
  nogoods : AreNogoods l.q l.self;
  holds : HoldsRows (take l.k l.rows) (Some l.self);
  within : l.k ≤ length l.rows;
}
