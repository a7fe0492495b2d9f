use Rattle.std.proofs.Common.{◌≡◌, ◌≤◌, length}
use Rattle.std.specs.List.{All}
use Rattle.batch_pool.proofs.Placed.{AreAnswered}
use Rattle.batch_pool.proofs.bench.Bench.finish.Given as goal

abbrev pub invariant-loop-slot : goal.invariant-loop-slot
invariant-loop-slot g l = record {
  outs : length l.outs.items ≡ length l.yielded;
  by : length l.by.items ≡ length l.yielded;
  answered : AreAnswered (g.W.Work.answers l.self.work.now) l.self.jobs.now l.outs.items;
  few : All (λ w. w ≤ l.self.workers) l.by.items;
}
