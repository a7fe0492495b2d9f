use Rattle.std.proofs.Common.{◌≡◌, ◌+◌, length}
use Rattle.crossbeam_queue.specs.Passes.{view, IsSamePass, IsPassOf}
use Rattle.batch_pool.specs.Placing.{ArePlaced}
use Rattle.batch_pool.proofs.bench.Bench.gather_all.Given as goal

abbrev pub invariant-loop-done : goal.invariant-loop-done
invariant-loop-done g l = record {
  same : IsSamePass l.initial.pass l.pass;
  queue : IsPassOf l.self.queue.now l.pass;
  parts : (view l.pass).parts ≡ (view l.initial.pass).parts + length l.yielded;
  pushed : (view l.pass).pushed ≡ (view l.initial.pass).pushed;
  placed : ArePlaced (g.W.Work.answers l.self.work.now) l.self.jobs.now l.self.workers (view l.pass).taken l.entries.slots.items;
}
