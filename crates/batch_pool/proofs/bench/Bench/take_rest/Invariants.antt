use Rattle.std.proofs.Common.{◌≡◌, length}
use Rattle.crossbeam_queue.specs.Passes.{view, IsPassOf}
use Rattle.batch_pool.specs.Rule.{all_parts}
use Rattle.batch_pool.specs.Placing.{ArePlaced}
use Rattle.batch_pool.proofs.bench.Bench.take_rest.Given as goal

abbrev pub invariant-loop : goal.invariant-loop
invariant-loop g l = record {
  queue : IsPassOf l.self.queue.now l.pass;
  whole : (view l.pass).parts ≡ all_parts;
  pushed : (view l.pass).pushed ≡ length l.self.jobs.now;
  placed : ArePlaced (g.W.Work.answers l.self.work.now) l.self.jobs.now l.self.workers (view l.pass).taken l.entries.slots.items;
}
