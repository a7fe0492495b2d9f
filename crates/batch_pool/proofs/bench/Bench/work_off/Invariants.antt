use Rattle.crossbeam_queue.specs.Passes.{view, IsPassOf}
use Rattle.batch_pool.specs.Placing.{HasWorked}
use Rattle.batch_pool.proofs.bench.Bench.work_off.Given as goal

abbrev pub invariant-loop : goal.invariant-loop
invariant-loop g l = record {
  queue : IsPassOf l.self.queue.now l.pass;
  worked : HasWorked (g.W.Work.answers l.self.work.now) l.self.jobs.now (view l.pass) l.taken.items;
}
