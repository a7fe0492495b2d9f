use Rattle.std.proofs.Common.{◌≡◌, ◌-◌, [], map, length}
use Rattle.std.specs.List.{All, range_with_len}
use Rattle.crossbeam_queue.specs.Passes.{view, IsSamePass, IsPassOf}
use Rattle.batch_pool.specs.Rule.{hand, all_parts}
use Rattle.batch_pool.specs.Placing.{IsHired}
use Rattle.batch_pool.proofs.bench.Bench.hire.Given as goal

abbrev pub invariant-loop-k : goal.invariant-loop-k
invariant-loop-k g l = record {
  same : IsSamePass l.initial.pass l.pass;
  queue : IsPassOf l.self.queue.now l.pass;
  left : view l.pass ≡ hand (all_parts - l.k) (length l.self.jobs.now) [];
  numbers : map (λ w. w.number) l.staff.items ≡ range_with_len 1 l.k;
  hired : All (λ w. IsHired l.self.queue.now (length l.self.jobs.now) l.self.workers w) l.staff.items;
}
