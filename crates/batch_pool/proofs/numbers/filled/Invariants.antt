use Rattle.std.proofs.Common.{◌≡◌, []}
use Rattle.crossbeam_queue.specs.Passes.{view, IsPassOf}
use Rattle.batch_pool.specs.Rule.{hand, all_parts}
use Rattle.batch_pool.proofs.numbers.filled.Given as goal

abbrev pub invariant-loop-number : goal.invariant-loop-number
invariant-loop-number g l = record {
  queue : IsPassOf l.queue l.pass;
  view : view l.pass ≡ hand all_parts l.number [];
}
