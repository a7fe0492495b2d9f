use Rattle.std.proofs.Common.{◌≡◌}
use Rattle.std.specs.Prelude.{vec_capacity}
use Rattle.nogood_watch.specs.Inside.{nogoods_of}
use Rattle.nogood_watch.specs.Walking.{Walking, to_visit}
use Rattle.nogood_watch.proofs.walk.walk.Given as goal

abbrev pub invariant-loop-heads : goal.invariant-loop-heads
invariant-loop-heads g l = record {
  walking : Walking l.d (nogoods_of l.nogoods.literals.now l.nogoods.entries.now) l.nogoods.live.now l.fn.watches l.fn.literal l.watches l.heads l.next l.forced.items;
  room : vec_capacity l.forced ≡ vec_capacity l.fn.forced;
}

abbrev pub decreases-loop-heads : goal.decreases-loop-heads
decreases-loop-heads g l = to_visit l.heads l.next
