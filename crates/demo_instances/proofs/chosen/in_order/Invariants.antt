use Rattle.std.proofs.Common.{◌≡◌}
use Rattle.std.specs.List.{range_with_len}
use Rattle.demo_instances.proofs.chosen.in_order.Given as goal

-- The vertices so far.
abbrev pub invariant-loop-v : goal.invariant-loop-v
invariant-loop-v l = l.list.items ≡ range_with_len 0 l.v
