use Rattle.std.proofs.Common.{◌≡◌, ◌≤◌}
use Rattle.graph_theory.specs.Neighbours.{count, is_near}
use Rattle.pb_encoding.proofs.numbers.near_count.Given as goal

abbrev pub invariant-loop-b : goal.invariant-loop-b
invariant-loop-b l = record { counted : l.near ≡ count (is_near l.g l.c) l.b; few : l.near ≤ l.b }
