-- The rows up to k are there.
use Rattle.std.proofs.Common.{◌≡◌, ◌≤◌, take, vec_capacity}
use Rattle.locked_shelf.proofs.seat.ShelfSeat.take_up.Given as goal

abbrev pub invariant-loop-k : goal.invariant-loop-k
invariant-loop-k l = (l.self-inside.rows.items ≡ take l.k l.rows) × (l.self-inside.problem ≡ l.initial.self-inside.problem) × (l.self-inside.owner ≡ l.initial.self-inside.owner)
    × (l.self-inside.most ≡ l.initial.self-inside.most) × (l.self-inside.most ≤ vec_capacity l.self-inside.rows)
