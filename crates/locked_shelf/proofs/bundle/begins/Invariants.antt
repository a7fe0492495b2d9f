-- The rows so far are the same.
use Rattle.std.proofs.Common.{◌≡◌, take}
use Rattle.locked_shelf.proofs.bundle.begins.Given as goal

abbrev pub invariant-loop-k : goal.invariant-loop-k
invariant-loop-k l = take l.k l.rows ≡ take l.k l.seen
