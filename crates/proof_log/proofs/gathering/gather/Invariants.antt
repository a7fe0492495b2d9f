use Rattle.std.proofs.Common.{◌≡◌, take}
use Rattle.outer_io.specs.Sinks.{joined}
use Rattle.proof_log.proofs.gathering.gather.Given as goal

-- the pieces so far were gathered
abbrev pub invariant-loop-piece : goal.invariant-loop-piece
invariant-loop-piece l = l.bytes.items ≡ joined (take l.piece-index l.pieces)
