use Rattle.std.proofs.Common.{◌≡◌, ◌++◌, take}
use Rattle.outer_io.specs.Sinks.{joined}
use Rattle.graph_rows.proofs.gathered.add.Given as goal

-- the pieces so far were appended
abbrev pub invariant-loop-piece : goal.invariant-loop-piece
invariant-loop-piece l = l.text.items ≡ l.fn.text.items ++ joined (take l.piece-index l.pieces)
