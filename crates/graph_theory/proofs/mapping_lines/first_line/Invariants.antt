use Rattle.std.proofs.Common.{take}
use Rattle.graph_theory.specs.Mapping.{HasNoLineFeed}
use Rattle.graph_theory.proofs.mapping_lines.first_line.Given as goal

abbrev pub invariant-loop-i : goal.invariant-loop-i
invariant-loop-i l = HasNoLineFeed (take l.i l.bytes)
