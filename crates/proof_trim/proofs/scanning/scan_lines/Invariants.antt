use Rattle.std.proofs.Common.{length}
use Rattle.proof_trim.proofs.LinesRead.{ScannedTo}
use Rattle.proof_trim.proofs.scanning.scan_lines.Given as goal

abbrev pub invariant-loop-left : goal.invariant-loop-left
invariant-loop-left l = ScannedTo l.text l.left l.index l.places.items

abbrev pub decreases-loop-left : goal.decreases-loop-left
decreases-loop-left l = length l.left
