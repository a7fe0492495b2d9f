use Rattle.proof_log.proofs.Cutting.{IsUncut}
use Rattle.proof_log.proofs.pieces.first_piece.Given as goal

abbrev pub invariant-loop-i : goal.invariant-loop-i
invariant-loop-i l = IsUncut l.separator l.text l.i
