use Rattle.proof_checker.proofs.FedLines.{behind_shorter}
use Rattle.proof_checker.proofs.PieceFed.{line_fed}
use Rattle.proof_checker.proofs.checker.Checker.take.Goals as goal

pub loop-end-preserved : goal.loop-end-preserved
loop-end-preserved c = line_fed c.loop-end.self c.end_line.new.self c.args.self.now _ _ _ c.args.piece.now c.in-Some.ensures.0 c.in_ok-end_line.ensures c.loop-end.invariant

pub loop-end-smaller : goal.loop-end-smaller
loop-end-smaller c = behind_shorter _ _ _ c.in-Some.ensures.0
