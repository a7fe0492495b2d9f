use Rattle.proof_checker.proofs.FedLines.{goes_on, ends_with, refused_for}
use Rattle.proof_checker.proofs.checker.behind_line.Goals as goal

pub returns-in-Ok-Goes : goal.returns-in-Ok-Goes
returns-in-Ok-Goes c rest = goes_on c.args.lines.now c.step.new.self c.args.number c.args.line.now rest c.requires c.in-Ok-Goes.ensures.same.0 c.in-Ok-Goes.ensures.same.1 (rw c.in-Ok-Goes.field-0-is at c.in-Ok-Goes.ensures.turns)

pub returns-in-Ok-Ends : goal.returns-in-Ok-Ends
returns-in-Ok-Ends c rest = ends_with c.args.lines.now c.in-Ok-Ends.claim c.args.number c.args.line.now rest c.requires (rw c.in-Ok-Ends.field-0-is at c.in-Ok-Ends.ensures.turns)

pub returns-in-Err-Cause : goal.returns-in-Err-Cause
returns-in-Err-Cause c rest = refused_for c.args.lines.now c.in-Err-Cause.cause c.args.number c.args.line.now rest c.requires (rw c.in-Err-Cause.field-0-is at c.in-Err-Cause.ensures.turns)
