use Rattle.proof_log.proofs.Ranges.{answer_within}
use Rattle.proof_log.proofs.PlainLines.{hinted_is}
use Rattle.proof_log.proofs.reading.read_hinted.Goals as goal

pub returns-in-Some-clause-ranges : goal.returns-in-Some-clause-ranges
returns-in-Some-clause-ranges c = hinted_is c.read_behind.result (answer_within c.in-Some.kind.now c.next.new.self c.read_behind.result c.read_behind.ensures)
