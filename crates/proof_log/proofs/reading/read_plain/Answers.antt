use Rattle.proof_log.proofs.PlainLines.{plain_answer}
use Rattle.proof_log.proofs.reading.read_plain.Goals as goal

pub returns-in-Some-clause-ranges : goal.returns-in-Some-clause-ranges
returns-in-Some-clause-ranges c = plain_answer c.in-Some.kind.now c.next.new.self c.read_plain_behind.result c.read_plain_behind.ensures
