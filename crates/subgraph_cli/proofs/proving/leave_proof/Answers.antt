-- Where the writing stopped, the log is that of the answer.

use Rattle.proof_files.specs.TwoFiles.{StopsInEncoding, FailsInWriting}
use Rattle.subgraph_cli.proofs.Proofs.{stops_of_answer, proof_of_answer}
use Rattle.subgraph_cli.proofs.proving.leave_proof.Goals as goal

pub returns-in-Err-Failed-clause-says : goal.returns-in-Err-Failed-clause-says
returns-in-Err-Failed-clause-says g c told =
    stops_of_answer FailsInWriting c.args.answer.now c.finding_of-finding.result c.args.q.now c.args.words.now.prove c.in-Some.names _ c.in-Some.is
    c.finding_of-finding.ensures.answer c.finding_of-finding.ensures.found c.requires.right
    (rw (c.in-Err-Failed.field-0-is, c.as_str-encoding.ensures.text, c.as_str-log.ensures.text) at c.in-Err-Failed.ensures.says)

pub returns-in-Err-NoMemory-clause-says : goal.returns-in-Err-NoMemory-clause-says
returns-in-Err-NoMemory-clause-says g c told =
    stops_of_answer StopsInEncoding c.args.answer.now c.finding_of-finding.result c.args.q.now c.args.words.now.prove c.in-Some.names _ c.in-Some.is
    c.finding_of-finding.ensures.answer c.finding_of-finding.ensures.found c.requires.right
    ((rw (c.in-Err-NoMemory.field-0-is, c.as_str-encoding.ensures.text, c.as_str-log.ensures.text) at c.in-Err-NoMemory.ensures.says) told)

pub returns-in-Ok-clause-says : goal.returns-in-Ok-clause-says
returns-in-Ok-clause-says g c told =
    proof_of_answer c.args.answer.now c.finding_of-finding.result c.args.q.now c.args.words.now.prove c.in-Some.names _ c.in-Some.is
    c.finding_of-finding.ensures.answer c.finding_of-finding.ensures.found c.requires.right
    ((rw (c.as_str-encoding.ensures.text, c.as_str-log.ensures.text) at c.in-Ok.ensures.says) told) c.in-Ok.ensures.accepted
