use Rattle.proof_checker.proofs.FedLines.{extended}
use Rattle.proof_checker.proofs.checker.extend.Goals as goal

pub returns-clause-no_feed : goal.returns-clause-no_feed
returns-clause-no_feed c = extended c.extend_from_slice.result c.args.tail.now.items c.args.text.now c.extend_from_slice.new.self.items c.extend_from_slice.ensures.items c.requires.tail c.requires.text
