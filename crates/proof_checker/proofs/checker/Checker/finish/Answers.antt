use Rattle.proof_checker.proofs.FedLines.{open_ends}
use Rattle.proof_checker.proofs.checker.Checker.finish.Goals as goal

pub returns-in-Open-clause-exact : goal.returns-in-Open-clause-exact
returns-in-Open-clause-exact c = open_ends c.args.self _ _ _ _ _ c.in-Open.is c.self.invariant c.self.view_is
