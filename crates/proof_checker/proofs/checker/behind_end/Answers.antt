use Rattle.proof_checker.proofs.FedLines.{grown_end}
use Rattle.proof_checker.proofs.checker.behind_end.Goals as goal

pub returns-clause-says : goal.returns-clause-says
returns-clause-says c = grown_end _ _ _ _ c.args.tail.now.items c.args.end.now _ _ c.in_ok-extend.ensures.grown c.clear.ensures.items (rw c.deref.ensures.value at c.in_ok-next.ensures)
