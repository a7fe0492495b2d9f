use Rattle.nogood_watch.proofs.Chains.{linked}
use Rattle.nogood_watch.proofs.lists.link.Goals as goal

pub returns-clause-chained : goal.returns-clause-chained
returns-clause-chained c = λ home h out. linked home c.args.heads.now c.args.next.now c.args.to c.args.x h c.requires.to_in c.requires.x_in out
