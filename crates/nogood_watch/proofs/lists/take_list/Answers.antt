use Rattle.nogood_watch.proofs.Chains.{taken}
use Rattle.nogood_watch.proofs.lists.take_list.Goals as goal

pub returns-clause-chained : goal.returns-clause-chained
returns-clause-chained c = λ home next h. taken home c.args.heads.now next c.args.from c.args.to h c.requires.from_in c.requires.to_in c.requires.apart c.requires.none
