use Rattle.nogood_watch.proofs.InForce.{watch_laws_hold}
use Rattle.nogood_watch.proofs.in_force.watch_laws.Goals as goal

pub returns : goal.returns
returns c = watch_laws_hold
