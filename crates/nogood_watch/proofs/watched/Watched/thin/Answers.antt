use Rattle.nogood_watch.proofs.Fewer.{kept_seen}
use Rattle.nogood_watch.proofs.watched.Watched.thin.Goals as goal

pub returns-then-len-self-clause-watches : goal.returns-then-len-self-clause-watches
returns-then-len-self-clause-watches c = rw (← c.self.view_is) (kept_seen _ _ _ _ _ _ _ _ _ c.self.invariant)
