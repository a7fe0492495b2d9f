use Rattle.all_different.proofs.Decided.{none_balanced}
use Rattle.all_different.proofs.finding.find_all.Goals as goal

pub find_from-requires-clause-begun : goal.find_from-requires-clause-begun
find_from-requires-clause-begun g c = none_balanced (g.F.Family.state c.args.d.now)
