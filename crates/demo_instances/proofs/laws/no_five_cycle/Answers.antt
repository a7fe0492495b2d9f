use Rattle.demo_instances.proofs.Shown.{no_five_cycle}
use Rattle.demo_instances.proofs.laws.no_five_cycle.Goals as goal

pub returns : goal.returns
returns c = no_five_cycle
