use Rattle.demo_instances.proofs.Shown.{cycle_has_none}
use Rattle.demo_instances.proofs.laws.cycle_has_none.Goals as goal

pub returns : goal.returns
returns c = cycle_has_none
