use Rattle.common_neighbour.proofs.Filling.{too_few_lie_in_none}
use Rattle.common_neighbour.proofs.too_few_are_dead.Goals as goal

pub returns : goal.returns
returns c = too_few_lie_in_none
