use Rattle.merged_log.proofs.Holding.{premises}
use Rattle.merged_log.proofs.laws.premise_laws.Goals as goal

pub returns : goal.returns
returns c = premises
