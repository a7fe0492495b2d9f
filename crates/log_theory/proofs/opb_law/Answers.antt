use Rattle.log_theory.proofs.OpbReadBack.{opb_read_back}
use Rattle.log_theory.proofs.opb_law.Goals as goal

pub returns : goal.returns
returns c = opb_read_back
