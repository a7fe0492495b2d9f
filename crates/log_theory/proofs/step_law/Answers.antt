use Rattle.log_theory.proofs.StepReadBack.{step_read_back}
use Rattle.log_theory.proofs.step_law.Goals as goal

pub returns : goal.returns
returns c = step_read_back
