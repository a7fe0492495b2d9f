use Rattle.log_theory.proofs.LogVerdicts.{log_unsatisfiable, log_satisfiable, log_answered}
use Rattle.log_theory.proofs.LogFronts.{log_fronts}
use Rattle.log_theory.proofs.log_laws.Goals as goal

pub returns : goal.returns
returns c = record {
  unsatisfiable = log_unsatisfiable;
  satisfiable = log_satisfiable;
  answered = log_answered;
  fronts = log_fronts;
}
