use Rattle.std.specs.Prelude.{take, All}
use Rattle.parallel_solve.specs.Teaming.{StaysBeside, StaysWithoutOwn}
use Rattle.parallel_solve.proofs.tally.all_stay.Given as goal

abbrev pub invariant-loop-log : goal.invariant-loop-log
invariant-loop-log g l = record {
  steps : All (λ log. StaysBeside (g.L.ProofLogger.owner log) (g.L.ProofLogger.steps log)) (take l.log-index l.logs);
  refutes : All (λ log. StaysBeside (g.L.ProofLogger.owner log) (g.L.ProofLogger.refutes log)) (take l.log-index l.logs);
  steps_alone : All (λ log. StaysWithoutOwn (g.L.ProofLogger.owner log) (g.L.ProofLogger.steps log)) (take l.log-index l.logs);
  refutes_alone : All (λ log. StaysWithoutOwn (g.L.ProofLogger.owner log) (g.L.ProofLogger.refutes log)) (take l.log-index l.logs);
}
