use Rattle.proof_theory.proofs.Propagation.{refuted_closes, closed_clause}
use Rattle.proof_theory.proofs.closure_laws.Goals as goal

pub returns : goal.returns
returns c = record {
  refuted = refuted_closes;
  clause = closed_clause;
}
