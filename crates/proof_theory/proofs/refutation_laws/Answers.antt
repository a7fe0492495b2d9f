use Rattle.proof_theory.proofs.Refutation.{refuted_clause, clause_form_holds}
use Rattle.proof_theory.proofs.refutation_laws.Goals as goal

pub returns : goal.returns
returns c = record {
  refuted = refuted_clause;
  clause = clause_form_holds;
}
