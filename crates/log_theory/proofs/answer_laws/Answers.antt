use Rattle.log_theory.proofs.LogAnswers.{accepts_verdict, verdict_accepted, refuses_verdict, verdict_refused}
use Rattle.log_theory.proofs.answer_laws.Goals as goal

pub returns : goal.returns
returns c = record {
  accepts = accepts_verdict;
  accepted = verdict_accepted;
  refuses = refuses_verdict;
  refused = verdict_refused;
}
