use Rattle.log_theory.specs.LogText.{AreRefs}
use Rattle.proof_theory.specs.Slack.{setting}
use Rattle.log_theory.specs.Tables.{find}
use Rattle.proof_trim.specs.Hints.{LeadsTo}
use Rattle.proof_trim.proofs.hints.refute.Given as goal

abbrev pub invariant-loop : goal.invariant-loop
invariant-loop l = record {
  leads : LeadsTo (find l.model l.table) (setting l.initial.set) l.refs.items (setting l.set);
  refs : AreRefs l.refs.items;
}
