use Rattle.log_theory.specs.LogText.{AreRefs}
use Rattle.proof_theory.specs.Slack.{Setting, setting}
use Rattle.log_theory.specs.Tables.{find}
use Rattle.std.proofs.Common.{drop}
use Rattle.proof_trim.specs.Hints.{LeadsTo}
use Rattle.proof_trim.proofs.hints.try_all.Given as goal

abbrev pub invariant-loop-at : goal.invariant-loop-at
invariant-loop-at l = record {
  leads : (s : Setting) → LeadsTo (find l.model l.table) s l.initial.refs.items (setting l.initial.set) → LeadsTo (find l.model l.table) s l.refs.items (setting l.set);
  refs : AreRefs l.refs.items;
  known : AreRefs (drop l.at-index l.known);
}
