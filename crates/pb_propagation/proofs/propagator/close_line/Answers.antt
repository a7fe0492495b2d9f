use Rattle.proof_theory.specs.Slack.{setting}
use Rattle.log_theory.specs.Tables.{all_forms}
use Rattle.pb_propagation.proofs.Led.{keeps_on}
use Rattle.pb_propagation.proofs.propagator.close_line.Goals as goal

pub returns-clause-comes : goal.returns-clause-comes
returns-clause-comes c d = c.run-closed.ensures.comes (setting c.args.assumed.now) (c.if-assume_all.ensures.comes (all_forms c.args.model.now c.args.table.now) d)

pub returns-clause-kept : goal.returns-clause-kept
returns-clause-kept c = keeps_on _ _ _ c.assume_all.ensures.kept c.run-closed.ensures.kept
