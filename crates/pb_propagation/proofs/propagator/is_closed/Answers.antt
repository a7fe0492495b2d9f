use Rattle.std.proofs.Common.{arith, sym}
use Rattle.proof_theory.specs.Slack.{setting}
use Rattle.log_theory.specs.Tables.{all_forms}
use Rattle.pb_propagation.proofs.Propagation.{literals_wider}
use Rattle.pb_propagation.proofs.Led.{on_closed}
use Rattle.pb_propagation.proofs.propagator.is_closed.Goals as goal

pub negate_all-requires-clause-within : goal.negate_all-requires-clause-within
negate_all-requires-clause-within c =
    let h = c.in_ok-clear.ensures.1 in
    literals_wider c.above.result _ c.args.literals.now (omega arith) c.above.ensures.reach

pub returns-clause-closed : goal.returns-clause-closed
returns-clause-closed c =
    on_closed _ (setting c.negate_all.new.set) c.args.literals.now (all_forms c.args.model.now c.args.table.now) (sym c.if-not-negate_all.ensures.distinct) c.if-not-negate_all.ensures.set c.in_ok-close.ensures.closed
