use Rattle.std.proofs.Common.{Bool, sym, subst}
use Rattle.log_theory.specs.Tables.{all_forms}
use Rattle.log_theory.proofs.DroppedLogs.{found_among}
use Rattle.pb_propagation.specs.Led.{Comes}
use Rattle.pb_propagation.specs.Levels.{now}
use Rattle.pb_propagation.proofs.propagator.follow_due.Goals as goal

pub returns-clause-comes : goal.returns-clause-comes
returns-clause-comes c s h =
    c.follow.ensures.comes s _ (found_among c.args.model.now c.args.table.now c.in-Some.name.now c.in-Some-find.next.now (sym c.in-Some-find.ensures))
    (subst (λ (b : Bool). Comes b s (all_forms c.args.model.now c.args.table.now) (now c.args.set.now)) c.if-closed.false h)
