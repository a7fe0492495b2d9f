use Rattle.pb_propagation.proofs.Led.{keeps_itself, keeps_on}
use Rattle.pb_propagation.proofs.propagator.touch_watches.Goals as goal

pub loop-init : goal.loop-init
loop-init c = record { comes = λ s d. d; kept = keeps_itself _ }

pub loop-preserved : goal.loop-preserved
loop-preserved c = record {
  comes = λ s d. c.if-follow_due.ensures.comes s (c.loop.invariant.comes s d);
  kept = keeps_on _ _ _ c.loop.invariant.kept c.follow_due.ensures.kept;
}

pub returns-then-follow_due-clause-comes : goal.returns-then-follow_due-clause-comes
returns-then-follow_due-clause-comes c s d = c.if-follow_due.ensures.comes s (c.loop.invariant.comes s d)

pub returns-then-follow_due-clause-kept : goal.returns-then-follow_due-clause-kept
returns-then-follow_due-clause-kept c = keeps_on _ _ _ c.loop.invariant.kept c.follow_due.ensures.kept
