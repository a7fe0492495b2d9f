use Rattle.pb_propagation.proofs.Led.{keeps_itself, keeps_on}
use Rattle.pb_propagation.proofs.propagator.run.Goals as goal

pub loop-place-init : goal.loop-place-init
loop-place-init c = record { comes = λ s d. d; kept = keeps_itself _ }

pub loop-place-preserved : goal.loop-place-preserved
loop-place-preserved c = record {
  comes = λ s d. c.if-touch_watches.ensures.comes s (c.if-touch.ensures.comes s (c.loop-place.invariant.comes s d));
  kept = keeps_on _ _ _ (keeps_on _ _ _ c.loop-place.invariant.kept c.touch.ensures.kept) c.touch_watches.ensures.kept;
}

pub returns-then-touch-clause-comes : goal.returns-then-touch-clause-comes
returns-then-touch-clause-comes c s d = c.if-touch.ensures.comes s (c.loop-place.invariant.comes s d)

pub returns-then-touch-clause-kept : goal.returns-then-touch-clause-kept
returns-then-touch-clause-kept c = keeps_on _ _ _ c.loop-place.invariant.kept c.touch.ensures.kept

pub returns-then-touch_watches-clause-comes : goal.returns-then-touch_watches-clause-comes
returns-then-touch_watches-clause-comes c s d =
    c.if-touch_watches.ensures.comes s (c.if-touch.ensures.comes s (c.loop-place.invariant.comes s d))

pub returns-then-touch_watches-clause-kept : goal.returns-then-touch_watches-clause-kept
returns-then-touch_watches-clause-kept c =
    keeps_on _ _ _ (keeps_on _ _ _ c.loop-place.invariant.kept c.touch.ensures.kept) c.touch_watches.ensures.kept
