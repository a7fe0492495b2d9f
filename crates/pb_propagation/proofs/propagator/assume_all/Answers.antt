use Rattle.pb_propagation.proofs.Led.{keeps_on}
use Rattle.pb_propagation.proofs.propagator.assume_all.Goals as goal

pub loop-literal-preserved : goal.loop-literal-preserved
loop-literal-preserved c = record {
  led = λ fs d. c.if-assume_of.ensures.comes fs (c.loop-literal.invariant.led fs d);
  kept = keeps_on _ _ _ c.loop-literal.invariant.kept c.assume_of.ensures.kept;
}

pub returns-then-assume_of-clause-comes : goal.returns-then-assume_of-clause-comes
returns-then-assume_of-clause-comes c fs d = c.if-assume_of.ensures.comes fs (c.loop-literal.invariant.led fs d)

pub returns-then-assume_of-clause-kept : goal.returns-then-assume_of-clause-kept
returns-then-assume_of-clause-kept c = keeps_on _ _ _ c.loop-literal.invariant.kept c.assume_of.ensures.kept
