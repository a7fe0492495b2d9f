use Rattle.pb_propagation.specs.Levels.{now}
use Rattle.pb_propagation.proofs.Led.{led_assumed}
use Rattle.pb_propagation.proofs.propagator.assume.Goals as goal

pub returns-then-is_within-clause-comes : goal.returns-then-is_within-clause-comes
returns-then-is_within-clause-comes c s fs e d = led_assumed s fs (now c.args.set.now) (now c.set.new.self) c.args.variable c.args.value e c.set.ensures.set d
