use Rattle.demo_instances.proofs.Places.{place_few}
use Rattle.demo_instances.proofs.instances.place_of.Goals as goal

pub returns-clause-few : goal.returns-clause-few
returns-clause-few c = place_few c.args.a c.args.b c.requires.order c.requires.few
