use Rattle.parallel_solve.proofs.Numbers.{not_below}
use Rattle.parallel_solve.proofs.Gathering.{made_next}
use Rattle.parallel_solve.proofs.team.make_job.Goals as goal

pub split-requires-clause-new_ : goal.split-requires-clause-new_
split-requires-clause-new_ g c = not_below c.args.first.now.view.made c.args.number c.requires.made.below

pub returns-clause-made : goal.returns-clause-made
returns-clause-made g c = made_next c.args.number c.args.first.now _ c.in_ok-seat.ensures.made c.requires.made
