use Rattle.propagation.proofs.Holding.{nogood_read, step_read, kept_read}
use Rattle.propagation.proofs.nogoods.Nogoods.take_row.Goals as goal

pub keep-requires-clause-nogood : goal.keep-requires-clause-nogood
keep-requires-clause-nogood c = nogood_read c.args.rows.now c.args.k _ c.requires.inside c.in-Nogood.is

pub returns-in-Step-clause-holds : goal.returns-in-Step-clause-holds
returns-in-Step-clause-holds c = step_read c.args.q.now c.args.rows.now c.args.k _ _ c.requires.sound c.requires.inside c.in-Step.is c.requires.holds

pub returns-in-Nogood-clause-holds : goal.returns-in-Nogood-clause-holds
returns-in-Nogood-clause-holds c =
    kept_read c.keep.result c.args.q.now c.args.rows.now c.args.k c.args.self.now c.keep.new.self c.requires.sound
    (nogood_read c.args.rows.now c.args.k _ c.requires.inside c.in-Nogood.is) c.keep.ensures.kept c.requires.holds
