use Rattle.pair_lines.proofs.Meetings.{never_of, local_none, any_none}
use Rattle.pair_lines.proofs.sharing.sharing_of.Goals as goal

pub counted_sharing-requires-clause-injective : goal.counted_sharing-requires-clause-injective
counted_sharing-requires-clause-injective c = never_of c.args.known.now c.in-Injective.ensures

pub returns-in-Local : goal.returns-in-Local
returns-in-Local c = local_none c.args.known.now c.args.p c.args.r c.in-Local.ensures

pub returns-in-Any : goal.returns-in-Any
returns-in-Any c = any_none c.args.known.now c.args.p c.args.r c.in-Any.ensures
