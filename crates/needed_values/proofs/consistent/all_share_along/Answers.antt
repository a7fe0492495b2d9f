use Rattle.needed_values.proofs.Sharing.{all_sharers}
use Rattle.needed_values.proofs.consistent.all_share_along.Goals as goal

pub returns-in-Some : goal.returns-in-Some
returns-in-Some c = all_sharers c.args.sharers.now.target c.args.t c.args.shared c.args.row.now c.in-Some.others.now c.in-Some.ensures.bits c.is_within.result c.is_within.ensures
