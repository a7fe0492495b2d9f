use Rattle.std.proofs.Common.{sym}
use Rattle.needed_values.proofs.Agreeing.{asked_as, asked_local, asked_any}
use Rattle.needed_values.proofs.consistent.asked_by.Goals as goal

pub returns-in-Injective : goal.returns-in-Injective
returns-in-Injective c = asked_as c.args.direction c.args.q.now c.args.p c.args.r c.pattern.result.now c.pattern.ensures.pattern c.in-Injective.ensures.maps c.shared_by.result c.shared_by.ensures

pub returns-in-Local : goal.returns-in-Local
returns-in-Local c = sym (asked_local c.args.direction c.args.q.now c.args.p c.args.r c.in-Local.ensures.maps)

pub returns-in-Any : goal.returns-in-Any
returns-in-Any c = sym (asked_any c.args.direction c.args.q.now c.args.p c.args.r c.in-Any.ensures.maps)
