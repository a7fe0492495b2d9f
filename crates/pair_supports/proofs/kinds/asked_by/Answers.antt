use Rattle.std.proofs.Common.{sym}
use Rattle.pair_supports.proofs.Classes.{asked_counted, asked_back_counted, nothing_asked, nothing_asked_back}
use Rattle.pair_supports.proofs.kinds.asked_by.Goals as goal

pub shared_by-requires-clause-injective : goal.shared_by-requires-clause-injective
shared_by-requires-clause-injective c = sym c.in-Injective.ensures.maps

pub returns-in-Injective-clause-out : goal.returns-in-Injective-clause-out
returns-in-Injective-clause-out c = asked_counted c.args.q.now c.args.p c.args.r _ c.in-Injective.ensures.maps c.shared_by.ensures.out

pub returns-in-Injective-clause-back : goal.returns-in-Injective-clause-back
returns-in-Injective-clause-back c = asked_back_counted c.args.q.now c.args.p c.args.r _ c.in-Injective.ensures.maps c.shared_by.ensures.back

pub returns-in-Local-clause-out : goal.returns-in-Local-clause-out
returns-in-Local-clause-out c = (nothing_asked c.args.q.now c.args.p c.args.r).0 c.in-Local.ensures.maps

pub returns-in-Local-clause-back : goal.returns-in-Local-clause-back
returns-in-Local-clause-back c = (nothing_asked_back c.args.q.now c.args.p c.args.r).0 c.in-Local.ensures.maps

pub returns-in-Any-clause-out : goal.returns-in-Any-clause-out
returns-in-Any-clause-out c = (nothing_asked c.args.q.now c.args.p c.args.r).1 c.in-Any.ensures.maps

pub returns-in-Any-clause-back : goal.returns-in-Any-clause-back
returns-in-Any-clause-back c = (nothing_asked_back c.args.q.now c.args.p c.args.r).1 c.in-Any.ensures.maps
