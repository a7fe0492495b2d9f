use Rattle.demo_instances.specs.Listing.{ListsThose}
use Rattle.demo_instances.proofs.making.listed.Given as goal

-- The vertices so far of which the test holds.
abbrev pub invariant-loop-b : goal.invariant-loop-b
invariant-loop-b g l = ListsThose l.size l.b (g.P.Pairs.pair l.pairs l.a) l.list.items
