use Rattle.std.proofs.Common.{map}
use Rattle.demo_instances.specs.Listing.{ListsPairs}
use Rattle.demo_instances.proofs.making.graph_by.Given as goal

-- The lists of the vertices so far.
abbrev pub invariant-loop-a : goal.invariant-loop-a
invariant-loop-a g l = ListsPairs l.size l.a (g.P.Pairs.pair l.pairs) (map (λ v. v.items) l.lists.items)
