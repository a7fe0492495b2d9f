use Rattle.propagation.proofs.Takes.{flagged_on, takes_more}
use Rattle.propagation.proofs.edges.support_vertex.Goals as goal

pub support_from-requires-2-clause-flagged : goal.support_from-requires-2-clause-flagged
support_from-requires-2-clause-flagged g c = flagged_on _ _ _ _ _ _ _ _ c.requires.flagged c.in_ok-support_from.ensures.takes

pub returns-clause-takes : goal.returns-clause-takes
returns-clause-takes g c = takes_more _ _ _ _ _ _ _ _ _ _ _ _ c.in_ok-support_from.ensures.takes c.support_from-2.ensures.takes
