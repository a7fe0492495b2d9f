use Rattle.propagation.proofs.along_edges.look.Goals as goal

pub returns-in-Support-clause-takes : goal.returns-in-Support-clause-takes
returns-in-Support-clause-takes g c = c.support_all.ensures.takes

pub returns-in-Support-clause-room : goal.returns-in-Support-clause-room
returns-in-Support-clause-room g c = c.support_all.ensures.room

pub support_all-requires-clause-flagged : goal.support_all-requires-clause-flagged
support_all-requires-clause-flagged g c = c.requires.flagged
