use Rattle.propagation.proofs.Takes.{takes_none, takes_as, takes_failed}
use Rattle.propagation.proofs.along_edges.look_around.Goals as goal

pub returns-in-None-clause-takes : goal.returns-in-None-clause-takes
returns-in-None-clause-takes g c = takes_none _ _ _ _ _ c.requires.flagged

pub returns-in_err-match_vertex-in-Some-clause-takes : goal.returns-in_err-match_vertex-in-Some-clause-takes
returns-in_err-match_vertex-in-Some-clause-takes g c =
    takes_failed {A = Unit {0}} tt _ c.from_residual.result _ _ _ _ _ _ _ _ _ _ c.from_residual.ensures.1 (takes_none {A = Unit {0}} tt _ _ _ _ c.requires.flagged) c.in_err-match_vertex-in-Some.ensures.takes

pub returns-in_ok-match_vertex-in-Some-clause-takes : goal.returns-in_ok-match_vertex-in-Some-clause-takes
returns-in_ok-match_vertex-in-Some-clause-takes g c = takes_as _ _ _ _ _ _ _ _ _ c.in_ok-match_vertex-in-Some.ensures.takes

pub match_vertex-requires-clause-flagged : goal.match_vertex-requires-clause-flagged
match_vertex-requires-clause-flagged g c = c.requires.flagged
