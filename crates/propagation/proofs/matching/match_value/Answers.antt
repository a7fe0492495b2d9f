use Rattle.propagation.proofs.Takes.{flagged_on, takes_more}
use Rattle.propagation.proofs.matching.match_value.Goals as goal

pub match_spot-requires-2-clause-flagged : goal.match_spot-requires-2-clause-flagged
match_spot-requires-2-clause-flagged g c = flagged_on _ _ _ _ _ _ _ _ c.requires.flagged c.in_ok-match_spot.ensures.takes

pub returns-clause-takes : goal.returns-clause-takes
returns-clause-takes g c = takes_more _ _ _ _ _ _ _ _ _ _ _ _ c.in_ok-match_spot.ensures.takes c.match_spot-2.ensures.takes
