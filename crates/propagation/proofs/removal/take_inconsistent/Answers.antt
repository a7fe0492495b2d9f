use Rattle.std.proofs.Common.{arith}
use Rattle.propagation.proofs.Taking.{left_right, left_complete}
use Rattle.propagation.proofs.Visits.{sweeps_narrowed}
use Rattle.propagation.proofs.removal.take_inconsistent.Goals as goal

pub returns-in-Some : goal.returns-in-Some
returns-in-Some g c =
    sweeps_narrowed _ _ _ _ _ _ _ _ _ _ c.requires.flagged.is_of.values_is c.requires.meets.p_in c.requires.meets.r_in c.requires.meets.apart (omega (arith, c.requires.flagged.long, c.requires.meets.r_in)) c.requires.meets.single
    (rw c.value.ensures at c.take_near.ensures.keeps) c.take_near.ensures.notes c.take_near.ensures.bounded (left_right _ _ _ _ _ c.in-Some.ensures.asked) (left_complete _ _ _ _ _ c.in-Some.ensures.asked) c.requires.meets.undecided

pub returns-in-None : goal.returns-in-None
returns-in-None g c =
    sweeps_narrowed _ _ _ _ _ _ _ _ _ _ c.requires.flagged.is_of.values_is c.requires.meets.p_in c.requires.meets.r_in c.requires.meets.apart (omega (arith, c.requires.flagged.long, c.requires.meets.r_in)) c.requires.meets.single
    c.narrow.ensures.keeps c.narrow.ensures.notes c.narrow.ensures.bounded (λ u u_in h. c.row.ensures.right u h) c.row.ensures.complete c.requires.meets.undecided
