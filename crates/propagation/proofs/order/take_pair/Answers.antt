use Rattle.std.proofs.Common.{◌∙◌}
use Rattle.std.proofs.lemmas.Result.{on_ok_weaker}
use Rattle.propagation.proofs.Ordering.{out_greater, out_lesser, pair_rises, narrows_of}
use Rattle.propagation.proofs.Takes.{takes_more}
use Rattle.propagation.proofs.order.take_pair.Goals as goal

pub returns-clause-takes : goal.returns-clause-takes
returns-clause-takes g c = takes_more _ _ _ _ _ _ _ _ _ _ _ _ c.in_ok-take_range.ensures.takes c.take_range-2.ensures.takes

pub returns-clause-rising : goal.returns-clause-rising
returns-clause-rising g c =
    on_ok_weaker c.take_range-2.result (λ gone few.
    pair_rises c.args.q.now c.args.d.now c.take_range.new.d c.take_range-2.new.d c.args.pair.0 c.args.pair.1 c.least_left-least.result c.one_more-until.result c.past_last-past.result c.one_less-from.result
    c.from-values.result c.in_ok-take_range.ensures.takes.forces.narrows (narrows_of c.take_range-2.result _ _ _ _ _ _ _ c.take_range-2.ensures.takes) (c.from-values.ensures ∙ c.values.ensures)
    c.one_more-until.ensures.is c.one_less-from.ensures c.least_left-least.ensures.least c.past_last-past.ensures.last c.in_ok-take_range.ensures.gone gone few) c.take_range-2.ensures.gone

pub take_range-requires-clause-out : goal.take_range-requires-clause-out
take_range-requires-clause-out g c =
    out_greater c.args.q.now c.args.d.now c.args.k c.args.pair c.least_left-least.result c.one_more-until.result c.from-values.result c.requires.pair_is c.requires.first_in c.requires.second_in
    (c.from-values.ensures ∙ (c.values.ensures ∙ c.requires.flagged.is_of.values_is)) c.one_more-until.ensures.within c.one_more-until.ensures.below c.least_left-least.ensures.none

pub take_range-requires-2-clause-out : goal.take_range-requires-2-clause-out
take_range-requires-2-clause-out g c =
    out_lesser c.args.q.now c.take_range.new.d c.args.k c.args.pair c.past_last-past.result c.one_less-from.result c.from-values.result c.requires.pair_is c.requires.first_in c.requires.second_in
    (c.from-values.ensures ∙ (c.values.ensures ∙ c.requires.flagged.is_of.values_is)) c.one_less-from.ensures c.past_last-past.ensures.none
