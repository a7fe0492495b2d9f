use Rattle.recorder.proofs.Guesses.{guesses_more}
use Rattle.propagation.proofs.Waiting.{ready_but_on}
use Rattle.propagation.proofs.Past.{member_in}
use Rattle.propagation.proofs.Walking.{walked_start, walked_more, walked_none, walked_all}
use Rattle.propagation.proofs.propagation.settle.Goals as goal

pub settle_at-requires-clause-ready : goal.settle_at-requires-clause-ready
settle_at-requires-clause-ready g c =
    rw (c.at-at.ensures.problem, c.at-at.ensures.vertex) (ready_but_on _ _ _ _ _ _ c.requires.ready c.loop-k.invariant.walked.shrinks)

pub settle_at-requires-clause-r_in : goal.settle_at-requires-clause-r_in
settle_at-requires-clause-r_in g c = rw c.at-at.ensures.problem (member_in _ _ _ _ c.requires.left (c.members-members.ensures.member c.loop-k.k c.loop-k-test.true))

pub returns-then-not-settle_at-clause-settles : goal.returns-then-not-settle_at-clause-settles
returns-then-not-settle_at-clause-settles g c =
    walked_none _ _ _ _ _ _ _ _ _ _ c.members-members.result.now c.loop-k.k c.loop-k.invariant.walked (rw (c.at-at.ensures.problem, c.at-at.ensures.vertex, c.at-at.ensures.value) at c.if-not-settle_at.ensures.sweeps)
    (member_in _ _ _ _ c.requires.left (c.members-members.ensures.member c.loop-k.k c.loop-k-test.true))

pub returns-then-not-settle_at-clause-none : goal.returns-then-not-settle_at-clause-none
returns-then-not-settle_at-clause-none g c =
    (member_in _ _ _ _ c.requires.left (c.members-members.ensures.member c.loop-k.k c.loop-k-test.true), (rw (c.at-at.ensures.problem, c.at-at.ensures.vertex, c.at-at.ensures.value) at c.if-not-settle_at.ensures.sweeps).swept)

pub returns-then-not-settle_at-clause-told : goal.returns-then-not-settle_at-clause-told
returns-then-not-settle_at-clause-told g c s t = (rw c.at-at.ensures.problem at c.if-not-settle_at.ensures.told) s (c.loop-k.invariant.told s t)

pub returns-clause-settles : goal.returns-clause-settles
returns-clause-settles g c =
    walked_all _ c.args.d.now _ _ _ _ _ c.members-members.result.now c.args.undecided.now c.loop-k.k c.requires.p_in c.requires.single c.requires.left c.members-members.ensures.all
    c.loop-k-test.false c.loop-k.invariant.walked

pub loop-k-init : goal.loop-k-init
loop-k-init g c = record {
  walked = walked_start _ c.args.d.now c.args.waiting.now c.args.p c.args.t c.members-members.result.now c.requires.bounded;
  told = λ s t. t;
  guesses = λ p t from h. h;
}

pub loop-k-preserved : goal.loop-k-preserved
loop-k-preserved g c = record {
  walked = walked_more _ _ _ _ _ _ _ _ _ _ _ c.loop-k.invariant.walked (rw (c.at-at.ensures.problem, c.at-at.ensures.vertex, c.at-at.ensures.value) at c.if-not-settle_at.ensures.sweeps);
  told = λ s t. (rw c.at-at.ensures.problem at c.if-not-settle_at.ensures.told) s (c.loop-k.invariant.told s t);
  guesses = guesses_more _ _ _ c.loop-k.invariant.guesses c.if-not-settle_at.ensures.guesses;
}

pub returns-then-not-settle_at-clause-guesses : goal.returns-then-not-settle_at-clause-guesses
returns-then-not-settle_at-clause-guesses g c = guesses_more _ _ _ c.loop-k.invariant.guesses c.if-not-settle_at.ensures.guesses
