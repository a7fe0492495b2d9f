use Rattle.std.proofs.Common.{◌<◌, arith}
use Rattle.nogood_watch.specs.Watching.{forced_at}
use Rattle.recorder.proofs.Guesses.{guesses_may, guesses_more}
use Rattle.propagation.proofs.Forcing.{unused_on, shrinks_taken, none_taken, emptied_taken, forces_none}
use Rattle.propagation.proofs.Reasons.{forbidden_on}
use Rattle.propagation.proofs.Acting.{out_more}
use Rattle.propagation.proofs.Waiting.{shrinks_more}
use Rattle.propagation.proofs.nogoods.take_out.Goals as goal

pub take_by-requires-clause-r_in : goal.take_by-requires-clause-r_in
take_by-requires-clause-r_in g c =
    let unused = c.requires.unused c.loop-k.k c.loop-k-test.true in
    omega (arith, unused.vertex_in, c.loop-k.invariant.shrinks.narrows.vertices_same, c.requires.is_of.vertices_is)

pub take_by-requires-clause-u_in : goal.take_by-requires-clause-u_in
take_by-requires-clause-u_in g c =
    let unused = c.requires.unused c.loop-k.k c.loop-k-test.true in
    omega (arith, unused.value_in, c.loop-k.invariant.shrinks.narrows.values_same, c.requires.is_of.values_is)

pub take_by-requires-clause-flags : goal.take_by-requires-clause-flags
take_by-requires-clause-flags g c =
    let unused = c.requires.unused c.loop-k.k c.loop-k-test.true in
    omega (arith, unused.vertex_in, c.loop-k.invariant.shrinks.long, c.requires.long)

pub take_by-requires-clause-bounded : goal.take_by-requires-clause-bounded
take_by-requires-clause-bounded g c = c.loop-k.invariant.shrinks.bounded

pub returns-then-not-take_by-clause-forces : goal.returns-then-not-take_by-clause-forces
returns-then-not-take_by-clause-forces g c =
    let unused = unused_on _ c.args.d.now c.loop-k.d (forced_at c.args.pairs.now c.loop-k.k) c.loop-k.invariant.shrinks.narrows (c.requires.unused c.loop-k.k c.loop-k-test.true) in
    forces_none _ _ _ _ _ _ c.loop-k.invariant.shrinks
    (none_taken _ c.loop-k.d _ c.loop-k.waiting _ (forced_at c.args.pairs.now c.loop-k.k) unused c.if-not-take_by.ensures.keeps c.if-not-take_by.ensures.taken)

pub loop-k-preserved : goal.loop-k-preserved
loop-k-preserved g c =
    let unused = unused_on _ c.args.d.now c.loop-k.d (forced_at c.args.pairs.now c.loop-k.k) c.loop-k.invariant.shrinks.narrows (c.requires.unused c.loop-k.k c.loop-k-test.true) in
    let flag : (forced_at c.args.pairs.now c.loop-k.k).0 < _ = omega (arith, unused.vertex_in, c.loop-k.invariant.shrinks.long, c.requires.long) in
    let taken = shrinks_taken _ c.loop-k.d _ c.loop-k.waiting _ (forced_at c.args.pairs.now c.loop-k.k) unused c.if-not-take_by.ensures.keeps flag c.if-not-take_by.ensures.bounded c.if-not-take_by.ensures.taken in
    record {
      shrinks = shrinks_more _ _ _ _ _ _ _ c.loop-k.invariant.shrinks taken;
      out = out_more c.loop-k.d _ c.args.pairs.now c.loop-k.k taken.narrows.less c.if-not-take_by.ensures.keeps c.loop-k.invariant.out;
      told = λ s forbidden t. c.if-not-take_by.ensures.told c.args.rows.now.problem s unused.vertex_in
          (forbidden_on s c.args.d.now c.loop-k.d _ _ _ c.loop-k.invariant.shrinks.narrows.less (forbidden c.loop-k.k c.loop-k-test.true)) (c.loop-k.invariant.told s forbidden t);
      guesses = guesses_more _ _ _ c.loop-k.invariant.guesses (guesses_may _ _ _ (λ is. is) c.if-not-take_by.ensures.took);
    }

pub returns-then-not-take_by-clause-none : goal.returns-then-not-take_by-clause-none
returns-then-not-take_by-clause-none g c =
    let unused = c.requires.unused c.loop-k.k c.loop-k-test.true in
    (unused.vertex_in, emptied_taken c.loop-k.d _ c.loop-k.waiting _ _ _ c.if-not-take_by.ensures.taken)

pub returns-then-not-take_by-clause-told : goal.returns-then-not-take_by-clause-told
returns-then-not-take_by-clause-told g c s forbidden t =
    let unused = c.requires.unused c.loop-k.k c.loop-k-test.true in
    c.if-not-take_by.ensures.told c.args.rows.now.problem s unused.vertex_in
    (forbidden_on s c.args.d.now c.loop-k.d _ _ _ c.loop-k.invariant.shrinks.narrows.less (forbidden c.loop-k.k c.loop-k-test.true)) (c.loop-k.invariant.told s forbidden t)

pub returns-clause-out : goal.returns-clause-out
returns-clause-out g c j j_in = c.loop-k.invariant.out j (omega (arith, j_in, c.loop-k-test.false))

pub returns-then-not-take_by-clause-guesses : goal.returns-then-not-take_by-clause-guesses
returns-then-not-take_by-clause-guesses g c = guesses_more _ _ _ c.loop-k.invariant.guesses (guesses_may _ _ _ (λ is. is) c.if-not-take_by.ensures.took)
