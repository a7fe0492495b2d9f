use Rattle.std.proofs.Common.{arith, sym, ◌∙◌}
use Rattle.nogood_watch.specs.Nogoods.{literal}
use Rattle.nogood_watch.specs.Covering.{has_literal}
use Rattle.nogood_watch.proofs.Covering.{lies_none, lies_all, each_more}
use Rattle.nogood_watch.proofs.thinning.are_among.Goals as goal

pub returns-then-not-is_among : goal.returns-then-not-is_among
returns-then-not-is_among c = sym (lies_none c.args.part.now c.args.literals.now c.loop-k.k c.loop-k-test.true (sym c.is_among.ensures ∙ c.if-not-is_among.true))

pub loop-k-preserved : goal.loop-k-preserved
loop-k-preserved c = each_more (λ j. has_literal c.args.literals.now (literal c.args.part.now j)) c.loop-k.k c.loop-k.invariant (sym c.is_among.ensures ∙ c.if-not-is_among.false)

pub returns : goal.returns
returns c = sym (lies_all c.args.part.now c.args.literals.now (λ j h. c.loop-k.invariant j (omega (arith, h, c.loop-k-test.false))))
