use Rattle.std.proofs.Common.{length, ap, arith}
use Rattle.std.proofs.lemmas.Bool.{le-ltb}
use Rattle.proof_theory.specs.Slack.{setting}
use Rattle.pb_propagation.proofs.Propagation.{reaches_wider}
use Rattle.proof_checker.proofs.Passing.{moved_none}
use Rattle.proof_trim.proofs.Hinting.{after_extends}
use Rattle.proof_trim.proofs.hints.follow_once.Goals as goal

pub follow-requires : goal.follow-requires
follow-requires c =
    let t = c.if-reach-values.false in
    reaches_wider c.reach.result (length c.args.set.now) c.args.next.now.terms (let v = ap length c.values.ensures in omega (arith, t, v)) c.reach.ensures.reaches

pub returns-else-before-count : goal.returns-else-before-count
returns-else-before-count c =
    moved_none c.args.set.now c.follow.new.set c.count-before.result c.count.result c.follow.ensures.long
    (after_extends (setting c.args.set.now) (setting c.follow.new.set) c.args.next.now c.if-follow.ensures.follows.1) c.count-before.ensures c.count.ensures (le-ltb c.count-before.result c.count.result c.if-before-count.false)
