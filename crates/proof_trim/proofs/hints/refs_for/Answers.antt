use Rattle.std.proofs.Common.{arith}
use Rattle.pb_propagation.proofs.Propagation.{literals_wider}
use Rattle.proof_trim.proofs.hints.refs_for.Goals as goal

pub negate_all-requires-clause-within : goal.negate_all-requires-clause-within
negate_all-requires-clause-within c =
    let h = c.in_ok-clear.ensures.1 in
    let m = c.max.ensures in
    literals_wider c.above.result _ c.args.literals.now (omega arith) c.above.ensures.reach
