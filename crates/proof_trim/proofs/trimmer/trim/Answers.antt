use Rattle.proof_trim.proofs.Accepted.{claim_is}
use Rattle.proof_trim.proofs.trimmer.trim.Goals as goal

pub left_of-requires : goal.left_of-requires
left_of-requires c =
    let claim = claim_is c.check.result c.in_default.not-Refused c.in_default.not-NoMemory in
    (c.check.result, claim, c.check.ensures.accepted claim)
