use Rattle.std.proofs.Common.{◌∷◌, ◌++◌}
use Rattle.proof_checker.proofs.FedLines.{claim_behind, some_behind}
use Rattle.proof_checker.proofs.checker.Checker.end_line.Goals as goal

pub returns-in-Claimed : goal.returns-in-Claimed
returns-in-Claimed c rest = claim_behind c.args.self.now _ _ _ _ _ _ (c.args.end.now ++ 10 ∷ rest) c.in-Claimed.is c.self.view_is (some_behind c.args.end.now rest)
