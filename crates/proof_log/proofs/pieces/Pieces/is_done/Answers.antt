use Rattle.proof_log.proofs.Cutting.{some_left}
use Rattle.proof_log.proofs.pieces.Pieces.is_done.Goals as goal

pub returns-in-Some : goal.returns-in-Some
returns-in-Some c = let e = some_left c.self.inside.separator c.self.inside.rest c.in-Some.field-0 c.in-Some.is in cc (e, c.self.view_is)
