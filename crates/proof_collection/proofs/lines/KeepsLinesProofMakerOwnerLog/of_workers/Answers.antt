use Rattle.std.proofs.Common.{refl}
use Rattle.proof_collection.proofs.Gathering.{worker_parts}
use Rattle.proof_collection.proofs.lines.KeepsLinesProofMakerOwnerLog.of_workers.Goals as goal

pub proof_of-requires : goal.proof_of-requires
proof_of-requires c =
    worker_parts (λ l. l.kept.journal) (λ l. l.kept.lines.now) c.args.self.now.problem.now c.args.rows.now c.args.logs.items c.args.finisher _ c.in_ok-journals.ensures c.in_ok-rows.ensures.items refl c.requires.few c.requires.fit
    c.requires.owners c.requires.authors c.requires.steps c.requires.some c.requires.there c.requires.refutes
