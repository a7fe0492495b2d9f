use Rattle.std.proofs.Common.{◌≡◌, ◌++◌, ◌∷◌, [], List, refl, ap, ◌∙◌}
use Rattle.journals.specs.Keeping.{Keeping}
use Rattle.proof_collection.proofs.Gathering.{root_parts}
use Rattle.proof_collection.proofs.lines.KeepsLinesProofMakerOwnerLog.of_root.Goals as goal

pub proof_of-requires : goal.proof_of-requires
proof_of-requires c =
    let j = c.args.log.kept.journal in
    let journals : c.push_reserved.new.self.items ≡ j ∷ [] =
    c.push_reserved.ensures.items ∙ ap (λ (js : List Keeping). js ++ c.into_journal-journal.result ∷ []) c.in_ok-journals.ensures.items ∙ ap (λ (k : Keeping). k ∷ []) c.into_journal-journal.ensures in
    root_parts c.args.self.now.problem.now c.args.log.kept.lines.now _ j journals c.new.ensures.items refl c.requires.owner c.requires.refutes
