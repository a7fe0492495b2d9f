-- What a log is written of, and the log that is.

use Rattle.std.specs.Prelude.{List, length}
use Rattle.graph_theory.specs.Embedding.{Problem}
use Rattle.encoding_theory.specs.Variables.{variables}
use Rattle.encoding_theory.specs.Encoding.{encoding}
use Rattle.log_theory.specs.declared.profile.Profile.{Profile}
use Rattle.log_theory.specs.declared.step.Step.{Step}
use Rattle.log_theory.specs.declared.step.Verdict.{Verdict}
use Rattle.log_theory.specs.declared.step.Verdict.TheVariants.{Satisfiable, Unsatisfiable, Undecided}
use Rattle.log_theory.specs.LogText.{AreOnes}
use Rattle.pb_encoding.specs.Writing.{encoding_text}
use Rattle.merged_log.specs.Profiles.{in_profile}
use Rattle.merged_log.specs.Steps.{log_text, refutation}
use Rattle.merged_log.specs.Answers.{solution, undecided, Solves}
use Rattle.proof_collection.specs.Proofs.{IsProof}
use Rattle.proof_files.specs.Findings.{Texts}
use Rattle.proof_files.specs.declared.log.Parts.{Parts}
use Rattle.proof_files.specs.declared.log.Parts.TheVariants.{Solution, Refutation, Nothing}

-- A log may be written of these, and is accepted.
abbrev pub MayBeWritten : Problem → Parts → Type 0
MayBeWritten q (Solution ones) = AreOnes ones × Solves (variables q) (encoding q) ones
MayBeWritten q (Refutation parts) = IsProof q parts.now
MayBeWritten q Nothing = Unit {0}

-- The steps of the log.
abbrev pub part_steps : Problem → Parts → List Step
part_steps q (Solution ones) = solution (length (encoding q)) ones
part_steps q (Refutation parts) =
    refutation (length (encoding q)) parts.now.journals.items parts.now.rows.items
    parts.now.finisher
part_steps q Nothing = undecided (length (encoding q))

-- What a checker of logs answers.
abbrev pub part_verdict : Parts → Verdict
part_verdict (Solution ones) = Satisfiable
part_verdict (Refutation parts) = Unsatisfiable
part_verdict Nothing = Undecided

-- The texts of the encoding and of the log.
abbrev pub part_texts : Profile → Problem → Parts → Texts
part_texts profile q parts = record {
  encoding = encoding_text q;
  log = in_profile profile (log_text (part_steps q parts));
}
