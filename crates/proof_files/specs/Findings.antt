-- What was found of a problem, and the texts that tell of it: its encoding's, and that of a log over this in a profile.

use Rattle.std.specs.Prelude.{ℕ, List, length}
use Rattle.graph_theory.specs.Embedding.{Problem, Embeds}
use Rattle.encoding_theory.specs.Variables.{variables}
use Rattle.encoding_theory.specs.Encoding.{encoding}
use Rattle.log_theory.specs.declared.profile.Profile.{Profile}
use Rattle.log_theory.specs.declared.step.Step.{Step}
use Rattle.log_theory.specs.declared.step.Verdict.{Verdict}
use Rattle.log_theory.specs.declared.step.Verdict.TheVariants.{Satisfiable, Unsatisfiable, Undecided}
use Rattle.log_theory.specs.Acceptance.{Accepts}
use Rattle.pb_encoding.specs.Writing.{encoding_text}
use Rattle.merged_log.specs.Profiles.{in_profile}
use Rattle.merged_log.specs.Steps.{log_text, refutation}
use Rattle.merged_log.specs.Answers.{solution, undecided, embedding_ones}
use Rattle.proof_collection.specs.Proofs.{IsProof}
use Rattle.proof_files.specs.declared.finding.Finding.{Finding}
use Rattle.proof_files.specs.declared.finding.Finding.TheVariants.{Embedding, Refutation, Nothing}

-- What was found is so: the map embeds, or a log of the refutation may be written; of nothing nothing is claimed.
abbrev pub IsFound : Problem → Finding → Type 0
IsFound q (Embedding map) = Embeds q map.now
IsFound q (Refutation parts) = IsProof q parts.now
IsFound q Nothing = Unit {0}

-- The steps of the log: the head, and then the solution of the embedding, the merged lines, or that nothing is claimed.
abbrev pub steps_of : Problem → Finding → List Step
steps_of q (Embedding map) = solution (length (encoding q)) (embedding_ones q map.now)
steps_of q (Refutation parts) =
    refutation (length (encoding q)) parts.now.journals.items parts.now.rows.items
    parts.now.finisher
steps_of q Nothing = undecided (length (encoding q))

-- What a checker of logs answers.
abbrev pub verdict_on : Finding → Verdict
verdict_on (Embedding map) = Satisfiable
verdict_on (Refutation parts) = Unsatisfiable
verdict_on Nothing = Undecided

-- The texts of an encoding and of a log over it.
pub record Texts : Type 0 where
  pub encoding : List ℕ
  pub log : List ℕ

-- The texts that tell of what was found.
abbrev pub texts : Profile → Problem → Finding → Texts
texts profile q finding =
    record { encoding = encoding_text q; log = in_profile profile (log_text (steps_of q finding)) }

-- The log is accepted over the encoding, with the verdict that belongs to what was found.
abbrev pub IsAccepted : Profile → Problem → Finding → Type 0
IsAccepted profile q finding =
    Accepts (variables q) (encoding q) (in_profile profile (log_text (steps_of q finding)))
    (verdict_on finding)
