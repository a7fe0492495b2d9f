-- What an answer of the trimmer says.
use Rattle.std.specs.Prelude.{ℕ, List}
use Rattle.log_theory.specs.declared.step.Verdict.{Verdict}
use Rattle.log_theory.specs.Verdicts.{IsClaim}
use Rattle.log_theory.specs.Acceptance.{Accepts, Refuses}
use Rattle.proof_theory.specs.Forms.{Form}
use Rattle.proof_trim.specs.declared.trimmer.Trimmed.{Trimmed}
use Rattle.proof_trim.specs.declared.trimmer.Trimmed.TheVariants.{Kept, Refused, NoMemory}
use Rattle.proof_trim.specs.Trimmed.{IsTrimmed}

-- What trimming says: the kept text is the trimmed log of one that is accepted, and is accepted with the same claim; or why the log is
-- refused.
abbrev pub TrimSays : Trimmed → ℕ → List Form → List ℕ → Type 0
TrimSays (Kept k) n model log = IsTrimmed model log k.text.bytes k.made k.kept
    × ((claim : Verdict) × IsClaim claim × Accepts n model log claim
    × Accepts n model k.text.bytes claim)
TrimSays (Refused line cause) n model log = Refuses n model log line cause
TrimSays NoMemory n model log = Unit {0}
