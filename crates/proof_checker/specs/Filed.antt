-- What an answer of a check says of the file that was read.
use Rattle.std.specs.Prelude.{◌≡◌, ℕ, ◌<◌, ◌≤◌, List, length, Option, Some}
use Rattle.log_theory.specs.declared.step.Verdict.{Verdict}
use Rattle.log_theory.specs.declared.step.Verdict.TheVariants as verdict
use Rattle.proof_checker.specs.declared.log_file.Checked.{Checked}
use Rattle.proof_checker.specs.declared.log_file.Checked.TheVariants.{Verdict as Judged, Failed, TooLong}

-- The content, of at most so many bytes, was read to its end, and its verdict is this one.
pub record IsJudged (verdict_of_text : List ℕ
    → Verdict) (most : ℕ) (content : Option (List ℕ)) (v : Verdict) : Type 0 where
  pub bytes : List ℕ
  pub there : content ≡ Some bytes
  pub short : length bytes ≤ most
  pub is : verdict_of_text bytes ≡ v

-- The content is longer than so many bytes.
pub record IsTooLong (most : ℕ) (content : Option (List ℕ)) : Type 0 where
  pub bytes : List ℕ
  pub there : content ≡ Some bytes
  pub long : most < length bytes

-- The verdict of the whole content, or that it is too long; nothing where a read failed or memory was refused.
abbrev pub FileSays : Checked → (List ℕ → Verdict) → ℕ → Option (List ℕ) → Type 0
FileSays (Judged verdict.NoMemory) verdict_of_text most content = Unit {0}
FileSays (Judged v) verdict_of_text most content = IsJudged verdict_of_text most content v
FileSays TooLong verdict_of_text most content = IsTooLong most content
FileSays Failed verdict_of_text most content = Unit {0}
