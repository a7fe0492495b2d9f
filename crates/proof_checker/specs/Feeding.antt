-- What a checker that is fed a log piece by piece knows of it.
use Rattle.std.specs.Prelude.{ℕ, Bool, List, ◌++◌, ◌==◌}
use Rattle.log_theory.specs.declared.step.Verdict.{Verdict}
use Rattle.log_theory.specs.declared.step.Verdict.TheVariants as verdict
use Rattle.log_theory.specs.Words.{pieces}
use Rattle.log_theory.specs.Verdicts.{at_end}
use Rattle.proof_checker.specs.Turns.{Checking, verdict_at}
use Rattle.proof_checker.specs.declared.checker.Standing.{Standing}
use Rattle.proof_checker.specs.declared.checker.Standing.TheVariants.{Open, Claimed, Refused}

-- Whether memory was refused; what the lines say that have ended, and where the log stands behind them; the number of the next line, and
-- how far it has come.
pub record Fed : Type 0 where
  pub is_dead : Bool
  pub standing : Standing
  pub lines : Checking
  pub number : ℕ
  pub tail : List ℕ

-- The verdict by what the lines say that have ended, of which the next is line k, by how that begins and by the text behind.
abbrev pub verdict_on : Standing → Checking → ℕ → List ℕ → List ℕ → Verdict
verdict_on Open c k tail rest = verdict_at c k (tail ++ rest)
verdict_on (Claimed v) c k tail rest = at_end k v (pieces (λ b. b == 10) rest)
verdict_on (Refused line cause) c k tail rest = verdict.Refused line cause

-- The verdict of all that was fed, with this text behind it.
abbrev pub verdict_with : Fed → List ℕ → Verdict
verdict_with f rest = verdict_on f.standing f.lines f.number f.tail rest
