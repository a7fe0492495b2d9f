-- Faults are counted: the count never falls, a call that fails raises it and says of which file, and another leaves both.
use Rattle.std.specs.Prelude.{◌≡◌, ℕ, ◌+◌, ◌-◌, ◌^◌, ◌≤◌, min, List, Option, Some, Result, MatchResult, OnOk, OnErr}
use Rattle.outer_io.specs.declared.fault.Purpose.{Purpose}

-- the count has risen, or stands at the last value of 64 bits
abbrev pub Rose : ℕ → ℕ → Type 0
Rose before now = min (before + 1) (2 ^ 64 - 1) ≤ now

-- the count stays where the call succeeds, and rises where it fails
pub record HasCause {T E : Type 0} (before now : ℕ) (result : Result T E) : Type 0 where
  pub later : before ≤ now
  pub quiet : OnOk result (now ≡ before)
  pub failed : OnErr result (Rose before now)

-- a file's name, and whether it was read or written
abbrev pub Use : Type 0
Use = List ℕ × Purpose

-- the last fault is that of this call where it fails, and else the one that it was before
abbrev pub TellsFault : {T E : Type 0} → Use → Option Use → Option Use → Result T E → Type 0
TellsFault now_used before now result = MatchResult result (λ _. now ≡ before)
    (λ _. now ≡ Some now_used)
