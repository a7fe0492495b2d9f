-- What is kept in memory that was taken beforehand: bytes up to a limit, the last fault, and which calls are to fail.
use Rattle.std.specs.Prelude.{ℕ, ◌+◌, ◌-◌, ◌^◌, min, List, Option, Contains}
use Rattle.outer_io.specs.Faults.{Use}

-- bytes, and how many there may be
pub record Bounded : Type 0 where
  pub bytes : List ℕ
  pub limit : ℕ

-- how many calls have failed, and what the last of them was about
pub record FaultTold : Type 0 where
  pub count : ℕ
  pub last : Option Use

-- how many calls were made, and the numbers of those that are to fail
pub record Calls : Type 0 where
  pub made : ℕ
  pub failing : List ℕ

-- one more, up to the last value of 64 bits
abbrev pub one_more : ℕ → ℕ
one_more count = min (count + 1) (2 ^ 64 - 1)

-- after one more call
abbrev pub counted : Calls → Calls
counted calls = record calls { made = one_more calls.made }

-- the next call is one that is to fail
abbrev pub IsToFail : Calls → Type 0
IsToFail calls = Contains calls.failing (one_more calls.made)
