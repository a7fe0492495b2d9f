-- What a run leaves of a stream that it writes to.

use Rattle.std.specs.Prelude.{◌≡◌, ℕ, ◌≤◌, ◌⊎◌, Bool, List, Option}
use Rattle.std.specs.Io.KnownBytes.{append_known}
use Rattle.outer_io.specs.Faults.{Rose}
use Rattle.outer_io.specs.KnownText.{StopsIn}
use Rattle.outer_io.specs.Sinks.{Spot}

-- What a stream held before and holds after, where it tells, whether it is steady, and how many of its calls had failed before and have after.
pub record Stream : Type 0 where
  pub steady : Bool
  pub before : Option (List ℕ)
  pub after : Option (List ℕ)
  pub faults_before : ℕ
  pub faults_after : ℕ

-- A sink from its first state to its last one.
abbrev pub stream : {S : Type 0} → (S → Spot) → (S → Option (List ℕ)) → (S → ℕ) → S → S → Stream
stream spot contents faults old new = record {
  steady = (spot old).steady;
  before = contents old;
  after = contents new;
  faults_before = faults old;
  faults_after = faults new;
}

-- It got nothing.
abbrev pub IsAsBefore : Stream → Type 0
IsAsBefore s = s.after ≡ s.before

-- It got this text, and nothing else.
abbrev pub Got : Stream → List ℕ → Type 0
Got s text = s.after ≡ append_known s.before text

-- It got a front part of this text.
abbrev pub GotFront : Stream → List ℕ → Type 0
GotFront s text = StopsIn s.steady s.before s.after text

-- One of its calls has failed.
abbrev pub Failed : Stream → Type 0
Failed s = Rose s.faults_before s.faults_after

-- It was given this text, and took it whole, or failed within it.
abbrev pub Tells : Stream → List ℕ → Type 0
Tells s text = Got s text ⊎ (Failed s × GotFront s text)

-- It is the same sink still, what stands beside it is as it was, and its count of faults has not fallen.
pub record IsSameSink {S : Type 0} (spot : S → Spot) (rest : S → List ℕ → Option (List ℕ))
    (faults : S → ℕ) (old new : S) : Type 0 where
  pub same : spot new ≡ spot old
  pub others : (file : List ℕ) → rest new file ≡ rest old file
  pub later : faults old ≤ faults new
