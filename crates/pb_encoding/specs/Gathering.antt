-- A text that is gathered in a buffer and put in pieces.

use Rattle.std.specs.Prelude.{◌≡◌, Bool, List, ◌++◌, Option, Result, Ok, Err, ℕ}
use Rattle.std.specs.Io.KnownBytes.{append_known}
use Rattle.outer_io.specs.KnownText.{StopsIn}

-- What was put since the start, followed by what the buffer holds, is this text.
pub record IsGathered (old new : Option (List ℕ)) (buffer text : List ℕ) : Type 0 where
  pub put : List ℕ
  pub whole : put ++ buffer ≡ text
  pub held : new ≡ append_known old put

-- A front part of the buffer was put, and the rest is left in it; or putting the buffer stopped.
abbrev pub PutsFront : {T E : Type 0} → Result T E → Bool → Option (List ℕ) → Option (List ℕ)
    → List ℕ → List ℕ → Type 0
PutsFront (Ok done) steady old new before after = IsGathered old new after before
PutsFront (Err fault) steady old new before after = StopsIn steady old new before
