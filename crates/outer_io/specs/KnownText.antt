-- The bytes that an object holds, where it tells them, and what a call that puts a text leaves of them.
use Rattle.std.specs.Prelude.{◌≡◌, ℕ, ◌≤◌, Bool, IsTrue, List, length, take, Option, Some, None, Result, MatchResult, option_map}
use Rattle.std.specs.Io.KnownBytes.{append_known}

-- how many bytes are told
abbrev pub known_len : Option (List ℕ) → ℕ
known_len None = 0
known_len (Some bytes) = length bytes

-- the first so many of the bytes that are told
abbrev pub known_front : ℕ → Option (List ℕ) → Option (List ℕ)
known_front count known = option_map (λ bytes. take count bytes) known

-- What is left where putting a text stopped: a front of the old bytes followed by the text, which is no shorter than the
-- old bytes where the object is steady.
pub record StopsIn (steady : Bool) (old new : Option (List ℕ)) (text : List ℕ) : Type 0 where
  pub front : new ≡ known_front (known_len new) (append_known old text)
  pub kept : IsTrue steady → known_len old ≤ known_len new

-- The text was put: all of it at `Ok`, a front part of it at `Err`.
abbrev pub Wrote : {T E : Type 0} → Bool → Option (List ℕ) → Option (List ℕ) → Result T E
    → List ℕ → Type 0
Wrote steady old new result text = MatchResult result (λ _. new ≡ append_known old text)
    (λ _. StopsIn steady old new text)
