-- The contents of files by their names, and what a call that reads leaves to read.
use Rattle.std.specs.Prelude.{◌≡◌, ◌≢◌, ℕ, ◌<◌, List, length, take, Option, Result, MatchResult}
use Rattle.std.specs.Io.KnownBytes.{prepend_known, IsAtEnd}

-- every file holds what it held
abbrev pub SameFiles : (List ℕ → Option (List ℕ)) → (List ℕ → Option (List ℕ)) → Type 0
SameFiles old new = (file : List ℕ) → new file ≡ old file

-- every file but this one holds what it held
abbrev pub SameOthers : List ℕ → (List ℕ → Option (List ℕ)) → (List ℕ → Option (List ℕ)) → Type 0
SameOthers name old new = (file : List ℕ) → file ≢ name → new file ≡ old file

-- A read gave the next bytes of what was left, and none to a buffer with room only at the end; a failed one took none.
abbrev pub TakesFront : {E : Type 0} → Option (List ℕ) → Option (List ℕ) → Result ℕ E → List ℕ
    → Type 0
TakesFront old new result buffer = MatchResult result (λ count. (old ≡ prepend_known
    (take count buffer) new) × (count ≡ 0 → 0 < length buffer → IsAtEnd new)) (λ _. new ≡ old)
