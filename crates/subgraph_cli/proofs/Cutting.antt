-- A text that was put to an empty file, and is cut short.
use Rattle.std.proofs.Common.{◌≡◌, ℕ, Bool, List, [], Option, Some, Result, Ok, Err, inr, subst}
use Rattle.std.specs.Prelude.{OnErr, IsTrue}
use Rattle.std.specs.Io.KnownBytes.{append_known}
use Rattle.outer_io.specs.KnownText.{known_len, known_front, StopsIn, Wrote}
use Rattle.proof_files.specs.OneFile.{IsCutShort}

-- where putting a text to an empty file stopped, the file holds a front part of it
cut_short : (steady : Bool) (old middle new : Option (List ℕ)) (text : List ℕ) → middle ≡ Some [] → StopsIn steady middle new text → IsCutShort old new text
cut_short steady old middle new text empty stops =
    inr (known_len new, subst (λ (m : Option (List ℕ)). new ≡ known_front (known_len new) (append_known m text)) empty stops.front)

-- the same by the answer, where the file tells what it holds
pub cut_short_at : {T E : Type 0} (r : Result T E) (tells steady : Bool) (old middle new : Option (List ℕ)) (text : List ℕ) → (IsTrue tells → middle ≡ Some []) → Wrote steady middle new r text → OnErr r (IsTrue tells → IsCutShort old new text)
cut_short_at (Ok done) tells steady old middle new text empty wrote = tt
cut_short_at (Err e) tells steady old middle new text empty wrote = λ told. cut_short steady old middle new text (empty told) wrote
