-- New places.
use Rattle.std.specs.Prelude.{◌≡◌, ◌≢◌, ℕ, zero, suc, ◌<◌, ◌≤◌, ◌==◌, cond, List, [], ◌∷◌, ◌++◌, length, get_or}
use Rattle.log_theory.specs.declared.step.Ref.{Ref}
use Rattle.trim_theory.specs.Marking.{rank, ref_to}
use Rattle.proof_trim.specs.declared.index.Index.{Index}
use Rattle.proof_trim.specs.Places.{place_in}

-- The mark of a place.
abbrev pub mark_at : List ℕ → ℕ → ℕ
mark_at marks i = get_or marks i 0

-- The rank of each place stands there.
pub record AreRanks (marks ranks : List ℕ) : Type 0 where
  pub long : length ranks ≡ length marks
  pub each : (i : ℕ) → i < length marks → get_or ranks i 0 ≡ rank (mark_at marks) i
  pub low : (i : ℕ) → i < length marks → get_or ranks i 0 ≤ i

-- What a reference becomes, by the place of what it names.
abbrev pub renamed : Index → List ℕ → Ref → Ref
renamed index marks q = ref_to (mark_at marks) q (place_in index q)

-- The places that lie below n.
abbrev pub AreBelow : ℕ → List ℕ → Type 0
AreBelow n [] = Unit {0}
AreBelow n (i ∷ is) = (i < n) × AreBelow n is

-- The places below n that bear a mark, rising.
abbrev pub places_with : (ℕ → ℕ) → ℕ → ℕ → List ℕ
places_with mark m zero = []
places_with mark m (suc n) = places_with mark m n ++ cond (mark n == m) (n ∷ []) []

-- Under each mark but 0 the places below n that bear it.
abbrev pub AreListed : List ℕ → ℕ → List (List ℕ) → Type 0
AreListed marks n lists = (m : ℕ) → m ≢ 0 → m < length lists
    → get_or lists m [] ≡ places_with (mark_at marks) m n
