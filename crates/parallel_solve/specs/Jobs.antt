-- What jobs leave.

use Rattle.std.specs.Prelude.{◌≡◌, ℕ, List, Some, slice_get}

-- What stands at each place was left by the job at that place.
abbrev pub AreRun : {J D : Type 0} → (J → D → Type 0) → List J → List D → Type 0
AreRun {J} {D} ran jobs done = (i : ℕ) (j : J) (d : D) → slice_get jobs i ≡ Some j
    → slice_get done i ≡ Some d → ran j d
