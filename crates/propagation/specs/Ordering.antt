-- Values that are out of the order that is asked of images.

use Rattle.std.specs.Prelude.{ℕ, ◌<◌, ◌≤◌}
use Rattle.graph_theory.specs.Embedding.{Problem}
use Rattle.domain_bits.specs.Removals.{State}
use Rattle.recorder.specs.declared.change.Side.{Side}
use Rattle.recorder.specs.Telling.{IsOutOfOrder}

-- Each value from one number up to another is out of order at this end of pair k.
abbrev pub AreOutOfOrder : Problem → State → ℕ → Side → ℕ → ℕ → ℕ → Type 0
AreOutOfOrder q d k side r from until = (u : ℕ) → from ≤ u → u < until
    → IsOutOfOrder q d k side r u
