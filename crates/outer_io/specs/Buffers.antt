-- A sink that appends to bytes in memory.
use Rattle.std.specs.Prelude.{ℕ, true, List, [], Option, Some, None}
use Rattle.outer_io.specs.Sinks.{Spot}

-- The bytes, and how often memory was refused.
pub record Buffered : Type 0 where
  pub bytes : List ℕ
  pub refused : ℕ

abbrev pub buffer_contents : Buffered → Option (List ℕ)
buffer_contents b = Some b.bytes

-- It stands over nothing, tells its contents and is steady.
abbrev pub buffer_spot : Buffered → Spot
buffer_spot b = record { over = 0; file = []; told = true; steady = true }

abbrev pub buffer_rest : Buffered → List ℕ → Option (List ℕ)
buffer_rest b file = None

abbrev pub buffer_faults : Buffered → ℕ
buffer_faults b = b.refused

abbrev pub buffer_blamed : Buffered → Type 0
buffer_blamed b = Unit {0}
