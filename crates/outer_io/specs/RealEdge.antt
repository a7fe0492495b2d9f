-- Files and streams of the system: they tell nothing of contents, but count their faults.
use Rattle.std.specs.Prelude.{ℕ, true, false, List, [], Option, None}
use Rattle.outer_io.specs.Sinks.{Spot}

-- nothing is told of a file
abbrev pub untold_file : List ℕ → Option (List ℕ)
untold_file name = None

-- a stream stands over nothing, and tells nothing
abbrev pub stream_spot : Spot
stream_spot = record { over = 0; file = []; told = false; steady = true }
