-- A sink in memory: what it holds, how much it may hold, and which of its calls are to fail.
use Rattle.std.specs.Prelude.{ℕ, true, List, [], Option, Some, None}
use Rattle.outer_io.specs.declared.memory_sink.MemorySink.{MemorySink}
use Rattle.outer_io.specs.Bounded.{Calls}
use Rattle.outer_io.specs.Sinks.{Spot}

abbrev pub sink_bytes : MemorySink → List ℕ
sink_bytes sink = sink.held.bytes

abbrev pub sink_room : MemorySink → ℕ
sink_room sink = sink.held.limit

abbrev pub sink_calls : MemorySink → Calls
sink_calls sink = sink.calls

abbrev pub sink_faults : MemorySink → ℕ
sink_faults sink = sink.faults

-- it tells all
abbrev pub sink_contents : MemorySink → Option (List ℕ)
sink_contents sink = Some sink.held.bytes

-- it stands over nothing, tells its contents and is steady
abbrev pub sink_spot : MemorySink → Spot
sink_spot sink = record { over = 0; file = []; told = true; steady = true }

-- nothing stands beside it
abbrev pub sink_rest : MemorySink → List ℕ → Option (List ℕ)
sink_rest sink file = None

-- its count is of its own calls alone
abbrev pub sink_blamed : MemorySink → Type 0
sink_blamed sink = Unit {0}
