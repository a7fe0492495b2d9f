-- A call that fails has appended nothing, or what there was room for.
use Rattle.std.proofs.Common.{Some, ap, ◌∙◌}
use Rattle.outer_io.specs.declared.memory_sink.MemorySink.{MemorySink}
use Rattle.outer_io.proofs.KnownTexts.{StopsIn-front, StopsIn-none}
use Rattle.outer_io.proofs.memory_sink.MemorySinkSink.put.Goals as goal
use Rattle.outer_io.proofs.memory_sink.MemorySinkSink.put.Goals.{then-count-via-then-count, then-count-via-else-count+then-not-append}

pub returns-then-count-clause-text : goal.returns-then-count-clause-text
returns-then-count-clause-text c = elim c.then-count.branch [
  | then-count-via-then-count w ↦ StopsIn-none _ _ _ _ (ap (λ (s : MemorySink). Some s.held.bytes) w.self-is)
  | then-count-via-else-count+then-not-append w ↦ StopsIn-front _ _ _ _ _ (ap (λ (s : MemorySink). s.held.bytes) w.self-is ∙ w.append.ensures.bytes)
]
