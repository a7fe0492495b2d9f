use Rattle.std.proofs.Common.{◌≡◌, ℕ, take, length, List}
use Rattle.std.specs.Io.KnownBytes.{append_known}
use Rattle.merged_log.specs.Profiles.{text_in}
use Rattle.merged_log.specs.Steps.{journals_in, rows_in, rows_steps, rows_done}
use Rattle.merged_log.proofs.rows.put_rows.Given as goal

-- What the rows so far bring was put and counted, and nothing else has changed.
abbrev pub invariant-loop-place : goal.invariant-loop-place
invariant-loop-place g l = record {
  text : g.S.Sink.contents l.sink ≡ append_known (g.S.Sink.contents l.fn.sink) (text_in l.profile (rows_steps (journals_in l.journals) 0 (take l.place (rows_in l.rows)) l.fn.done));
  counts : l.done ≡ rows_done (journals_in l.journals) 0 (take l.place (rows_in l.rows)) l.fn.done;
  len : length l.done ≡ length l.fn.done;
  same : g.S.Sink.spot l.sink ≡ g.S.Sink.spot l.fn.sink;
  others : (file : List ℕ) → g.S.Sink.rest l.sink file ≡ g.S.Sink.rest l.fn.sink file;
  faults : g.S.Sink.faults l.sink ≡ g.S.Sink.faults l.fn.sink;
}
