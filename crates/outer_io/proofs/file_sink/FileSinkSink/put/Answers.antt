-- What one `add` changes is what the sink may change.
use Rattle.std.proofs.Common.{rules}
use Rattle.outer_io.proofs.OtherFiles.{other_content-same}
use Rattle.outer_io.proofs.file_sink.FileSinkSink.put.Goals as goal

pub returns-clause-cause : goal.returns-clause-cause
returns-clause-cause g c = record {
  same = search rules;
  others = other_content-same _ _ _ (c.add.ensures.others _ c.args.self.now.is_begun);
  later = c.add.ensures.cause.later;
  quiet = c.add.ensures.cause.quiet;
  failed = c.add.ensures.cause.failed;
  blame = let at = c.add.ensures.fault_at _ c.args.self.now.is_begun in search rules;
}
