use Rattle.merged_log.proofs.Accepting.{WrittenTo}
use Rattle.merged_log.proofs.refutation.ask_all.Given as goal

abbrev pub invariant-loop-journal : goal.invariant-loop-journal
invariant-loop-journal l = WrittenTo l.journals l.journal-index
