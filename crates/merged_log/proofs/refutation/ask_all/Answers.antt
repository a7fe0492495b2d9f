use Rattle.std.proofs.Common.{refl, arith}
use Rattle.std.proofs.lemmas.Option.{slice_get_read, slice_get_within}
use Rattle.merged_log.proofs.Accepting.{written_more}
use Rattle.merged_log.proofs.refutation.ask_all.Goals as goal

pub loop-journal-preserved : goal.loop-journal-preserved
loop-journal-preserved c =
    let js = c.args.journals.now in
    let i = c.loop-journal.journal-index in
    let j = c.journal-item.result in
    written_more js i j (slice_get_read js _ i j refl c.loop-journal-test.true c.journal-item.is)
    (record { names = c.text-text.ensures.names; ranges = c.text-text.ensures.ranges; few = c.ends-ends.ensures.few }) c.loop-journal.invariant

pub returns : goal.returns
returns c w j at = c.loop-journal.invariant w j at (omega (arith, slice_get_within c.args.journals.now w j at, c.loop-journal-test.false))
