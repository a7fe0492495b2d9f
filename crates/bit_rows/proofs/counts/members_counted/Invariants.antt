use Rattle.std.proofs.Common.{length}
use Rattle.bit_rows.specs.BitRows.{word_values}
use Rattle.bit_rows.proofs.Counting.{enough, CountedOf}
use Rattle.bit_rows.proofs.counts.members_counted.Given as goal

abbrev pub invariant-loop-rest : goal.invariant-loop-rest
invariant-loop-rest l = CountedOf (enough l.counts l.least) l.place l.word l.rest l.kept

abbrev pub decreases-loop-rest : goal.decreases-loop-rest
decreases-loop-rest l = length (word_values l.place l.rest)
