use Rattle.std.proofs.Common.{◌∷◌, [], arith}
use Rattle.bit_rows.proofs.Counting.{has_within}
use Rattle.search_tests.proofs.row_tests.what_is_counted_is_kept.Goals as goal

pub keep_counted-requires-clause-within : goal.keep_counted-requires-clause-within
keep_counted-requires-clause-within g c = λ v h. omega (arith, has_within (27 ∷ []) v h)

pub keep_counted-requires-2-clause-within : goal.keep_counted-requires-2-clause-within
keep_counted-requires-2-clause-within g c = λ v h. omega (arith, has_within c.keep_counted.new.row v h)
