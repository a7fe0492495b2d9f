use Rattle.std.proofs.Common.{◌≡◌, ◌++◌, length, map}
use Rattle.bit_rows.specs.BitRows.{word_values}
use Rattle.pb_encoding.proofs.RowTerms.{term}
use Rattle.pb_encoding.proofs.terms.push_word.Given as goal

abbrev pub invariant-loop-rest : goal.invariant-loop-rest
invariant-loop-rest l = l.out.items ++ map (term l.first) (word_values l.place l.rest) ≡ l.fn.out.items ++ map (term l.first) (word_values l.place l.word)

abbrev pub decreases-loop-rest : goal.decreases-loop-rest
decreases-loop-rest l = length (word_values l.place l.rest)
