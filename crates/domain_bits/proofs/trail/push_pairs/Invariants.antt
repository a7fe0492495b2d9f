use Rattle.std.proofs.Common.{◌≡◌, ◌++◌, length, vec_capacity}
use Rattle.bit_rows.specs.BitRows.{word_values}
use Rattle.domain_bits.specs.Removals.{at_vertex}
use Rattle.domain_bits.proofs.trail.push_pairs.Given as goal

abbrev pub invariant-loop-left : goal.invariant-loop-left
invariant-loop-left l = record {
  listed : l.pairs.items ++ at_vertex l.p (word_values l.place l.left) ≡ l.fn.pairs.items ++ at_vertex l.p (word_values l.place l.word);
  room : vec_capacity l.pairs ≡ vec_capacity l.fn.pairs;
}

abbrev pub decreases-loop-left : goal.decreases-loop-left
decreases-loop-left l = length (word_values l.place l.left)
