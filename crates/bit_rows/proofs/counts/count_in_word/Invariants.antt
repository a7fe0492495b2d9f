use Rattle.std.proofs.Common.{◌≡◌, ℕ, ◌+◌, true, length, get_or}
use Rattle.std.specs.Int.{from_bool}
use Rattle.bit_rows.specs.BitRows.{is_set, word_values}
use Rattle.bit_rows.proofs.Counting.{in_word}
use Rattle.bit_rows.proofs.counts.count_in_word.Given as goal

abbrev pub invariant-loop-rest : goal.invariant-loop-rest
invariant-loop-rest l = record {
  part : (b : ℕ) → is_set l.rest b ≡ true → is_set l.word b ≡ true;
  counted : (v : ℕ) → get_or l.counts v 0 + from_bool (in_word l.place l.rest v) ≡ get_or l.fn.counts v 0 + from_bool (in_word l.place l.word v);
}

abbrev pub decreases-loop-rest : goal.decreases-loop-rest
decreases-loop-rest l = length (word_values l.place l.rest)
