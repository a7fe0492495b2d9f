use Rattle.std.proofs.Common.{◌≡◌, ℕ, ◌/◌, ◌<◌, ◌&&◌, nat_lt}
use Rattle.bit_rows.specs.BitRows.{has}
use Rattle.needed_values.specs.Consistent.{agree}
use Rattle.needed_values.proofs.Parts.{Lost}
use Rattle.needed_values.proofs.parted.part_words.Given as goal

abbrev pub invariant-loop-place : goal.invariant-loop-place
invariant-loop-place l = record {
  bits : (v : ℕ) → v / 64 < l.place → has l.other v ≡ (has l.row v && nat_lt v l.below);
  parted : (v : ℕ) → v / 64 < l.place → has l.left v ≡ (has l.other v && agree l.asked.joined l.asked.induced (has l.near v));
  lost : Lost l.other l.left l.place l.lost;
}
