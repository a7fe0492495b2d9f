use Rattle.std.proofs.Common.{◌≡◌, ℕ, true, false, take}
use Rattle.log_theory.specs.Lookups.{is_among}
use Rattle.bit_rows.specs.BitRows.{has}
use Rattle.dead_paths.proofs.needs.take_out.Given as goal

abbrev pub invariant-loop-u : goal.invariant-loop-u
invariant-loop-u l = record {
  out : (u : ℕ) → is_among u (take l.u-index l.values) ≡ true → has l.row u ≡ false;
  rest : (u : ℕ) → is_among u (take l.u-index l.values) ≡ false → has l.row u ≡ has l.initial.row u;
}
