use Rattle.std.proofs.Common.{◌≡◌, ◌+◌, ◌-◌, ◌/◌, ◌%◌, ◌++◌, length, take, get_or, subst, sym, ℕ, arith}
use Rattle.bit_rows.specs.BitRows.{word_values}
use Rattle.domain_bits.specs.Removals.{at_vertex}
use Rattle.domain_bits.proofs.Runs.{run_begin, run_on, clear_on, clear_begin}
use Rattle.domain_bits.proofs.trail.last_run.Goals as goal

pub loop-rest-init : goal.loop-rest-init
loop-rest-init c = record {
  above = omega arith;
  fewer = omega arith;
  last = run_begin c.args.pairs.now (length c.args.pairs.now - 1) (omega arith);
  clear = λ i h. clear_begin ((get_or c.args.pairs.now (length c.args.pairs.now - 1) (0, 0)).1 % 64) i (omega arith) h;
  bit = omega arith;
}

pub loop-rest-preserved : goal.loop-rest-preserved
loop-rest-preserved c =
    let inv = c.loop-rest.invariant in
    let n = c.loop-rest.rest - 1 in
    let e : n + 1 ≡ c.loop-rest.rest = omega arith in
    let pairs = c.args.pairs.now in
    let x = get_or pairs (length pairs - 1) (0, 0) in
    let P : ℕ → Type 0 = λ m. pairs ≡ take m pairs ++ at_vertex x.0 (word_values (x.1 / 64) c.loop-rest.word) in
    record {
      above = omega arith;
      fewer = omega (arith, inv.fewer);
      last = run_on pairs n x.0 (x.1 / 64) c.loop-rest.word c.loop-rest.low (omega (arith, inv.fewer)) inv.bit (subst P (sym e) inv.last) c.if-p-vertex.false c.if-t-place.false (omega arith) inv.clear;
      clear = λ i h. clear_on c.loop-rest.word c.loop-rest.low _ (omega arith) inv.bit inv.clear i h;
      bit = omega (arith, inv.bit);
    }
