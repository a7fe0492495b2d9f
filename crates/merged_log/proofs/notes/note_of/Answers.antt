use Rattle.std.proofs.Common.{ℕ, ◌+◌, ◌-◌, ◌/◌, get_or, arith}
use Rattle.std.proofs.lemmas.Option.{slice_get-get_or}
use Rattle.merged_log.proofs.Noting.{noted_here, below_goes, above_goes, nowhere}
use Rattle.merged_log.proofs.notes.note_of.Goals as goal

pub returns-then-at-row : goal.returns-then-at-row
returns-then-at-row c =
    let notes = c.args.notes.now in
    let m : ℕ = c.loop-low.low + (c.loop-low.high - c.loop-low.low) / 2 in
    let here = slice_get-get_or notes m (0, 0) (omega (arith, c.loop-low-test.true, c.loop-low.invariant.within)) in
    let e = noted_here notes m c.args.row (get_or notes m (0, 0)) c.requires here c.if-at-row.true in
    cc

pub loop-low-preserved-then-at-row-2 : goal.loop-low-preserved-then-at-row-2
loop-low-preserved-then-at-row-2 c =
    let notes = c.args.notes.now in
    let m : ℕ = c.loop-low.low + (c.loop-low.high - c.loop-low.low) / 2 in
    let here = slice_get-get_or notes m (0, 0) (omega (arith, c.loop-low-test.true, c.loop-low.invariant.within)) in record {
      within = c.loop-low.invariant.within;
      met = omega (arith, c.loop-low-test.true);
      below = below_goes notes m c.args.row (get_or notes m (0, 0)) c.requires here c.if-at-row-2.true;
      above = c.loop-low.invariant.above;
    }

pub loop-low-preserved : goal.loop-low-preserved
loop-low-preserved c =
    let notes = c.args.notes.now in
    let m : ℕ = c.loop-low.low + (c.loop-low.high - c.loop-low.low) / 2 in
    let here = slice_get-get_or notes m (0, 0) (omega (arith, c.loop-low-test.true, c.loop-low.invariant.within)) in
    let other = c.if-at-row.false in
    let not_below = c.if-at-row-2.false in record {
      within = omega (arith, c.loop-low-test.true, c.loop-low.invariant.within);
      met = omega (arith, c.loop-low-test.true);
      below = c.loop-low.invariant.below;
      above = above_goes notes m c.args.row (get_or notes m (0, 0)) c.requires here (omega (arith, other, not_below));
    }

pub returns : goal.returns
returns c =
    let e = nowhere c.args.notes.now c.loop-low.low c.loop-low.high c.args.row (omega (arith, c.loop-low-test.false)) c.loop-low.invariant.below c.loop-low.invariant.above in
    cc
