use Rattle.std.proofs.Common.{◌≡◌, ◌-◌, ◌<◌, suc, length, arith}
use Rattle.graph_rows.proofs.Parts.{below_at}
use Rattle.graph_rows.proofs.LabelsBeside.{first_none, first_more}
use Rattle.graph_rows.proofs.edge_labels.put_listed.Goals as goal

pub loop-i-init : goal.loop-i-init
loop-i-init c = record { within = omega arith; first = first_none c.args.listed.now c.args.labels.now c.args.found.now }

pub bounds-found-listed : goal.bounds-found-listed
bounds-found-listed c =
    let b_in = below_at (length c.args.found.now) c.args.listed.now (c.loop-i.i - 1) c.requires.to (omega (arith, c.loop-i-test.true, c.loop-i.invariant.within)) in
    omega (arith, b_in, c.loop-i.auto.found)

pub loop-i-preserved : goal.loop-i-preserved
loop-i-preserved c =
    let i_in : c.loop-i.i - 1 < length c.args.listed.now = omega (arith, c.loop-i-test.true, c.loop-i.invariant.within) in
    let next : c.loop-i.i ≡ suc (c.loop-i.i - 1) = omega (arith, c.loop-i-test.true) in
    let b_in = below_at (length c.args.found.now) c.args.listed.now (c.loop-i.i - 1) c.requires.to i_in in
    record {
      within = omega arith;
      first = rw c.label_or_zero.ensures (first_more c.args.listed.now c.args.labels.now c.loop-i.found (c.loop-i.i - 1) c.loop-i.i next i_in (omega (arith, b_in, c.loop-i.auto.found)) c.loop-i.invariant.first);
    }
