use Rattle.std.proofs.Common.{◌-◌, arith, sym}
use Rattle.log_theory.specs.Tables.{find}
use Rattle.pb_propagation.proofs.Propagation.{reaches_wider, unnamed, named_more}
use Rattle.pb_propagation.proofs.propagate.reach_of.Goals as goal

pub returns-in_default-clause-err : goal.returns-in_default-clause-err
returns-in_default-clause-err c =
    let h = c.loop-i-test.true in
    let n = c.loop-i.invariant.inside in
    unnamed (find c.args.model.now c.args.table.now) c.args.refs.now (c.loop-i.i - 1) (omega arith) (sym c.in_default.ensures)

pub loop-i-preserved : goal.loop-i-preserved
loop-i-preserved c =
    let h = c.loop-i-test.true in
    let n = c.loop-i.invariant.inside in
    let s = c.loop-i.invariant.small in
    let k = c.reach.ensures.small in
    let m = c.max-most.ensures in
    record {
      named = named_more (find c.args.model.now c.args.table.now) c.loop-i.most c.max-most.result c.args.refs.now (c.loop-i.i - 1) c.loop-i.i c.in-Some.named.now (omega arith) (omega arith) (omega arith) (sym c.in-Some.ensures) (reaches_wider c.reach.result c.max-most.result c.in-Some.named.now.terms (omega arith) c.reach.ensures.reaches) c.loop-i.invariant.named;
      small = omega arith;
      inside = omega arith;
    }
