use Rattle.std.proofs.Common.{◌-◌, get_or, drop, arith, sym, ap, ◌∙◌}
use Rattle.proof_theory.specs.Forms.{assignment}
use Rattle.log_theory.specs.Lookups.{are_distinct}
use Rattle.pb_propagation.proofs.Backwards.{from_place}
use Rattle.proof_checker.proofs.Claims.{up_to_at, positive_at, marked_twice, twice_behind}
use Rattle.proof_checker.proofs.ones.mark_all.Goals as goal

pub mark-requires-clause-from_one : goal.mark-requires-clause-from_one
mark-requires-clause-from_one c =
    let h = c.loop-i-test.true in
    let n = c.loop-i.invariant.inside in
    positive_at c.args.variables c.args.ones.now (c.loop-i.i - 1) c.requires.range (omega arith)

pub mark-requires-clause-within : goal.mark-requires-clause-within
mark-requires-clause-within c =
    let h = c.loop-i-test.true in
    let n = c.loop-i.invariant.inside in
    let l = c.loop-i.invariant.long in
    let a = up_to_at _ c.args.ones.now (c.loop-i.i - 1) c.requires.within (omega arith) in
    omega arith

pub returns-then-not-mark-clause-distinct : goal.returns-then-not-mark-clause-distinct
returns-then-not-mark-clause-distinct c =
    let d = from_place c.args.ones.now c.loop-i.i 0 c.loop-i-test.true c.loop-i.invariant.inside in
    let t = marked_twice (assignment c.loop-i.values.items) (get_or c.args.ones.now (c.loop-i.i - 1) 0) (drop c.loop-i.i c.args.ones.now) c.loop-i.invariant.marked c.if-not-mark.ensures.marks in
    sym (twice_behind (c.loop-i.i - 1) c.args.ones.now (ap are_distinct d ∙ t))
