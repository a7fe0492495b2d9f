use Rattle.std.proofs.Common.{arith}
use Rattle.pb_encoding.proofs.Beside.{beside_none, beside_next, beside_all}
use Rattle.pb_encoding.proofs.terms.push_tested.Goals as goal

pub loop-u-init : goal.loop-u-init
loop-u-init c = record {
  pushed = beside_none c.args.q.now c.args.near.now c.args.p c.args.t c.args.r c.next_member-u.result c.args.out.now.items (λ v v_in. c.next_member-u.ensures.none v (omega arith) v_in);
  within = c.next_member-u.ensures.high;
  member = c.next_member-u.ensures.member;
}

pub loop-u-preserved : goal.loop-u-preserved
loop-u-preserved c = record {
  pushed = beside_next c.args.q.now c.args.near.now c.args.p c.args.t c.args.r c.loop-u.u c.next_member-u-in-loop-u.result c.variable.result c.is_compatible-passes.result c.args.out.now.items c.loop-u.out.items c.push_where.new.out.items
      c.next_member-u-in-loop-u.ensures.low c.next_member-u-in-loop-u.ensures.none (c.loop-u.invariant.member c.loop-u-test.true) c.loop-u.invariant.pushed c.variable.ensures.variable c.is_compatible-passes.ensures c.in_ok-push_where.ensures;
  within = c.next_member-u-in-loop-u.ensures.high;
  member = c.next_member-u-in-loop-u.ensures.member;
}

pub returns : goal.returns
returns c =
    beside_all c.args.q.now c.args.near.now c.args.p c.args.t c.args.r c.loop-u.u c.args.out.now.items c.loop-u.out.items c.requires.all c.requires.within
    (omega (arith, c.requires.long, c.loop-u-test.false)) c.loop-u.invariant.pushed
