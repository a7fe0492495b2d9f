use Rattle.std.proofs.Common.{arith}
use Rattle.propagation.proofs.Supporting.{lacks_none}
use Rattle.propagation.proofs.edges.has_support.Goals as goal

pub loop-w-init : goal.loop-w-init
loop-w-init g c = record {
  lacks = lacks_none c.args.target.now c.args.d.now c.args.link.direction c.args.link.p c.args.u c.args.label c.next_member-w.result c.in_row_by-near.result.now (λ v v_in. c.next_member-w.ensures.none v (omega arith) v_in)
      c.in_row_by-near.ensures.neighbours;
  within = c.next_member-w.ensures.high;
  member = c.next_member-w.ensures.member;
}
