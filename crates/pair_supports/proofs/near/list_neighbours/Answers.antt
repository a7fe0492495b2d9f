use Rattle.std.proofs.Common.{arith}
use Rattle.pair_supports.proofs.Nearing.{listed_none, listed_more, listed_all}
use Rattle.pair_supports.proofs.near.list_neighbours.Goals as goal

pub loop-u-init : goal.loop-u-init
loop-u-init c = record {
  listed = listed_none c.args.graph.now c.row-near.result.now _ c.args.a c.next_member-u.result c.in_ok-list.ensures.items c.row-near.ensures.neighbours
      (λ v v_in. c.next_member-u.ensures.none v (omega arith) v_in);
  within = c.next_member-u.ensures.high;
  member = c.next_member-u.ensures.member;
}

pub loop-u-preserved : goal.loop-u-preserved
loop-u-preserved c = record {
  listed = listed_more c.args.graph.now c.row-near.result.now _ _ c.args.a c.loop-u.u c.next_member-u-in-loop-u.result c.loop-u.invariant.listed
      c.row-near.ensures.neighbours (c.loop-u.invariant.member c.loop-u-test.true) c.next_member-u-in-loop-u.ensures.low
      c.next_member-u-in-loop-u.ensures.none c.in_ok-push_other.ensures;
  within = c.next_member-u-in-loop-u.ensures.high;
  member = c.next_member-u-in-loop-u.ensures.member;
}

pub returns : goal.returns
returns c =
    listed_all c.args.graph.now c.row-near.result.now _ c.args.a c.loop-u.u c.loop-u.invariant.listed c.row-near.ensures.neighbours c.row-near.ensures.within
    (omega (arith, c.row-near.ensures.long, c.loop-u-test.false))
