use Rattle.std.proofs.Common.{arith}
use Rattle.graph_theory.specs.Reversed.{turned}
use Rattle.common_neighbour.proofs.Walked.{walked_none, walked_next, walked_all, room_to_walk}
use Rattle.common_neighbour.proofs.walk.Goals as goal

pub loop-c-init : goal.loop-c-init
loop-c-init c = record {
  counted = walked_none (turned c.args.direction c.args.graph.now) c.row_by-near.result.now c.args.counts.now c.args.t c.next_member-c.result c.row_by-near.ensures.neighbours
      (λ v v_in. c.next_member-c.ensures.none v (omega arith) v_in) c.requires.zero;
  within = c.next_member-c.ensures.high;
  member = c.next_member-c.ensures.member;
}

pub count_neighbours-requires-clause-room : goal.count_neighbours-requires-clause-room
count_neighbours-requires-clause-room c =
    room_to_walk (turned c.args.direction c.args.graph.now) c.loop-c.counts c.args.t c.loop-c.c (omega (arith, c.loop-c.auto.counts, c.requires.long))
    (omega (arith, c.loop-c.invariant.within, c.row_by-near.ensures.long, c.size-size.ensures.size, c.size-size.ensures.few)) c.loop-c.invariant.counted

pub loop-c-preserved : goal.loop-c-preserved
loop-c-preserved c = record {
  counted = walked_next (turned c.args.direction c.args.graph.now) c.row_by-near.result.now c.loop-c.counts c.count_neighbours.new.counts c.args.t c.loop-c.c c.next_member-c-in-loop-c.result
      c.row_by-near.ensures.neighbours (c.loop-c.invariant.member c.loop-c-test.true)
      c.next_member-c-in-loop-c.ensures.low c.next_member-c-in-loop-c.ensures.none c.loop-c.invariant.counted c.count_neighbours.ensures;
  within = c.next_member-c-in-loop-c.ensures.high;
  member = c.next_member-c-in-loop-c.ensures.member;
}

pub returns : goal.returns
returns c =
    walked_all (turned c.args.direction c.args.graph.now) c.row_by-near.result.now c.loop-c.counts c.args.t c.loop-c.c c.row_by-near.ensures.neighbours c.row_by-near.ensures.within
    (omega (arith, c.row_by-near.ensures.long, c.loop-c-test.false)) c.loop-c.invariant.counted
