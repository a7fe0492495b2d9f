use Rattle.std.proofs.Common.{sym, subst}
use Rattle.propagation.specs.Edges.{RoomSize, IsRoomFor}
use Rattle.propagation.proofs.Takes.{flagged_on, takes_none, takes_as, takes_more, takes_failed}
use Rattle.propagation.proofs.edges.support_all.Goals as goal

pub support_vertex-requires-clause-flagged : goal.support_vertex-requires-clause-flagged
support_vertex-requires-clause-flagged g c = flagged_on tt _ _ _ _ _ _ _ c.requires.flagged c.loop-k.invariant.takes

pub returns-in_err-support_vertex-clause-takes : goal.returns-in_err-support_vertex-clause-takes
returns-in_err-support_vertex-clause-takes g c = takes_failed tt _ c.from_residual.result _ _ _ _ _ _ _ _ _ _ c.from_residual.ensures.1 c.loop-k.invariant.takes c.in_err-support_vertex.ensures.takes

pub returns-clause-takes : goal.returns-clause-takes
returns-clause-takes g c = takes_as tt _ _ _ _ _ _ _ _ c.loop-k.invariant.takes

pub loop-k-init : goal.loop-k-init
loop-k-init g c = record {
  takes = takes_none tt _ _ _ _ c.requires.flagged;
  room = c.requires.room;
}

pub loop-k-preserved : goal.loop-k-preserved
loop-k-preserved g c = record {
  takes = takes_more tt _ _ _ _ _ _ _ _ _ _ _ c.loop-k.invariant.takes (takes_as _ tt _ _ _ _ _ _ _ c.in_ok-support_vertex.ensures.takes);
  room = c.in_ok-support_vertex.ensures.room;
}

pub returns-clause-room : goal.returns-clause-room
returns-clause-room g c = c.loop-k.invariant.room

pub returns-in_err-support_vertex-clause-room : goal.returns-in_err-support_vertex-clause-room
returns-in_err-support_vertex-clause-room g c = c.in_err-support_vertex.ensures.room

pub support_vertex-requires-clause-count : goal.support_vertex-requires-clause-count
support_vertex-requires-clause-count g c = c.requires.count

pub support_vertex-requires-clause-room : goal.support_vertex-requires-clause-room
support_vertex-requires-clause-room g c = subst (λ (r : RoomSize). IsRoomFor c.args.q.now r) (sym c.is_due.ensures) c.loop-k.invariant.room

pub loop-k-preserved-then-not-is_due : goal.loop-k-preserved-then-not-is_due
loop-k-preserved-then-not-is_due g c = record { takes = c.loop-k.invariant.takes; room = subst (λ (r : RoomSize). IsRoomFor c.args.q.now r) (sym c.is_due.ensures) c.loop-k.invariant.room }
