use Rattle.std.proofs.Common.{◌≡◌, true, false, length, refl, sym, ap, ◌∙◌, subst}
use Rattle.std.proofs.lemmas.List.{with_items_is}
use Rattle.graph_theory.specs.Embedding.{Problem}
use Rattle.bit_rows.specs.BitRows.{words_for}
use Rattle.recorder.specs.Recording.{members_of}
use Rattle.propagation.specs.Edges.{RoomSize, IsRoomFor}
use Rattle.propagation.proofs.Gathering.{spot_crowded, unused_crowded}
use Rattle.propagation.proofs.Takes.{takes_none, takes_value}
use Rattle.propagation.proofs.Written.{length_written}
use Rattle.propagation.proofs.matching.match_spot.Goals as goal

-- counting steps leaves the room as it was
room_after : (q : Problem) (a b e f : RoomSize) → IsRoomFor q a → b ≡ a → e ≡ b → f ≡ e → IsRoomFor q f
room_after q a b e f room first second third = subst (λ (r : RoomSize). IsRoomFor q r) (sym (third ∙ second ∙ first)) room

pub returns-then-not-take_crowded-clause-takes : goal.returns-then-not-take_crowded-clause-takes
returns-then-not-take_crowded-clause-takes g c =
    let vertices = sym (c.deref-2.ensures.value ∙ with_items_is c.room-2.inside.chosen c.gather.new.chosen (c.gather.auto.chosen ∙ c.deref_mut-3.ensures.len)) in
    let values = sym (c.deref-3.ensures.value ∙ with_items_is c.room-2.inside.union c.gather.new.union (c.gather.auto.union ∙ c.deref_mut-4.ensures.len)) in
    let crowded = spot_crowded c.args.q.now c.args.d.now c.pattern.result.now c.target.result.now c.args.spot.direction c.args.spot.p c.args.spot.t c.row_by-near.result.now c.row_by-images.result.now
    c.gather.new.chosen c.gather.new.union c.deref-2.result.now c.deref-3.result.now c.requires.injective c.pattern.ensures.pattern c.target.ensures.target c.requires.p_in c.requires.t_in c.row_by-near.ensures.neighbours
    c.row_by-near.ensures.within c.row_by-images.ensures.neighbours c.row_by-images.ensures.within c.if-not-gather.ensures.gathers (c.if-not-gather.ensures.short refl) vertices values in
    let unused = unused_crowded c.args.q.now c.args.d.now c.args.spot.direction c.args.spot.p c.args.spot.t (members_of c.deref-2.result.now) (members_of c.deref-3.result.now) crowded in
    takes_value false _ _ c.args.d.now _ _ _ _ _ _ _ c.args.spot.p c.args.spot.t c.requires.flagged (takes_none tt _ _ _ _ c.requires.flagged) unused c.if-not-take_crowded.ensures.keeps
    c.if-not-take_crowded.ensures.taken c.if-not-take_crowded.ensures.bounded (λ s. c.if-not-take_crowded.ensures.told c.args.q.now s crowded) c.if-not-take_crowded.ensures.guesses

pub returns-clause-takes : goal.returns-clause-takes
returns-clause-takes g c =
    let vertices = sym (c.deref-2.ensures.value ∙ with_items_is c.room-2.inside.chosen c.gather.new.chosen (c.gather.auto.chosen ∙ c.deref_mut-3.ensures.len)) in
    let values = sym (c.deref-3.ensures.value ∙ with_items_is c.room-2.inside.union c.gather.new.union (c.gather.auto.union ∙ c.deref_mut-4.ensures.len)) in
    let crowded = spot_crowded c.args.q.now c.args.d.now c.pattern.result.now c.target.result.now c.args.spot.direction c.args.spot.p c.args.spot.t c.row_by-near.result.now c.row_by-images.result.now
    c.gather.new.chosen c.gather.new.union c.deref-2.result.now c.deref-3.result.now c.requires.injective c.pattern.ensures.pattern c.target.ensures.target c.requires.p_in c.requires.t_in c.row_by-near.ensures.neighbours
    c.row_by-near.ensures.within c.row_by-images.ensures.neighbours c.row_by-images.ensures.within c.if-not-gather.ensures.gathers (c.if-not-gather.ensures.short refl) vertices values in
    let unused = unused_crowded c.args.q.now c.args.d.now c.args.spot.direction c.args.spot.p c.args.spot.t (members_of c.deref-2.result.now) (members_of c.deref-3.result.now) crowded in
    takes_value true _ _ c.args.d.now _ _ _ _ _ _ _ c.args.spot.p c.args.spot.t c.requires.flagged (takes_none tt _ _ _ _ c.requires.flagged) unused c.if-not-take_crowded.ensures.keeps
    c.if-not-take_crowded.ensures.taken c.if-not-take_crowded.ensures.bounded (λ s. c.if-not-take_crowded.ensures.told c.args.q.now s crowded) c.if-not-take_crowded.ensures.guesses

pub returns-then-not-gather-clause-takes : goal.returns-then-not-gather-clause-takes
returns-then-not-gather-clause-takes g c = takes_none tt _ _ _ _ c.requires.flagged

pub returns-then-not-gather-clause-room : goal.returns-then-not-gather-clause-room
returns-then-not-gather-clause-room g c =
    let room = subst (λ (r : RoomSize). IsRoomFor c.args.q.now r) (sym c.room.view_is) c.requires.room in
    let after = room_after c.args.q.now _ _ _ _ (record { vertices_is = length_written c.room.inside.counts c.count_near-levels.new.counts ∙ room.vertices_is; words_is = room.words_is })
    c.spend.ensures c.spend-2.ensures c.room-2.view_is in
    record { vertices_is = after.vertices_is; words_is = length_written c.room-2.inside.union c.gather.new.union ∙ after.words_is }

pub returns-then-not-take_crowded-clause-room : goal.returns-then-not-take_crowded-clause-room
returns-then-not-take_crowded-clause-room g c =
    let room = subst (λ (r : RoomSize). IsRoomFor c.args.q.now r) (sym c.room.view_is) c.requires.room in
    let after = room_after c.args.q.now _ _ _ _ (record { vertices_is = length_written c.room.inside.counts c.count_near-levels.new.counts ∙ room.vertices_is; words_is = room.words_is })
    c.spend.ensures c.spend-2.ensures c.room-2.view_is in
    record { vertices_is = after.vertices_is; words_is = length_written c.room-2.inside.union c.gather.new.union ∙ after.words_is }

pub returns-clause-room : goal.returns-clause-room
returns-clause-room g c =
    let room = subst (λ (r : RoomSize). IsRoomFor c.args.q.now r) (sym c.room.view_is) c.requires.room in
    let after = room_after c.args.q.now _ _ _ _ (record { vertices_is = length_written c.room.inside.counts c.count_near-levels.new.counts ∙ room.vertices_is; words_is = room.words_is })
    c.spend.ensures c.spend-2.ensures c.room-2.view_is in
    record { vertices_is = after.vertices_is; words_is = length_written c.room-2.inside.union c.gather.new.union ∙ after.words_is }

pub invariant_of-room-2 : goal.invariant_of-room-2
invariant_of-room-2 g c = (
  length_written c.room-2.inside.row c.gather.new.row ∙ c.room-2.invariant.0 ∙ sym (length_written c.room-2.inside.union c.gather.new.union),
  length_written c.room-2.inside.chosen c.gather.new.chosen ∙ c.room-2.invariant.1,
)

pub invariant_of-room-then-not-gather : goal.invariant_of-room-then-not-gather
invariant_of-room-then-not-gather g c = (
  length_written c.room-2.inside.row c.gather.new.row ∙ c.room-2.invariant.0 ∙ sym (length_written c.room-2.inside.union c.gather.new.union),
  length_written c.room-2.inside.chosen c.gather.new.chosen ∙ c.room-2.invariant.1,
)

pub invariant_of-room-then-not-take_crowded : goal.invariant_of-room-then-not-take_crowded
invariant_of-room-then-not-take_crowded g c = (
  length_written c.room-2.inside.row c.gather.new.row ∙ c.room-2.invariant.0 ∙ sym (length_written c.room-2.inside.union c.gather.new.union),
  length_written c.room-2.inside.chosen c.gather.new.chosen ∙ c.room-2.invariant.1,
)

pub invariant_of-room : goal.invariant_of-room
invariant_of-room g c = (c.room.invariant.0, c.room.invariant.1 ∙ ap words_for (sym (length_written c.room.inside.counts c.count_near-levels.new.counts)))

pub gather-requires-clause-rows : goal.gather-requires-clause-rows
gather-requires-clause-rows g c =
    let room = subst (λ (r : RoomSize). IsRoomFor c.args.q.now r) (sym c.room.view_is) c.requires.room in
    let after = room_after c.args.q.now _ _ _ _ (record { vertices_is = length_written c.room.inside.counts c.count_near-levels.new.counts ∙ room.vertices_is; words_is = room.words_is })
    c.spend.ensures c.spend-2.ensures c.room-2.view_is in
    record {
      row_long = ap length c.deref_mut-2.ensures.value ∙ c.room-2.invariant.0 ∙ after.words_is ∙ sym (ap words_for c.requires.flagged.is_of.values_is);
      chosen_long = ap length c.deref_mut-3.ensures.value ∙ c.room-2.invariant.1 ∙ ap words_for (after.vertices_is ∙ sym c.requires.flagged.is_of.vertices_is);
      union_long = ap length c.deref_mut-4.ensures.value ∙ after.words_is ∙ sym (ap words_for c.requires.flagged.is_of.values_is);
    }
