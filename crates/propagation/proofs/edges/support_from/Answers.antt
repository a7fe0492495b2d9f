use Rattle.std.proofs.Common.{◌≡◌, ℕ, ◌<◌, is_some, List, length, slice_index, refl, sym, ap, ◌∙◌, subst}
use Rattle.std.proofs.lemmas.List.{with_items_is}
use Rattle.graph_theory.specs.Graph.{Graph, size, edge}
use Rattle.graph_theory.specs.Reversed.{turned}
use Rattle.bit_rows.specs.BitRows.{has, words_for}
use Rattle.propagation.specs.Edges.{RoomSize, IsRoomFor, Unites}
use Rattle.propagation.proofs.Past.{member_below}
use Rattle.propagation.proofs.Takes.{takes_none}
use Rattle.propagation.proofs.Written.{length_written}
use Rattle.propagation.proofs.edges.support_from.Goals as goal

pub support_near-requires-clause-unites : goal.support_near-requires-clause-unites
support_near-requires-clause-unites g c =
    let unites = subst (λ (t : Graph). Unites t c.args.d.now c.args.from.1 c.args.from.0 c.unite.new.union) c.target.ensures.target (c.if-unite.ensures.unites refl) in
    let same = sym (c.deref-2.ensures.value ∙ with_items_is c.room.inside.union c.unite.new.union (c.unite.auto.union ∙ c.deref_mut-3.ensures.len)) in
    subst (λ (row : List ℕ). Unites c.args.q.now.target c.args.d.now c.args.from.1 c.args.from.0 row) same unites

pub returns-then-not-want-clause-takes : goal.returns-then-not-want-clause-takes
returns-then-not-want-clause-takes g c = takes_none tt _ _ _ _ c.requires.flagged

pub returns-then-unite-clause-takes : goal.returns-then-unite-clause-takes
returns-then-unite-clause-takes g c = takes_none tt _ _ _ _ c.requires.flagged

pub returns-clause-takes : goal.returns-clause-takes
returns-clause-takes g c = c.support_near.ensures.takes

pub support_near-requires-clause-flagged : goal.support_near-requires-clause-flagged
support_near-requires-clause-flagged g c = c.requires.flagged

pub support_near-requires-clause-p_in : goal.support_near-requires-clause-p_in
support_near-requires-clause-p_in g c = c.requires.p_in

pub returns-then-not-want-clause-room : goal.returns-then-not-want-clause-room
returns-then-not-want-clause-room g c = subst (λ (r : RoomSize). IsRoomFor c.args.q.now r) (sym c.room.view_is) c.requires.room

pub returns-then-unite-clause-room : goal.returns-then-unite-clause-room
returns-then-unite-clause-room g c =
    let room = subst (λ (r : RoomSize). IsRoomFor c.args.q.now r) (sym c.room.view_is) c.requires.room in
    record { vertices_is = room.vertices_is; words_is = length_written c.room.inside.union c.unite.new.union ∙ room.words_is }

pub returns-clause-room : goal.returns-clause-room
returns-clause-room g c =
    let room = subst (λ (r : RoomSize). IsRoomFor c.args.q.now r) (sym c.room.view_is) c.requires.room in
    record { vertices_is = room.vertices_is; words_is = length_written c.room.inside.union c.unite.new.union ∙ room.words_is }

pub invariant_of-room-then-unite : goal.invariant_of-room-then-unite
invariant_of-room-then-unite g c = (
  length_written c.room.inside.wanted c.want.new.wanted ∙ c.room.invariant.0 ∙ sym (length_written c.room.inside.union c.unite.new.union),
  c.room.invariant.1 ∙ sym (length_written c.room.inside.union c.unite.new.union),
  c.room.invariant.2,
  c.room.invariant.3,
  c.room.invariant.4 ∙ sym (length_written c.room.inside.union c.unite.new.union),
)

pub invariant_of-room-2 : goal.invariant_of-room-2
invariant_of-room-2 g c = (
  length_written c.room.inside.wanted c.want.new.wanted ∙ c.room.invariant.0 ∙ sym (length_written c.room.inside.union c.unite.new.union),
  length_written c.room.inside.gone c.support_near.new.gone ∙ c.room.invariant.1 ∙ sym (length_written c.room.inside.union c.unite.new.union),
  c.room.invariant.2,
  c.room.invariant.3,
  c.room.invariant.4 ∙ sym (length_written c.room.inside.union c.unite.new.union),
)

pub want-requires-clause-long : goal.want-requires-clause-long
want-requires-clause-long g c =
    let room = subst (λ (r : RoomSize). IsRoomFor c.args.q.now r) (sym c.room.view_is) c.requires.room in
    ap length c.deref_mut-2.ensures.value ∙ c.room.invariant.0 ∙ room.words_is ∙ sym (ap words_for c.requires.flagged.is_of.values_is)

pub unite-requires-clause-wanted : goal.unite-requires-clause-wanted
unite-requires-clause-wanted g c =
    let room = subst (λ (r : RoomSize). IsRoomFor c.args.q.now r) (sym c.room.view_is) c.requires.room in
    ap length c.deref.ensures.value ∙ length_written c.room.inside.wanted c.want.new.wanted ∙ c.room.invariant.0 ∙ room.words_is ∙ sym (ap (λ (t : Graph). words_for (size t)) c.target.ensures.target)

pub unite-requires-clause-long : goal.unite-requires-clause-long
unite-requires-clause-long g c =
    let room = subst (λ (r : RoomSize). IsRoomFor c.args.q.now r) (sym c.room.view_is) c.requires.room in
    ap length c.deref_mut-3.ensures.value ∙ room.words_is ∙ sym (ap (λ (t : Graph). words_for (size t)) c.target.ensures.target)

pub support_near-requires-clause-union : goal.support_near-requires-clause-union
support_near-requires-clause-union g c =
    let room = subst (λ (r : RoomSize). IsRoomFor c.args.q.now r) (sym c.room.view_is) c.requires.room in
    ap length c.deref-2.ensures.value ∙ length_written c.room.inside.union c.unite.new.union ∙ room.words_is

pub support_near-requires-clause-gone : goal.support_near-requires-clause-gone
support_near-requires-clause-gone g c =
    let room = subst (λ (r : RoomSize). IsRoomFor c.args.q.now r) (sym c.room.view_is) c.requires.room in
    ap length c.deref_mut-4.ensures.value ∙ c.room.invariant.1 ∙ room.words_is

pub support_near-requires-clause-members : goal.support_near-requires-clause-members
support_near-requires-clause-members g c k k_in = subst (λ (n : ℕ). slice_index c.members.result.now k < n) c.requires.count (member_below c.args.undecided.now _ (c.members.ensures.member k k_in))

pub support_near-requires-clause-near : goal.support_near-requires-clause-near
support_near-requires-clause-near g c =
    subst (λ (h : Graph). (r : ℕ) → has c.row_by.result.now r ≡ is_some (edge (turned c.args.from.1 h) c.args.from.0 r)) c.pattern.ensures.pattern c.row_by.ensures.neighbours
