use Rattle.std.proofs.Common.{◌≡◌, ◌-◌, ◌*◌, length, get_or, sym, ap, ◌∙◌, arith, refl}
use Rattle.std.proofs.lemmas.List.{length-map}
use Rattle.nogood_watch.specs.Inside.{cell, nogoods_of, nogood_at}
use Rattle.domain_bits.proofs.Sizes.{in_below}
use Rattle.nogood_watch.proofs.Readiness.{cell_below, cell_in}
use Rattle.nogood_watch.proofs.Walks.{walking_first, walking_ready, walking_room, walking_next, walking_chained, walking_done}
use Rattle.nogood_watch.proofs.walk.walk.Goals as goal

pub take_list-requires-clause-from_in : goal.take_list-requires-clause-from_in
take_list-requires-clause-from_in g c =
    let d = c.args.d.now in
    rw c.cell_of.ensures (cell_in d.vertices d.values c.values.result _ c.args.literal c.values.ensures c.requires.kept.heads_long c.requires.vertex
    (in_below d c.args.literal.0 c.args.literal.1 c.requires.assigned.here))

pub take_list-requires-clause-apart : goal.take_list-requires-clause-apart
take_list-requires-clause-apart g c = λ e.
    let d = c.args.d.now in
    let below = cell_below d.vertices d.values c.args.literal c.requires.vertex (in_below d c.args.literal.0 c.args.literal.1 c.requires.assigned.here) in
    let at : c.cell_of.result ≡ cell c.values.result c.args.literal = c.cell_of.ensures in
    let at' : cell c.values.result c.args.literal ≡ cell d.values c.args.literal = ap (λ v. cell v c.args.literal) c.values.ensures in
    omega (arith, below, at, at', e, c.requires.kept.heads_long)

pub loop-heads-init : goal.loop-heads-init
loop-heads-init g c =
    let d = c.args.d.now in
    let k = c.requires.kept in
    record {
      walking = rw c.requires.none (walking_first d (nogoods_of c.args.nogoods.now.literals.now c.args.nogoods.now.entries.now) c.args.nogoods.now.live.now c.args.watches.now c.args.literal c.args.heads.now c.take_list.new.heads c.args.next.now c.values.result c.cell_of.result (length c.args.heads.now - 1)
          (λ i h. k.literals_are i (rw length-map at h)) k.watches_are k.heads_long k.next_long k.chained c.requires.vertex
          (in_below d c.args.literal.0 c.args.literal.1 c.requires.assigned.here) c.cell_of.ensures c.values.ensures refl c.take_list.ensures.chained c.take_list.ensures.heads_long);
      room = refl;
    }

pub visit-requires-clause-ready : goal.visit-requires-clause-ready
visit-requires-clause-ready g c =
    let k = c.requires.kept in
    walking_ready c.args.d.now _ c.args.nogoods.now.live.now c.args.watches.now c.args.literal c.loop-heads.watches c.loop-heads.heads c.loop-heads.next c.loop-heads.forced.items (length c.args.heads.now - 1)
    (λ i h. k.literals_are i (rw length-map at h)) c.requires.assigned c.loop-heads.invariant.walking (omega (arith, k.heads_long)) c.loop-heads-test.true

pub visit-requires-clause-room : goal.visit-requires-clause-room
visit-requires-clause-room g c =
    let k = c.requires.kept in
    let i = c.loop-heads.invariant in
    omega (
      arith,
      walking_room c.args.d.now _ c.args.nogoods.now.live.now c.args.watches.now c.args.literal c.loop-heads.watches c.loop-heads.heads c.loop-heads.next c.loop-heads.forced.items (length c.args.heads.now - 1)
          i.walking (omega (arith, k.heads_long)) c.loop-heads-test.true,
      i.room,
      length-map c.args.nogoods.now.entries.now (nogood_at c.args.nogoods.now.literals.now),
      k.room,
    )

pub loop-heads-smaller : goal.loop-heads-smaller
loop-heads-smaller g c =
    let k = c.requires.kept in
    (walking_next c.args.d.now _ c.args.nogoods.now.live.now c.args.watches.now c.args.literal c.loop-heads.watches c.visit.new.watches c.loop-heads.heads c.visit.new.heads c.loop-heads.next c.visit.new.next c.loop-heads.forced.items c.visit.new.forced.items (length c.args.heads.now - 1)
    (λ i h. k.literals_are i (rw length-map at h)) k.watches_are c.loop-heads.invariant.walking (omega (arith, k.heads_long)) c.loop-heads-test.true
    c.visit.ensures.visited c.visit.ensures.chained c.visit.ensures.heads_long c.visit.ensures.next_long).1

pub loop-heads-preserved : goal.loop-heads-preserved
loop-heads-preserved g c =
    let k = c.requires.kept in
    record {
      walking = (walking_next c.args.d.now _ c.args.nogoods.now.live.now c.args.watches.now c.args.literal c.loop-heads.watches c.visit.new.watches c.loop-heads.heads c.visit.new.heads c.loop-heads.next c.visit.new.next c.loop-heads.forced.items c.visit.new.forced.items (length c.args.heads.now - 1)
          (λ i h. k.literals_are i (rw length-map at h)) k.watches_are c.loop-heads.invariant.walking (omega (arith, k.heads_long)) c.loop-heads-test.true
          c.visit.ensures.visited c.visit.ensures.chained c.visit.ensures.heads_long c.visit.ensures.next_long).0;
      room = c.visit.ensures.room ∙ c.loop-heads.invariant.room;
    }

pub returns-clause-kept : goal.returns-clause-kept
returns-clause-kept g c =
    let d = c.args.d.now in
    let k = c.requires.kept in
    let i = c.loop-heads.invariant in
    let at : length c.args.heads.now - 1 ≡ d.vertices * d.values = omega (arith, k.heads_long) in
    let none = ap (λ n. get_or c.loop-heads.heads n 0) (sym at) ∙ c.loop-heads-test.false in
    record {
      heads_long = i.walking.heads_long;
      next_long = i.walking.next_long;
      live_long = k.live_long;
      within = k.within;
      literals_are = k.literals_are;
      watches_are = i.walking.watches_are;
      covered = k.covered;
      chained = walking_chained d _ c.args.nogoods.now.live.now c.args.watches.now c.args.literal c.loop-heads.watches c.loop-heads.heads c.loop-heads.next c.loop-heads.forced.items i.walking none;
      none = none;
      room = omega (arith, k.room, i.room);
    }

pub returns-clause-walked : goal.returns-clause-walked
returns-clause-walked g c =
    let d = c.args.d.now in
    let k = c.requires.kept in
    let i = c.loop-heads.invariant in
    let at : length c.args.heads.now - 1 ≡ d.vertices * d.values = omega (arith, k.heads_long) in
    let none = ap (λ n. get_or c.loop-heads.heads n 0) (sym at) ∙ c.loop-heads-test.false in
    walking_done d _ c.args.nogoods.now.live.now c.args.watches.now c.args.literal c.loop-heads.watches c.loop-heads.heads c.loop-heads.next c.loop-heads.forced.items i.walking none
