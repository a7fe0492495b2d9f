use Rattle.std.proofs.Common.{Some, length, refl, arith, ◌∙◌}
use Rattle.graph_theory.specs.Neighbours.{members}
use Rattle.bit_rows.specs.BitRows.{has}
use Rattle.bit_rows.proofs.Counting.{has_within}
use Rattle.bit_rows.proofs.Rows.{has_past}
use Rattle.nogood_book.proofs.Reaching.{reaches_more}
use Rattle.restart_search.specs.Sharing.{IsRowOf, learned_by, refuted_at}
use Rattle.restart_search.proofs.Publishing.{went_none, level_before, went_more, seat_went, row_on, row_later, level_more}
use Rattle.restart_search.proofs.Learning.{level_first, level_next, level_end, has_none, first_all, level_first_ones}
use Rattle.restart_search.proofs.Noting.{passes_member}
use Rattle.restart_search.proofs.sharing.publish_level.Goals as goal

pub publish_nogood-requires-clause-parent : goal.publish_nogood-requires-clause-parent
publish_nogood-requires-clause-parent g c = reaches_more _ _ c.args.level.now.parent c.args.level.now.above.now c.requires.parent c.loop-t.invariant.went.grew.seen

pub loop-t-preserved : goal.loop-t-preserved
loop-t-preserved g c =
    let first = g.B.Seat.RowSeat.shows c.args.seat.now in
    let mid = g.B.Seat.RowSeat.shows c.loop-t.seat in
    let last = g.B.Seat.RowSeat.shows c.publish_nogood.new.seat in
    let o = c.args.author.now.owner in
    record {
      fits = c.publish_nogood.ensures.fits;
      went = went_more first mid last c.loop-t.invariant.went c.publish_nogood.ensures.went;
      below = level_more (IsRowOf o (length first.seen) mid.seen) (IsRowOf o (length first.seen) last.seen) c.args.refuted.now c.args.level.now.above.now c.args.p c.loop-t.t c.next_member-t-in-loop-t.result
          (λ xs. row_on o (length first.seen) (length first.seen) mid.seen last.seen xs c.publish_nogood.ensures.went.grew.seen (omega arith))
          c.loop-t.invariant.below
          (row_later o first mid last _ c.loop-t.invariant.went (c.if-not-publish_nogood.ensures.row refl))
          c.next_member-t-in-loop-t.ensures.none;
      learned = level_next (learned_by o first.seen) (learned_by o mid.seen) (learned_by o last.seen) c.args.level.now.above.now c.args.p (has c.args.refuted.now) c.loop-t.t c.next_member-t-in-loop-t.result
          c.loop-t.invariant.learned (c.if-not-publish_nogood.ensures.learned refl) (c.loop-t.invariant.member c.loop-t-test.true) c.next_member-t-in-loop-t.ensures.low c.next_member-t-in-loop-t.ensures.none;
      within = c.next_member-t-in-loop-t.ensures.high;
      member = c.next_member-t-in-loop-t.ensures.member;
      owner = c.publish_nogood.ensures.owner ∙ (c.in_ok-room.ensures.owner ∙ c.loop-t.invariant.owner);
      writes = c.publish_nogood.ensures.writes;
    }

pub publish_nogood-requires-clause-refuted : goal.publish_nogood-requires-clause-refuted
publish_nogood-requires-clause-refuted g c =
    let here = c.loop-t.invariant.member c.loop-t-test.true in
    passes_member (has c.args.refuted.now) c.args.account.now.target c.loop-t.t _ c.requires.row (omega (arith, (c.requires.refuted c.loop-t.t here).0, c.requires.target)) here

pub publish_nogood-requires-clause-writes : goal.publish_nogood-requires-clause-writes
publish_nogood-requires-clause-writes g c = c.in_ok-room.ensures.writes _ _ _ c.loop-t.invariant.writes

pub publish_nogood-requires-clause-owner : goal.publish_nogood-requires-clause-owner
publish_nogood-requires-clause-owner g c = c.in_ok-room.ensures.owner ∙ (c.loop-t.invariant.owner ∙ c.requires.owner)

pub returns-in_err-room-clause-writes : goal.returns-in_err-room-clause-writes
returns-in_err-room-clause-writes g c = c.in_err-room.ensures.writes _ _ _ c.loop-t.invariant.writes

pub returns-clause-learned : goal.returns-clause-learned
returns-clause-learned g c = λ yes.
    let o = c.args.author.now.owner in
    level_end (learned_by o (g.B.Seat.RowSeat.shows c.args.seat.now).seen) (learned_by o (g.B.Seat.RowSeat.shows c.loop-t.seat).seen) c.args.level.now.above.now c.args.p (has c.args.refuted.now) c.loop-t.t c.args.account.now.target
    c.loop-t.invariant.learned
    (λ i past. has_past c.args.refuted.now i (omega (arith, past, c.loop-t-test.false)))
    (λ i past. has_none c.args.refuted.now i (λ here. omega (arith, past, (c.requires.refuted i here).0, c.requires.target)))

pub loop-t-init : goal.loop-t-init
loop-t-init g c =
    let first = g.B.Seat.RowSeat.shows c.args.seat.now in
    let o = c.args.author.now.owner in
    record {
      fits = c.requires.fits;
      went = went_none first c.rows-rows.ensures.sound;
      below = level_before (IsRowOf o (length first.seen) first.seen) c.args.refuted.now c.args.level.now.above.now c.args.p c.next_member-t.result c.next_member-t.ensures.none;
      learned = level_first (learned_by o first.seen) c.args.level.now.above.now c.args.p (has c.args.refuted.now) c.next_member-t.result c.next_member-t.ensures.none;
      within = c.next_member-t.ensures.high;
      member = c.next_member-t.ensures.member;
      owner = refl;
      writes = c.requires.writes;
    }

pub returns-clause-part : goal.returns-clause-part
returns-clause-part g c =
    first_all c.args.author.now.owner (g.B.Seat.RowSeat.shows c.args.seat.now).seen (g.B.Seat.RowSeat.shows c.loop-t.seat).seen (refuted_at c.args.level.now.above.now (Some c.args.p) (members (has c.args.refuted.now) c.args.account.now.target))
    (returns-clause-learned g c refl)

pub returns-in_err-room-clause-part : goal.returns-in_err-room-clause-part
returns-in_err-room-clause-part g c =
    let here = c.loop-t.invariant.member c.loop-t-test.true in
    level_first_ones c.args.author.now.owner (g.B.Seat.RowSeat.shows c.args.seat.now).seen (g.B.Seat.RowSeat.shows c.loop-t.seat).seen (g.B.Seat.RowSeat.shows c.loop-t.seat).seen c.args.level.now.above.now c.args.p (has c.args.refuted.now) c.loop-t.t c.args.account.now.target
    c.loop-t.invariant.learned refl (omega (arith, (c.requires.refuted c.loop-t.t here).0, c.requires.target))

pub returns-then-not-publish_nogood-clause-part : goal.returns-then-not-publish_nogood-clause-part
returns-then-not-publish_nogood-clause-part g c =
    let here = c.loop-t.invariant.member c.loop-t-test.true in
    level_first_ones c.args.author.now.owner (g.B.Seat.RowSeat.shows c.args.seat.now).seen (g.B.Seat.RowSeat.shows c.loop-t.seat).seen (g.B.Seat.RowSeat.shows c.publish_nogood.new.seat).seen c.args.level.now.above.now c.args.p (has c.args.refuted.now) c.loop-t.t c.args.account.now.target
    c.loop-t.invariant.learned (c.if-not-publish_nogood.ensures.kept refl) (omega (arith, (c.requires.refuted c.loop-t.t here).0, c.requires.target))

pub returns-in_err-room-clause-owner : goal.returns-in_err-room-clause-owner
returns-in_err-room-clause-owner g c = c.in_err-room.ensures.owner ∙ c.loop-t.invariant.owner

pub returns-in_err-room-clause-fits : goal.returns-in_err-room-clause-fits
returns-in_err-room-clause-fits g c = c.loop-t.invariant.fits

pub returns-in_err-room-clause-went : goal.returns-in_err-room-clause-went
returns-in_err-room-clause-went g c = c.loop-t.invariant.went

pub returns-then-not-publish_nogood-clause-owner : goal.returns-then-not-publish_nogood-clause-owner
returns-then-not-publish_nogood-clause-owner g c = c.publish_nogood.ensures.owner ∙ (c.in_ok-room.ensures.owner ∙ c.loop-t.invariant.owner)

pub returns-then-not-publish_nogood-clause-writes : goal.returns-then-not-publish_nogood-clause-writes
returns-then-not-publish_nogood-clause-writes g c = c.publish_nogood.ensures.writes

pub returns-then-not-publish_nogood-clause-fits : goal.returns-then-not-publish_nogood-clause-fits
returns-then-not-publish_nogood-clause-fits g c = c.publish_nogood.ensures.fits

pub returns-then-not-publish_nogood-clause-went : goal.returns-then-not-publish_nogood-clause-went
returns-then-not-publish_nogood-clause-went g c = went_more (g.B.Seat.RowSeat.shows c.args.seat.now) (g.B.Seat.RowSeat.shows c.loop-t.seat) (g.B.Seat.RowSeat.shows c.publish_nogood.new.seat) c.loop-t.invariant.went c.publish_nogood.ensures.went

pub returns-then-not-publish_nogood-clause-all : goal.returns-then-not-publish_nogood-clause-all
returns-then-not-publish_nogood-clause-all g c = λ yes. cc

pub returns-then-not-publish_nogood-clause-learned : goal.returns-then-not-publish_nogood-clause-learned
returns-then-not-publish_nogood-clause-learned g c = λ yes. cc

pub returns-then-not-publish_nogood-clause-full : goal.returns-then-not-publish_nogood-clause-full
returns-then-not-publish_nogood-clause-full g c = λ no. c.if-not-publish_nogood.ensures.full refl

pub returns-clause-owner : goal.returns-clause-owner
returns-clause-owner g c = c.loop-t.invariant.owner

pub returns-clause-writes : goal.returns-clause-writes
returns-clause-writes g c = c.loop-t.invariant.writes

pub returns-clause-fits : goal.returns-clause-fits
returns-clause-fits g c = c.loop-t.invariant.fits

pub returns-clause-went : goal.returns-clause-went
returns-clause-went g c = c.loop-t.invariant.went

pub returns-clause-full : goal.returns-clause-full
returns-clause-full g c = λ no. cc

pub returns-clause-all : goal.returns-clause-all
returns-clause-all g c = λ yes u here. c.loop-t.invariant.below u (omega (arith, has_within c.args.refuted.now u here, c.loop-t-test.false)) here

pub publish_nogood-requires-clause-fits : goal.publish_nogood-requires-clause-fits
publish_nogood-requires-clause-fits g c = c.loop-t.invariant.fits

pub publish_nogood-requires-clause-seat : goal.publish_nogood-requires-clause-seat
publish_nogood-requires-clause-seat g c = seat_went c.args.author.now.problem.now c.args.author.now.owner (g.B.Seat.RowSeat.shows c.args.seat.now) (g.B.Seat.RowSeat.shows c.loop-t.seat) c.loop-t.invariant.went c.requires.seat

pub publish_nogood-requires-clause-stands : goal.publish_nogood-requires-clause-stands
publish_nogood-requires-clause-stands g c = record {
  fresh = c.requires.fresh;
  vertex = c.requires.vertex;
  value = (c.requires.refuted c.loop-t.t (c.loop-t.invariant.member c.loop-t-test.true)).0;
}

pub publish_nogood-requires-clause-dead : goal.publish_nogood-requires-clause-dead
publish_nogood-requires-clause-dead g c = (c.requires.refuted c.loop-t.t (c.loop-t.invariant.member c.loop-t-test.true)).1

pub publish_nogood-requires-clause-level : goal.publish_nogood-requires-clause-level
publish_nogood-requires-clause-level g c = c.requires.level

pub publish_nogood-requires-clause-above : goal.publish_nogood-requires-clause-above
publish_nogood-requires-clause-above g c = c.requires.above

pub publish_nogood-requires-clause-spare : goal.publish_nogood-requires-clause-spare
publish_nogood-requires-clause-spare g c = c.in_ok-room.ensures.made
