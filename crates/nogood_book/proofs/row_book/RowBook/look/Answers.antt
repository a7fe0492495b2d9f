-- A load of the next word keeps the rule, and tells what it found.
use Rattle.std.proofs.Common.{sym, ◌∙◌, ◌≡◌, ◌<◌, ◌+◌, length, ap, arith}
use Rattle.nogood_book.specs.Seats.{SeatName}
use Rattle.atomic_table.specs.Seated.{TableId}
use Rattle.nogood_book.specs.declared.view.View.{View}
use Rattle.nogood_book.specs.Views.{sees}
use Rattle.nogood_book.proofs.Keeps.{looks}
use Rattle.nogood_book.proofs.Own.{seat_more, found_some}
use Rattle.nogood_book.proofs.Opened.{of_inside, more_inside}
use Rattle.nogood_book.proofs.row_book.RowBook.look.Goals as goal

pub load-found-requires : goal.load-found-requires
load-found-requires c =
    let of = of_inside _ _ _ _ c.seat.view_is c.self.view_is c.requires.of in
    let more : length c.seat.inside.seat.me.0.seen < c.self.inside.rows = more_inside _ _ _ _ c.seat.view_is c.self.view_is c.requires.more in
    let len : c.len-next.result ≡ length c.seat.inside.seat.me.0.seen = omega (arith, c.len-next.ensures.len, ap (λ (z : SeatName). length z.view.seen) c.seat.view_is) in (
      of.table,
      omega (arith, c.self.invariant.0),
      looks _ _ _ _ c.seat.inside.seat.me _ c.seat.invariant.live (omega (arith, c.self.invariant.1)) (ap (λ n. n + 1) len),
    )

-- after a row of another's
pub invariant_of-seat-2 : goal.invariant_of-seat-2
invariant_of-seat-2 c =
    let e = c.load-found.ensures in
    let more : length c.seat.inside.seat.me.0.seen < c.self.inside.rows = more_inside _ _ _ _ c.seat.view_is c.self.view_is c.requires.more in
    let of = of_inside _ _ _ _ c.seat.view_is c.self.view_is c.requires.of in
    let is = found_some _ _ _ _ c.if-found-eq0.false e.2.2 ∙ ap (sees c.seat.inside.seat.me.0) (sym c.decode.ensures) in
    seat_more c.seat.inside.seat.table_id _ c.seat.inside.seat.me _ c.seat.inside.rows _ _ _ _ c.decode.result e.0 e.2.0 (ap (λ (v : View). v.seen) is) (ap (λ (v : View). v.owner) is) (ap (λ (v : View). v.spent) is) e.2.1
    (omega (arith, more, ap (λ (z : TableId). z.words) of.table, c.self.invariant.0, c.seat.invariant.words)) c.push_reserved.ensures.items c.push_reserved.ensures.capacity c.seat.invariant
