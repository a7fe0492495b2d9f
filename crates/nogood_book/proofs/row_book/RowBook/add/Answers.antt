-- An exchange of the next word keeps the rule, and tells whose row is there.
use Rattle.std.proofs.Common.{◌≡◌, ◌<◌, ◌+◌, length, ap, ◌∙◌, sym, arith}
use Rattle.nogood_book.specs.Seats.{SeatName}
use Rattle.atomic_table.specs.Seated.{TableId}
use Rattle.nogood_book.specs.declared.view.View.{View}
use Rattle.nogood_book.specs.Words.{row_of}
use Rattle.nogood_book.specs.Views.{sees, added}
use Rattle.nogood_book.proofs.Codes.{row_back}
use Rattle.nogood_book.proofs.Keeps.{adds}
use Rattle.nogood_book.proofs.Own.{seat_more, honest_of, found_none, found_some}
use Rattle.nogood_book.proofs.Own.{seat_more, honest_of}
use Rattle.nogood_book.proofs.Opened.{of_inside, more_inside, may_inside}
use Rattle.nogood_book.proofs.row_book.RowBook.add.Goals as goal

pub compare_exchange-found-requires : goal.compare_exchange-found-requires
compare_exchange-found-requires c =
    let of = of_inside _ _ _ _ c.seat.view_is c.self.view_is c.requires.of in
    let more : length c.seat.inside.seat.me.0.seen < c.self.inside.rows = more_inside _ _ _ _ c.seat.view_is c.self.view_is c.requires.more in
    let len : c.len-next.result ≡ length c.seat.inside.seat.me.0.seen = omega (arith, c.len-next.ensures.len, ap (λ (z : SeatName). length z.view.seen) c.seat.view_is) in
    let may = may_inside _ _ _ _ c.args.row.now c.seat.view_is c.self.view_is c.requires.of c.requires.row in
    let own = c.requires.owner ∙ sym (ap (λ (z : SeatName). z.view.owner) c.seat.view_is) in (
      of.table,
      omega (arith, c.self.invariant.0),
      adds _ _ _ _ c.seat.inside.seat.me _ c.args.row.now _ c.seat.invariant.live (omega (arith, c.self.invariant.1)) (ap (λ n. n + 1) len) c.encode-word.ensures own may,
    )

-- after its own row
pub returns-then-found-eq0-clause-honest : goal.returns-then-found-eq0-clause-honest
returns-then-found-eq0-clause-honest c =
    let e = c.compare_exchange-found.ensures in
    let more : length c.seat.inside.seat.me.0.seen < c.self.inside.rows = more_inside _ _ _ _ c.seat.view_is c.self.view_is c.requires.more in
    let of = of_inside _ _ _ _ c.seat.view_is c.self.view_is c.requires.of in
    let row : row_of c.encode-word.result ≡ c.args.row.now = ap row_of c.encode-word.ensures ∙ row_back c.args.row.now c.requires.row.narrow in
    let is = found_none _ _ _ _ c.if-found-eq0.true e.2.2 ∙ ap (added c.seat.inside.seat.me.0) row in
    honest_of _ _ _ _ _ _ _ (seat_more c.seat.inside.seat.table_id _ c.seat.inside.seat.me _ c.seat.inside.rows c.push_reserved.new.self _ _ c.seat.inside.ended c.args.row.now e.0 e.2.0 (ap (λ (v : View). v.seen) is) (ap (λ (v : View). v.owner) is) (ap (λ (v : View). v.spent) is) e.2.1
    (omega (arith, more, ap (λ (z : TableId). z.words) of.table, c.self.invariant.0, c.seat.invariant.words)) c.push_reserved.ensures.items c.push_reserved.ensures.capacity c.seat.invariant)

-- and after one of another's
pub invariant_of-seat-2 : goal.invariant_of-seat-2
invariant_of-seat-2 c =
    let e = c.compare_exchange-found.ensures in
    let more : length c.seat.inside.seat.me.0.seen < c.self.inside.rows = more_inside _ _ _ _ c.seat.view_is c.self.view_is c.requires.more in
    let of = of_inside _ _ _ _ c.seat.view_is c.self.view_is c.requires.of in
    let is = found_some _ _ _ _ c.if-found-eq0.false e.2.2 ∙ ap (sees c.seat.inside.seat.me.0) (sym c.decode.ensures) in
    seat_more c.seat.inside.seat.table_id _ c.seat.inside.seat.me _ c.seat.inside.rows _ _ _ _ c.decode.result e.0 e.2.0 (ap (λ (v : View). v.seen) is) (ap (λ (v : View). v.owner) is) (ap (λ (v : View). v.spent) is) e.2.1
    (omega (arith, more, ap (λ (z : TableId). z.words) of.table, c.self.invariant.0, c.seat.invariant.words)) c.push_reserved-2.ensures.items c.push_reserved-2.ensures.capacity c.seat.invariant

pub returns-clause-honest : goal.returns-clause-honest
returns-clause-honest c = honest_of _ _ _ _ _ _ _ (invariant_of-seat-2 c)
