-- A split keeps the rule; the first seat knows one owner more, and the new one what the first had seen.
use Rattle.std.proofs.Common.{◌≡◌, ◌+◌, ℕ, [], length, ap, ◌∙◌, sym, refl, arith}
use Rattle.atomic_table.specs.Seated.{TableId}
use Rattle.nogood_book.specs.Views.{newcomer}
use Rattle.nogood_book.specs.Seats.{SeatName, BookName}
use Rattle.nogood_book.proofs.Keeps.{splits}
use Rattle.nogood_book.proofs.Opened.{of_inside, new_inside, seat_maker, seat_newcomer}
use Rattle.nogood_book.proofs.row_book.RowBook.cut.Goals as goal

pub split_seat-made-requires : goal.split_seat-made-requires
split_seat-made-requires g c =
    let of = of_inside _ _ _ _ c.seat.view_is c.self.view_is c.requires.of in
    let first = ap (λ (z : SeatName). z.view.first) c.seat.view_is ∙ c.requires.first in
    (of.table, omega (arith, c.self.invariant.0), splits _ _ _ c.seat.inside.seat.me.0 g.N.Naming.owner c.seat.invariant.live first (new_inside _ _ _ _ c.requires.name c.seat.view_is c.requires.new_))

pub invariant_of-seat : goal.invariant_of-seat
invariant_of-seat g c =
    let e = c.split_seat-made.ensures in
    seat_maker c.seat.inside.seat.table_id _ c.seat.inside.seat.me _ _ _ _ _ g.N.Naming.owner e.0 e.2 c.seat.invariant

pub invariant_of-result : goal.invariant_of-result
invariant_of-result g c =
    let e = c.split_seat-made.ensures in
    let i = c.seat.invariant in
    let of = of_inside _ _ _ _ c.seat.view_is c.self.view_is c.requires.of in
    let seen = ap (λ (z : SeatName). z.view.seen) c.seat.view_is in
    let words : c.seat.inside.seat.table_id.words ≡ c.self.inside.rows + 1 = ap (λ (z : TableId). z.words) of.table ∙ c.self.invariant.0 in
    seat_newcomer c.seat.inside.seat.table_id _ c.seat.inside.seat.me.0 _ _ _ c.args.owner e.3 (e.4 ∙ ap (λ (o : ℕ). (newcomer o c.seat.inside.seat.me.0, [])) (sym c.requires.name)) (c.requires.rows ∙ sym seen)
    (omega (arith, c.requires.room, ap (λ (z : BookName). z.size) c.self.view_is)) words c.self.invariant.2 (omega (arith, i.few, ap length i.rows_are, words, i.words))
    (ap (λ (z : SeatName). z.view.first) c.seat.view_is ∙ c.requires.first)
    (new_inside _ _ _ _ refl c.seat.view_is c.requires.new_) i.shown
