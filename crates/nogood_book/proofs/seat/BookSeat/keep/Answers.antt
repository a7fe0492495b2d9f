-- One row more behind all that the seat has.
use Rattle.std.proofs.Common.{◌≡◌, ◌++◌, sym, subst, arith}
use Rattle.nogood_book.specs.Rows.{MayFollow}
use Rattle.nogood_book.specs.Seats.{SeatName, HasSeenAll}
use Rattle.nogood_book.proofs.Own.{seat_keeps, honest_of}
use Rattle.nogood_book.proofs.seat.BookSeat.keep.Goals as goal

pub invariant_of-self-in-Ok : goal.invariant_of-self-in-Ok
invariant_of-self-in-Ok c =
    let i = c.self.invariant in
    let all = subst HasSeenAll (sym c.self.view_is) c.requires.all in
    let mine = subst (λ (s : SeatName). c.args.row.owner ≡ s.view.owner) (sym c.self.view_is) c.requires.owner in
    let may = subst (λ (s : SeatName). MayFollow s.view.problem (s.view.seen ++ s.own) c.args.row) (sym c.self.view_is) c.requires.row in
    seat_keeps _ c.self.inside.seat.me c.self.inside.rows c.push.new.self _ _ _ c.args.row (omega (arith, all, i.words)) mine may
    (omega (arith, c.if-at-ge-MOST.false, c.len-at.ensures, c.self.inside.rows.ok)) c.in-Ok.ensures.items c.push.ensures.capacity i

pub returns-in-Ok-clause-honest : goal.returns-in-Ok-clause-honest
returns-in-Ok-clause-honest c = honest_of _ _ _ _ _ _ _ (invariant_of-self-in-Ok c)
