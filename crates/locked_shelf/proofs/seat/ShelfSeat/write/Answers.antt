-- A row of the seat's own stands behind what it had seen.
use Rattle.std.proofs.Common.{subst, sym, ap, refl, ◌<◌, length, arith}
use Rattle.nogood_book.specs.Rows.{MayFollow}
use Rattle.locked_shelf.specs.Shelf.{ShelfView}
use Rattle.locked_shelf.proofs.Serving.{placed_at, kept_add}
use Rattle.locked_shelf.proofs.seat.ShelfSeat.write.Goals as goal

pub invariant_of-self : goal.invariant_of-self
invariant_of-self c =
    let P : ShelfView → Type 0 = λ s. MayFollow s.problem s.seen c.args.row in
    let R : ShelfView → Type 0 = λ s. length s.seen < s.most in
    let room = subst R (sym c.self.view_is) (c.if-not-has_room.ensures.0 refl) in
    (kept_add _ c.args.row _ c.self.invariant.0 room (subst P (sym c.self.view_is) c.requires.row) c.push_reserved.ensures.items, omega (arith, c.self.invariant.1, c.push_reserved.ensures.capacity))

pub returns-clause-published : goal.returns-clause-published
returns-clause-published c = (
  placed_at c.args.self.now _ c.args.row c.len-at.result c.push_reserved.new.self.items c.self.view_is c.self.invariant.0 c.requires.owner (c.if-not-has_room.ensures.0 refl) c.requires.row
      (omega (arith, c.len-at.ensures, c.self.inside.rows.ok)) c.push_reserved.ensures.items,
  omega (arith, c.len-at.ensures, ap (λ (s : ShelfView). length s.seen) c.self.view_is, c.if-not-has_room.ensures.0 refl),
)
