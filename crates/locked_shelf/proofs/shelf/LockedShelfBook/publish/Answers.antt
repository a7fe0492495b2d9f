-- What might follow may follow once the seat has caught up.
use Rattle.std.proofs.Common.{◌∙◌, subst, sym, refl}
use Rattle.nogood_book.specs.Rows.{MayFollow}
use Rattle.locked_shelf.specs.Shelf.{facts_of, Held}
use Rattle.locked_shelf.proofs.Serving.{may_still, may_behind}
use Rattle.locked_shelf.proofs.shelf.LockedShelfBook.publish.Goals as goal

pub write-requires : goal.write-requires
write-requires g c =
    let P : Held → Type 0 = λ h. MayFollow h.problem h.rows c.args.row in
    subst P (c.deref.ensures ∙ sym c.deref_mut.ensures.value)
    (may_behind c.deref.result.now c.args.seat.now c.show-serves.new.seat c.args.row c.show-serves.ensures.caught (c.if-serves.ensures.served refl) c.requires.row)

pub write-requires-2-clause-row : goal.write-requires-2-clause-row
write-requires-2-clause-row g c = may_still (facts_of c.args.seat.now) (facts_of c.show-serves.new.seat) c.args.row c.show-serves.ensures.caught c.requires.row
