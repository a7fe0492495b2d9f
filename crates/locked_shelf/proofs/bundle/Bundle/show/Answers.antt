-- A seat that the rows do not serve stays; one that they serve has seen them all.
use Rattle.std.proofs.Common.{◌∙◌, subst, sym, ap, refl, List}
use Rattle.nogood_book.specs.declared.row.Row.{Row}
use Rattle.nogood_book.specs.Facts.{CaughtUp}
use Rattle.locked_shelf.specs.Shelf.{facts_of, Held, Serves, ShelfView}
use Rattle.locked_shelf.proofs.Serving.{caught_alone, caught_up}
use Rattle.locked_shelf.proofs.bundle.Bundle.show.Goals as goal

pub returns-then-not-serves-clause-caught : goal.returns-then-not-serves-clause-caught
returns-then-not-serves-clause-caught c = caught_alone c.args.seat.now c.serves.ensures.kept.sound

pub returns-clause-caught : goal.returns-clause-caught
returns-clause-caught c =
    let s = c.args.seat.now in
    let P : Held → Type 0 = λ h. Serves h s in
    let Q : ShelfView → Type 0 = λ t. CaughtUp (facts_of s) (facts_of t) in
    let new_ = c.take_up.ensures ∙ ap (λ (rows : List Row). record s { seen = rows }) c.deref.ensures.value in
    subst Q (sym new_) (caught_up _ s c.self.invariant (subst P (sym c.self.view_is) (c.if-not-serves.ensures.serves refl)))
