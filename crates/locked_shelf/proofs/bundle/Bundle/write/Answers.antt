-- A row that may follow keeps the rows sound.
use Rattle.std.proofs.Common.{sym, subst, List}
use Rattle.nogood_book.specs.declared.row.Row.{Row}
use Rattle.nogood_book.specs.Rows.{Sound, MayFollow}
use Rattle.nogood_book.proofs.Paths.{sound_snoc}
use Rattle.locked_shelf.specs.Shelf.{Held}
use Rattle.locked_shelf.proofs.bundle.Bundle.write.Goals as goal

pub invariant_of-self : goal.invariant_of-self
invariant_of-self c =
    let P : Held → Type 0 = λ h. MayFollow h.problem h.rows c.args.row in
    let Q : List Row → Type 0 = Sound c.self.inside.problem.now in
    subst Q (sym c.push_reserved.ensures.items) (sound_snoc _ _ _ c.self.invariant (subst P (sym c.self.view_is) c.requires))
