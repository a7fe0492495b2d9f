-- Four rows of a book, and the names of their lines for owner 1.

use Rattle.std.specs.Prelude.{ℕ, ◌==◌, cond, List, [], ◌∷◌, None, Some}
use Rattle.log_theory.specs.declared.step.Ref.{Ref}
use Rattle.log_theory.specs.declared.step.Ref.TheVariants.{Made, Shared}
use Rattle.nogood_book.specs.declared.row.Row.{Row}
use Rattle.nogood_book.specs.declared.row.RowKind.TheVariants.{Step, Nogood}

-- Of owner 2 that 0 is not at 0, and that it is not at 1 with 1 at 0; of owner 1 that 0 is not at 1.
abbrev pub shared_rows : List Row
shared_rows =
    record { kind = Nogood; owner = 2; parent = None; vertex = 0; value = 0 }
    ∷ record { kind = Step; owner = 2; parent = None; vertex = 0; value = 1 }
    ∷ record { kind = Nogood; owner = 2; parent = Some 1; vertex = 1; value = 0 }
    ∷ record { kind = Nogood; owner = 1; parent = None; vertex = 0; value = 1 }
    ∷ []

-- The row of owner 1 by its line, all others by their places.
abbrev pub shared_name : ℕ → Ref
shared_name k = cond (k == 3) (Made (record { owner = 1; number = 1 })) (Shared k)
