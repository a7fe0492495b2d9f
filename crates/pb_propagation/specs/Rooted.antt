-- What lasts from line to line is forced by the forms so far.
use Rattle.std.specs.Prelude.{List}
use Rattle.proof_theory.specs.Forms.{Form}
use Rattle.log_theory.specs.Tables.{Table, all_forms}
use Rattle.pb_propagation.specs.Led.{Led, nothing}
use Rattle.pb_propagation.specs.Levels.{TwoLevels, root}

-- Without assumptions the forms of the model and of the table lead to what lasts.
pub record IsRooted (model : List Form) (t : Table) (l : TwoLevels) : Type 0 where
  pub led : Led nothing (all_forms model t) (root l)
