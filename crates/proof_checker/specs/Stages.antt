-- The stage that a checker's place stands for.
use Rattle.std.specs.Prelude.{◌≡◌}
use Rattle.log_theory.specs.Tables.{Table, empty_table}
use Rattle.log_theory.specs.Verdicts.{Stage}
use Rattle.log_theory.specs.Verdicts as verdicts
use Rattle.proof_checker.specs.declared.line_checker.Place.{Place}
use Rattle.proof_checker.specs.declared.line_checker.Place.TheVariants.{Opening, Counting, Proving}

abbrev pub stage_of : Place → Table → Stage
stage_of Opening t = verdicts.Opening
stage_of (Counting profile) t = verdicts.Counting profile
stage_of (Proving profile) t = verdicts.Proving profile t

-- Before both head lines nothing is made.
abbrev pub StandsWith : Place → Table → Type 0
StandsWith Opening t = t ≡ empty_table
StandsWith (Counting profile) t = t ≡ empty_table
StandsWith (Proving profile) t = Unit {0}
