-- Hints found for lines that have none.
use Rattle.std.specs.Prelude.{◌≡◌, ℕ, Bool, true, false, List, ◌++◌, Ok}
use Rattle.log_theory.specs.declared.profile.Profile.TheVariants.{Plain}
use Rattle.log_theory.specs.declared.step.Name.{Name}
use Rattle.log_theory.specs.declared.step.Ref.{Ref}
use Rattle.log_theory.specs.declared.step.Step.{Step}
use Rattle.proof_theory.specs.Forms.{Form}
use Rattle.proof_theory.specs.Slack.{Setting, conflict, after, refutes}
use Rattle.log_theory.specs.LogText.{IsStep}
use Rattle.log_theory.specs.Profiles.{told_in}
use Rattle.log_theory.specs.Lookups.{Lookup, find_all}
use Rattle.log_theory.specs.Tables.{Table, step_in}
use Rattle.trim_theory.specs.Trimming.{LineStands}
use Rattle.proof_trim.specs.declared.hints.Followed.{Followed}
use Rattle.proof_trim.specs.declared.hints.Followed.TheVariants.{Idle, Moved, Conflict}

-- What following a form once has done: nothing, or all that it forces is set, or it is a conflict.
abbrev pub FollowsOnce : Followed → Setting → Form → Setting → Type 0
FollowsOnce Idle s f t = (v : ℕ) → t v ≡ s v
FollowsOnce Moved s f t = (conflict s f ≡ false) × ((v : ℕ) → t v ≡ after s f v)
FollowsOnce Conflict s f t = conflict s f ≡ true

-- The references name forms that lead from one setting to another.
pub record LeadsTo (look : Lookup) (s : Setting) (refs : List Ref) (t : Setting) : Type 0 where
  pub forms : List Form
  pub found : find_all look refs ≡ Ok forms
  pub leads : (gs : List Form) → refutes t gs ≡ true → refutes s (forms ++ gs) ≡ true

-- The references name forms that refute.
pub record IsRefuted (look : Lookup) (s : Setting) (refs : List Ref) : Type 0 where
  pub forms : List Form
  pub found : find_all look refs ≡ Ok forms
  pub refuted : refutes s forms ≡ true

-- The references refute, or lead on.
abbrev pub LeadsOn : Bool → Lookup → Setting → List Ref → Setting → Type 0
LeadsOn true look s refs t = IsRefuted look s refs
LeadsOn false look s refs t = LeadsTo look s refs t

-- A line of a log without hints with hints of its own, and the table behind it.
pub record IsReplayed (model : List Form) (old : Table) (step s : Step)
    (new : Table) : Type 0 where
  pub told : told_in Plain s ≡ step
  pub hints : (keep : Name → Bool) → LineStands Plain keep model old s
  pub goes : (u : Table) → step_in Plain model old step ≡ Ok u → new ≡ u
  pub in_range : IsStep s
