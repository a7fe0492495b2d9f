-- What a whole log shows over a model: the claim of its last line, or its first faulty line with its first cause.
use Rattle.std.specs.Prelude.{ℕ, ◌+◌, ⊤, Bool, true, ◌==◌, ◌&&◌, nat_lt, nat_le, List, [], ◌∷◌, length, Option, Result, Ok, Err, int_le}
use Rattle.log_theory.specs.declared.profile.Profile.{Profile}
use Rattle.log_theory.specs.declared.step.Op.{Op}
use Rattle.log_theory.specs.declared.step.Op.TheVariants.{Axiom}
use Rattle.log_theory.specs.declared.step.Step.{Step}
use Rattle.log_theory.specs.declared.step.Step.TheVariants.{Model, P, U, E, Y, Q}
use Rattle.log_theory.specs.declared.step.Cause.{Cause}
use Rattle.log_theory.specs.declared.step.Cause.TheVariants.{EndsEarly, Form as Malformed, Twice, NoSuchName, NotFalse, NotSolution}
use Rattle.log_theory.specs.declared.step.Verdict.{Verdict}
use Rattle.log_theory.specs.declared.step.Verdict.TheVariants.{Unsatisfiable, Satisfiable, Undecided, Refused}
use Rattle.proof_theory.specs.Forms.{Form, value}
use Rattle.proof_theory.specs.Rules.{is_contradiction}
use Rattle.log_theory.specs.Steps.{◌>>=◌, unless, or_fault}
use Rattle.log_theory.specs.Words.{pieces}
use Rattle.log_theory.specs.Profiles.{read_in, profile_of}
use Rattle.log_theory.specs.Lookups.{is_among, are_distinct, variables_of}
use Rattle.log_theory.specs.Tables.{Table, empty_table, find, step_in}

-- Whether the form holds under an assignment.
abbrev pub holds_at : (ℕ → Bool) → Form → Bool
holds_at a f = int_le f.bound (value a f.terms)

-- Whether every form of a list holds.
abbrev pub all_hold_at : (ℕ → Bool) → List Form → Bool
all_hold_at a [] = true
all_hold_at a (f ∷ fs) = holds_at a f && all_hold_at a fs

-- Whether each variable is one of the model's n, numbered from 1.
abbrev pub in_range : ℕ → List ℕ → Bool
in_range n [] = true
in_range n (v ∷ vs) = nat_lt 0 v && nat_le v n && in_range n vs

-- The variables of a line's axioms.
abbrev pub axiom_variables : List Op → List ℕ
axiom_variables [] = []
axiom_variables (Axiom l ∷ os) = l.variable ∷ axiom_variables os
axiom_variables (o ∷ os) = axiom_variables os

-- The variables that a line names.
abbrev pub step_variables : Step → List ℕ
step_variables (P name ops) = axiom_variables ops
step_variables (U name lits refs) = variables_of lits
step_variables (Y ones) = ones
step_variables _ = []

-- Where a log stands: before its first line, which tells its profile, before its second, or behind both with a table.
pub data Stage : Type 0 where
  Opening : Stage
  Counting : Profile → Stage
  Proving : Profile → Table → Stage

-- What a line leads to: another stage, or the end with a verdict.
pub data Progress : Type 0 where
  Goes : Stage → Progress
  Ends : Verdict → Progress

-- The claim of `e`: the form is plainly false.
abbrev pub refuted_by : Option Form → Result Progress Cause
refuted_by o = or_fault o NoSuchName >>= λ f. unless (is_contradiction f) NotFalse >>= λ _. Ok
    (Ends Unsatisfiable)

-- The claim of `y`: the model holds where exactly these variables are one.
abbrev pub solved_by : List Form → List ℕ → Result Progress Cause
solved_by model ones = unless (are_distinct ones) Twice >>= λ _. unless (all_hold_at
    (λ v. is_among v ones) model) NotSolution >>= λ _. Ok (Ends Satisfiable)

-- What a step leads to behind the first line.
abbrev pub progress_of : List Form → Stage → Step → Result Progress Cause
progress_of model (Counting profile) (Model m) = unless (m == length model) Malformed >>= λ _. Ok
    (Goes (Proving profile empty_table))
progress_of model (Proving profile t) (E at) = refuted_by (find model t at)
progress_of model (Proving profile t) (Y ones) = solved_by model ones
progress_of model (Proving profile t) Q = Ok (Ends Undecided)
progress_of model (Proving profile t) s = step_in profile model t s >>= λ u. Ok (Goes
    (Proving profile u))
progress_of model stage s = Err Malformed

-- What a line of a profile leads to behind the first one: its grammar comes first, then the range of its variables.
abbrev pub further_progress : ℕ → List Form → Profile → Stage → List ℕ → Result Progress Cause
further_progress n model profile stage line =
    or_fault (read_in profile line) Malformed >>= λ s. unless (in_range n
    (step_variables s)) Malformed >>= λ _. progress_of model stage s

-- What a line leads to: the first one tells the profile in which all others are read.
abbrev pub line_progress : ℕ → List Form → Stage → List ℕ → Result Progress Cause
line_progress n model Opening line = or_fault (profile_of line) Malformed >>= λ profile. Ok (Goes
    (Counting profile))
line_progress n model (Counting profile) line = further_progress n model profile
    (Counting profile) line
line_progress n model (Proving profile t) line = further_progress n model profile
    (Proving profile t) line

-- The verdict where nothing but the end of the text follows, else the refusal of the next line, k.
abbrev pub at_end : ℕ → Verdict → List (List ℕ) → Verdict
at_end k v ([] ∷ []) = v
at_end k v rest = Refused k Malformed

-- The answer at line k with these pieces behind it: its own fault, the end of the log, or what the next stage makes of the rest.
abbrev pub go_on : ℕ → List (List ℕ) → Result Progress Cause → (Stage → Verdict) → Verdict
go_on k rest (Err cause) more = Refused k cause
go_on k rest (Ok (Ends v)) more = at_end (k + 1) v rest
go_on k rest (Ok (Goes stage)) more = more stage

-- A line has to end with an LF, so that a piece stands behind it.
abbrev pub when_ended : ℕ → List (List ℕ) → Result Progress Cause → (Stage → Verdict) → Verdict
when_ended k [] progress more = Refused k EndsEarly
when_ended k (m ∷ ms) progress more = go_on k (m ∷ ms) progress more

-- The verdict of a text from line k on, cut at its LFs.
abbrev pub verdict_from : ℕ → List Form → Stage → ℕ → List (List ℕ) → Verdict
verdict_from n model stage k [] = Refused k EndsEarly
verdict_from n model stage k (l ∷ rest) = when_ended k rest (line_progress n model stage l)
    (λ next. verdict_from n model next (k + 1) rest)

-- The verdict of a log over a model with n variables.
abbrev pub verdict_of : ℕ → List Form → List ℕ → Verdict
verdict_of n model log = verdict_from n model Opening 1 (pieces (λ b. b == 10) log)

-- The log is accepted with a claim.
abbrev pub IsClaim : Verdict → Type 0
IsClaim Unsatisfiable = ⊤
IsClaim Satisfiable = ⊤
IsClaim Undecided = ⊤
IsClaim _ = ⊥
