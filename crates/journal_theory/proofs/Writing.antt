-- Lines that step are an accepted text where the last one's form is plainly false.
use Rattle.std.proofs.Common.{◌≡◌, ℕ, ◌≤◌, Bool, true, List, [], ◌∷◌, ◌++◌, length, map, Option, Some, Result, Ok, refl, ap, ◌∙◌, subst, arith}
use Rattle.std.proofs.lemmas.Bool.{eq-eqb}
use Rattle.proof_theory.specs.Forms.{Form}
use Rattle.proof_theory.specs.Rules.{is_contradiction}
use Rattle.log_theory.specs.declared.profile.Profile.TheVariants.{Hinted}
use Rattle.log_theory.specs.declared.step.Ref.{Ref}
use Rattle.log_theory.specs.declared.step.Step.{Step}
use Rattle.log_theory.specs.declared.step.Step.TheVariants.{Head, Model, P, U, N, D, E, Y, Q}
use Rattle.log_theory.specs.declared.step.Cause.{Cause}
use Rattle.log_theory.specs.declared.step.Cause.TheVariants.{Form as Malformed, NotFalse}
use Rattle.log_theory.specs.declared.step.Verdict.TheVariants.{Unsatisfiable}
use Rattle.log_theory.specs.Steps.{◌>>=◌, unless, or_fault}
use Rattle.log_theory.specs.LogText.{step_words}
use Rattle.log_theory.specs.Tables.{Table, empty_table, find, step_of}
use Rattle.log_theory.specs.Verdicts.{in_range, step_variables, Stage, Counting, Proving, Goes, Ends, progress_of, further_progress, refuted_by}
use Rattle.log_theory.specs.Acceptance.{NoFeed, AreLines, Runs}
use Rattle.log_theory.proofs.Splitting.{AllBetween, joined_bytes}
use Rattle.log_theory.proofs.StepReadBack.{words_step, step_read_back}
use Rattle.journal_theory.specs.Stepping.{StepsRun, step_line, IsWritten, AreWritten, whole_log, TextLaw, NoFeedLaw, LinesLaw}

-- Bytes of words and blanks are no line ends.
no_feed_between : (bs : List ℕ) → AllBetween 32 126 bs → NoFeed bs
no_feed_between [] h = tt
no_feed_between (b ∷ bs) h = (λ e. let low : 32 ≤ b = h.0 in omega (arith, low, e), no_feed_between bs h.2)

pub no_feed : NoFeedLaw
no_feed s h = no_feed_between (step_line s) (joined_bytes (step_words s) (words_step s h))

pub lines_are : LinesLaw
lines_are [] = refl
lines_are (s ∷ ss) = ap (λ (rest : List ℕ). (step_line s ++ 10 ∷ []) ++ rest) (lines_are ss)

pub are_lines : (n : ℕ) (steps : List Step) → AreWritten n steps → AreLines (map step_line steps)
are_lines n [] w = tt
are_lines n (s ∷ ss) w = (no_feed s w.0.is_step, are_lines n ss w.1)

-- A line of a log with hints leads where its step does, behind the first one.
pub line_goes : (n : ℕ) (model : List Form) (stage : Stage) (s : Step) → IsWritten n s → further_progress n model Hinted stage (step_line s) ≡ progress_of model stage s
line_goes n model stage s w =
    ap (λ (o : Option Step). or_fault o Malformed >>= λ x. unless (in_range n (step_variables x)) Malformed >>= λ _. progress_of model stage x) (step_read_back s w.is_step)
    ∙ ap (λ (b : Bool). unless b Malformed >>= λ _. progress_of model stage s) w.variables

-- A step that makes a table is a line of a proof that leads there.
pub step_goes : (model : List Form) (t m : Table) (s : Step) → step_of model t s ≡ Ok m → progress_of model (Proving Hinted t) s ≡ Ok (Goes (Proving Hinted m))
step_goes model t m (P name ops) h = ap (λ (x : Result Table Cause). x >>= λ u. Ok (Goes (Proving Hinted u))) h
step_goes model t m (U name lits refs) h = ap (λ (x : Result Table Cause). x >>= λ u. Ok (Goes (Proving Hinted u))) h
step_goes model t m (N row name) h = ap (λ (x : Result Table Cause). x >>= λ u. Ok (Goes (Proving Hinted u))) h
step_goes model t m (D at) h = ap (λ (x : Result Table Cause). x >>= λ u. Ok (Goes (Proving Hinted u))) h
step_goes model t m Head h = absurd cc
step_goes model t m (Model k) h = absurd cc
step_goes model t m (E at) h = absurd cc
step_goes model t m (Y ones) h = absurd cc
step_goes model t m Q h = absurd cc

-- The last line ends the log.
last_ends : (model : List Form) (t : Table) (at : Ref) (f : Form) → find model t at ≡ Some f → is_contradiction f ≡ true → progress_of model (Proving Hinted t) (E at) ≡ Ok (Ends Unsatisfiable)
last_ends model t at f found false_ = ap refuted_by found ∙ ap (λ (b : Bool). unless b NotFalse >>= λ _. Ok (Ends Unsatisfiable)) false_

-- Lines that step, and the last one, run to the end.
runs_on : (n : ℕ) (model : List Form) (steps : List Step) (at : Ref) (t u : Table) (f : Form) → AreWritten n (steps ++ E at ∷ []) → StepsRun model t steps u
    → find model u at ≡ Some f → is_contradiction f ≡ true → Runs n model (Goes (Proving Hinted t)) (map step_line (steps ++ E at ∷ [])) (Ends Unsatisfiable)
runs_on n model [] at t u f w run found false_ =
    (Ends Unsatisfiable, (line_goes n model (Proving Hinted t) (E at) w.0 ∙ last_ends model t at f (subst (λ (x : Table). find model x at ≡ Some f) run found) false_, refl))
runs_on n model (s ∷ ss) at t u f w run found false_ =
    (Goes (Proving Hinted run.0), (line_goes n model (Proving Hinted t) s w.0 ∙ step_goes model t run.0 s run.1, runs_on n model ss at run.0 u f w.1 run.2 found false_))

pub text_accepted : TextLaw
text_accepted n model steps at t f written run found false_ = record {
  lines = map step_line (whole_log model steps at);
  are_lines = are_lines n (whole_log model steps at) written;
  text = refl;
  runs = (Goes (Counting Hinted), (refl, (Goes (Proving Hinted empty_table), (line_goes n model (Counting Hinted) (Model (length model)) written.1.0 ∙ counted, runs_on n model steps at empty_table t f written.1.1 run found false_))));
}
  where
    counted : progress_of model (Counting Hinted) (Model (length model)) ≡ Ok (Goes (Proving Hinted empty_table))
    counted = ap (λ (b : Bool). unless b Malformed >>= λ _. Ok (Goes (Proving Hinted empty_table))) (eq-eqb (length model) (length model) refl)
