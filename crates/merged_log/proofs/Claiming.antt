-- A head and a last line are accepted.
use Rattle.std.proofs.Common.{◌≡◌, ℕ, ◌^◌, ◌<◌, ◌&&◌, Bool, true, List, [], ◌∷◌, length, map, Ok, refl, sym, ap, ◌∙◌, arith}
use Rattle.std.proofs.lemmas.Bool.{eq-eqb}
use Rattle.std.proofs.lemmas.Grind.{common_steps}
use Rattle.proof_theory.specs.Forms.{Form, Holds, Satisfies}
use Rattle.log_theory.specs.declared.profile.Profile.TheVariants.{Hinted}
use Rattle.log_theory.specs.declared.step.Step.{Step}
use Rattle.log_theory.specs.declared.step.Step.TheVariants.{Head, Model, Y, Q}
use Rattle.log_theory.specs.declared.step.Cause.TheVariants.{Form as Malformed, Twice, NotSolution}
use Rattle.log_theory.specs.declared.step.Verdict.{Verdict}
use Rattle.log_theory.specs.declared.step.Verdict.TheVariants.{Satisfiable, Undecided}
use Rattle.log_theory.specs.Steps.{◌>>=◌, unless}
use Rattle.log_theory.specs.Lookups.{is_among}
use Rattle.log_theory.specs.LogText.{AreOnes}
use Rattle.log_theory.specs.Tables.{empty_table}
use Rattle.log_theory.specs.Verdicts.{holds_at, all_hold_at, Counting, Proving, Goes, Ends, progress_of}
use Rattle.log_theory.specs.Acceptance.{Accepts}
use Rattle.journal_theory.specs.Stepping.{step_line, IsWritten}
use Rattle.journal_theory.proofs.Writing.{are_lines, line_goes}
use Rattle.merged_log.specs.Steps.{log_text}
use Rattle.merged_log.specs.Answers.{undecided, solution, Solves}

-- A last line that ends a log with a verdict, behind a head.
ends_log : (n lines : ℕ) (model : List Form) (s : Step) (v : Verdict) → lines < 2 ^ 63 → length model ≡ lines → IsWritten n s → progress_of model (Proving Hinted empty_table) s ≡ Ok (Ends v)
    → Accepts n model (log_text (Head ∷ Model lines ∷ s ∷ [])) v
ends_log n lines model s v fits count written ends =
    let head : IsWritten n Head = record { is_step = tt; variables = refl } in
    let second : IsWritten n (Model lines) = record { is_step = fits; variables = refl } in
    let same : lines ≡ length model = sym count in
    let counted : progress_of model (Counting Hinted) (Model lines) ≡ Ok (Goes (Proving Hinted empty_table)) =
    ap (λ (b : Bool). unless b Malformed >>= λ _. Ok (Goes (Proving Hinted empty_table))) (eq-eqb lines (length model) same) in record {
      lines = map step_line (Head ∷ Model lines ∷ s ∷ []);
      are_lines = are_lines n (Head ∷ Model lines ∷ s ∷ []) (head, (second, (written, tt)));
      text = refl;
      runs = (
        Goes (Counting Hinted),
        (refl, (Goes (Proving Hinted empty_table), (line_goes n model (Counting Hinted) (Model lines) second ∙ counted, (Ends v, (line_goes n model (Proving Hinted empty_table) s written ∙ ends, refl))))),
      );
    }

pub undecided_accepted : (n lines : ℕ) (model : List Form) → lines < 2 ^ 63 → length model ≡ lines → Accepts n model (log_text (undecided lines)) Undecided
undecided_accepted n lines model fits count = ends_log n lines model Q Undecided fits count (record { is_step = tt; variables = refl }) refl

holds_test : (a : ℕ → Bool) (f : Form) → Holds f a → holds_at a f ≡ true
holds_test a f h = let r = h.reached in grind (arith, common_steps)

all_tests : (a : ℕ → Bool) (fs : List Form) → Satisfies fs a → all_hold_at a fs ≡ true
all_tests a [] h = refl
all_tests a (f ∷ fs) h = ap (λ (b : Bool). b && all_hold_at a fs) (holds_test a f h.0) ∙ all_tests a fs h.1

pub solution_accepted : (n lines : ℕ) (model : List Form) (ones : List ℕ) → lines < 2 ^ 63 → AreOnes ones → length model ≡ lines → Solves n model ones
    → Accepts n model (log_text (solution lines ones)) Satisfiable
solution_accepted n lines model ones fits are count solves =
    ends_log n lines model (Y ones) Satisfiable fits count (record { is_step = are; variables = solves.range })
    (ap (λ (b : Bool). unless b Twice >>= λ _. unless (all_hold_at (λ v. is_among v ones) model) NotSolution >>= λ _. Ok (Ends Satisfiable)) solves.apart
    ∙ ap (λ (b : Bool). unless b NotSolution >>= λ _. Ok (Ends Satisfiable)) (all_tests (λ v. is_among v ones) model solves.holds))
