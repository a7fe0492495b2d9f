-- The trimmed log is accepted with the same claim wherever the whole one is.
use Rattle.std.proofs.Common.{◌≡◌, ℕ, suc, ◌<◌, ◌^◌, Bool, List, [], ◌∷◌, ◌++◌, length, map, Some, Ok, refl, sym, ap, ◌∙◌, subst, arith}
use Rattle.std.proofs.lemmas.Bool.{eq-eqb}
use Rattle.log_theory.specs.declared.profile.Profile.{Profile}
use Rattle.log_theory.specs.declared.profile.Profile.TheVariants.{Hinted}
use Rattle.log_theory.specs.declared.step.Ref.{Ref}
use Rattle.log_theory.specs.declared.step.Step.{Step}
use Rattle.log_theory.specs.declared.step.Step.TheVariants.{Model, E, Y, Q}
use Rattle.log_theory.specs.declared.step.Cause.TheVariants.{Form as Malformed, NoSuchName}
use Rattle.log_theory.specs.declared.step.Verdict.{Verdict}
use Rattle.proof_theory.specs.Forms.{Form}
use Rattle.log_theory.specs.Steps.{◌>>=◌, unless, or_fault}
use Rattle.log_theory.specs.Profiles.{told_in}
use Rattle.log_theory.specs.Lookups.{Lookup}
use Rattle.log_theory.specs.Tables.{Table, empty_table, find}
use Rattle.log_theory.specs.Verdicts.{Counting, Proving, Goes, Ends, refuted_by, progress_of}
use Rattle.log_theory.specs.Acceptance.{lines_text, Runs, Accepts}
use Rattle.log_theory.proofs.LogSound.{bind_ok, or_fault_ok}
use Rattle.journal_theory.specs.Referring.{step_refs}
use Rattle.journal_theory.specs.Stepping.{StepsRun, step_line, AreWritten}
use Rattle.journal_theory.proofs.Writing.{are_lines, line_goes, step_goes}
use Rattle.trim_theory.specs.Renaming.{Renaming, RefsRenamed, EndRenamed, Follows}
use Rattle.trim_theory.specs.Running.{own_look, with_deletions}
use Rattle.trim_theory.specs.Trimming.{StepsIn, kept_names, ToKept}
use Rattle.trim_theory.specs.Logs.{ended_log}
use Rattle.trim_theory.specs.Laws.{TrimLaw}
use Rattle.trim_theory.proofs.Simulating.{simulation}
use Rattle.trim_theory.proofs.Keeping.{keeping}
use Rattle.trim_theory.proofs.Writing.{AreInRange, hinted_written, trimmed_written}
use Rattle.trim_theory.proofs.Telling.{steps_told}

-- ---- the text of steps that lead to a claim

runs_on : (n : ℕ) (model : List Form) (steps : List Step) (end : Step) (t u : Table) (claim : Verdict) → AreWritten n (steps ++ end ∷ []) → StepsRun model t steps u
    → progress_of model (Proving Hinted u) end ≡ Ok (Ends claim) → Runs n model (Goes (Proving Hinted t)) (map step_line (steps ++ end ∷ [])) (Ends claim)
runs_on n model [] end t u claim w run ends =
    (Ends claim, (line_goes n model (Proving Hinted t) end w.0 ∙ subst (λ (x : Table). progress_of model (Proving Hinted x) end ≡ Ok (Ends claim)) run ends, refl))
runs_on n model (s ∷ ss) end t u claim w run ends =
    (Goes (Proving Hinted run.0), (line_goes n model (Proving Hinted t) s w.0 ∙ step_goes model t run.0 s run.1, runs_on n model ss end run.0 u claim w.1 run.2 ends))

-- The text of steps that lead to a table where the last line makes its claim is accepted.
ended_accepted : (n : ℕ) (model : List Form) (steps : List Step) (end : Step) (t : Table) (claim : Verdict) → AreWritten n (ended_log model steps end) → StepsRun model empty_table steps t
    → progress_of model (Proving Hinted t) end ≡ Ok (Ends claim) → Accepts n model (lines_text (map step_line (ended_log model steps end))) claim
ended_accepted n model steps end t claim written run ends = record {
  lines = map step_line (ended_log model steps end);
  are_lines = are_lines n (ended_log model steps end) written;
  text = refl;
  runs = (Goes (Counting Hinted), (refl, (Goes (Proving Hinted empty_table), (line_goes n model (Counting Hinted) (Model (length model)) written.1.0 ∙ counted, runs_on n model steps end empty_table t claim written.1.1 run ends))));
}
  where
    counted : progress_of model (Counting Hinted) (Model (length model)) ≡ Ok (Goes (Proving Hinted empty_table))
    counted = ap (λ (b : Bool). unless b Malformed >>= λ _. Ok (Goes (Proving Hinted empty_table))) (eq-eqb (length model) (length model) refl)

-- ---- the last line

-- A last line that names the same form makes the same claim.
end_goes : (profile : Profile) (model : List Form) (z t : Table) (see : Lookup) (to : Renaming) (last end : Step) (claim : Verdict) → ((q r : Ref) → to q r → Follows (find model z) see q r)
    → EndRenamed to last end → RefsRenamed (Follows see (find model t)) (step_refs end) (step_refs end) → progress_of model (Proving profile z) last ≡ Ok (Ends claim)
    → progress_of model (Proving Hinted t) end ≡ Ok (Ends claim)
end_goes profile model z t see to (E q) (E r) claim follows h refs e =
    let b = bind_ok (or_fault (find model z q) NoSuchName) _ (Ends claim) e in
    let f : find model z q ≡ Some b.0 = or_fault_ok (find model z q) NoSuchName b.0 b.1.0 in
    ap refuted_by (refs.0 b.0 (follows q r h b.0 f)) ∙ b.1.1
end_goes profile model z t see to (Y ones) u claim follows h refs e = ap (progress_of model (Proving Hinted t)) h ∙ e
end_goes profile model z t see to Q u claim follows h refs e = ap (progress_of model (Proving Hinted t)) h ∙ e
end_goes profile model z t see to s u claim follows h refs e = absurd h

-- ---- the trimmed log

long_map : (profile : Profile) (xs : List Step) → length (map (told_in profile) xs) ≡ length xs
long_map profile [] = refl
long_map profile (x ∷ xs) = ap suc (long_map profile xs)

pub trimmed : TrimLaw
trimmed n model log text claim few a t =
    let told = steps_told n model log claim t.profile t.steps t.last a t.is_log in
    let hinted = t.trims.hinted in
    let names = kept_names t.trims.keep hinted in
    let run : StepsIn t.profile model empty_table (map (told_in t.profile) hinted) told.table = subst (λ (ss : List Step). StepsIn t.profile model empty_table ss told.table) (sym t.trims.told) told.run in
    let range : AreInRange n (map (told_in t.profile) hinted) = subst (AreInRange n) (sym t.trims.told) told.variables in
    let hinted_few : length hinted < 2 ^ 63 = (let l = t.few in omega (arith, l, ap (λ (ss : List Step). length ss) t.trims.told, long_map t.profile hinted)) in
    let kept = keeping t.profile model hinted told.table t.trims.keep t.trims.lines run t.trims.hints t.trims.renamed in
    let simulated = simulation model t.trims.lines t.end kept.0 kept.1 in
    let written = trimmed_written n model t.trims.keep hinted t.trims.lines t.last t.end few hinted_few (hinted_written n t.profile hinted t.in_range range)
    (record { is_step = t.last_in_range; variables = told.last_variables }) t.trims.renamed t.trims.ends in
    let ends = end_goes t.profile model told.table simulated.0 (own_look model kept.0) (ToKept hinted names) t.last t.end claim kept.2 t.trims.ends simulated.2 told.ends in
    let accepted = ended_accepted n model (with_deletions 0 t.trims.lines t.end) t.end simulated.0 claim written simulated.1 ends in
    subst (λ (x : List ℕ). Accepts n model x claim) (ap (λ (out : List Step). lines_text (map step_line (ended_log model out t.end))) (sym t.trims.deleted) ∙ sym t.text_is) accepted
