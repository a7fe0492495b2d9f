-- The merged log is accepted: its numbers are in their ranges, since the lines of each journal are.
use Rattle.std.proofs.Common.{inl, inr, ◌≡◌, ℕ, zero, suc, ◌+◌, ◌^◌, ◌<◌, ◌≤◌, true, List, [], ◌∷◌, ◌++◌, length, Some, sym, ap, subst, ◌∙◌, arith}
use Rattle.std.specs.Prelude.{slice_get}
use Rattle.std.proofs.lemmas.Bool.{cases_lt}
use Rattle.std.proofs.lemmas.List.{get_or_past}
use Rattle.proof_theory.specs.Forms.{Form}
use Rattle.proof_theory.specs.Rules.{is_contradiction}
use Rattle.log_theory.specs.declared.step.Ref.TheVariants.{Made}
use Rattle.log_theory.specs.declared.step.Step.{Step}
use Rattle.log_theory.specs.declared.step.Step.TheVariants.{Head, Model, E}
use Rattle.log_theory.specs.declared.step.Verdict.TheVariants.{Unsatisfiable}
use Rattle.log_theory.specs.LogText.{IsStep}
use Rattle.log_theory.specs.Tables.{from_one}
use Rattle.log_theory.specs.Acceptance.{Accepts}
use Rattle.nogood_book.specs.declared.row.Row.{Row as BookRow}
use Rattle.journals.specs.Keeping.{Keeping, AreSteps}
use Rattle.journal_theory.specs.Stepping.{IsWritten}
use Rattle.journal_theory.specs.Journals.{named, numbered, Journal, no_journal}
use Rattle.journal_theory.specs.Merging.{journal_of, merged, last_name, AreJournals, AreFitting}
use Rattle.journal_theory.specs.Laws.{MergeLaws}
use Rattle.journal_theory.proofs.Placing.{get_some}
use Rattle.merged_log.specs.Steps.{journals_in, rows_in, refutation, log_text, StandAtOwners, AllWritten, IsWrittenDown, AreInRange}
use Rattle.merged_log.proofs.RowSteps.{journal_here, long_in, rows_long}

-- The first so many journals are written down.
abbrev pub WrittenTo : List Keeping → ℕ → Type 0
WrittenTo js n = (w : ℕ) (j : Keeping) → slice_get js w ≡ Some j → w < n → IsWrittenDown j

same_item : (js : List Keeping) (i w : ℕ) (j k : Keeping) → slice_get js i ≡ Some j → slice_get js w ≡ Some k → w ≡ i → j ≡ k
same_item js i w j k here at e = let f = ap (slice_get js) e in cc

pub written_more : (js : List Keeping) (i : ℕ) (j : Keeping) → slice_get js i ≡ Some j → IsWrittenDown j → WrittenTo js i → WrittenTo js (i + 1)
written_more js i j here down before w k at l =
    elim (cases_lt w i) [
      | inl h ↦ before w k at h
      | inr h ↦ subst (λ (x : Keeping). IsWrittenDown x) (same_item js i w j k here at (omega (arith, h, l))) down
    ]

step_at : (ss : List Step) (i : ℕ) (s : Step) → AreSteps ss → slice_get ss i ≡ Some s → IsStep s
step_at [] i s are at = absurd cc
step_at (x ∷ xs) zero s are at = let same : x ≡ s = cc in subst IsStep same are.0
step_at (x ∷ xs) (suc i) s are at = step_at xs i s are.1 at

name_at : (w a : ℕ) (ss : List Step) (i : ℕ) (s : Step) → numbered w a ss ≡ ss → slice_get ss i ≡ Some s → named w (a + i) s ≡ s
name_at w a [] i s names at = absurd cc
name_at w a (x ∷ xs) zero s names at =
    let same : x ≡ s = cc in
    let first : named w a x ≡ x = cc in
    let e : a + 0 ≡ a = omega arith in
    ap (λ (k : ℕ). named w k s) e ∙ subst (λ (y : Step). named w a y ≡ y) same first
name_at w a (x ∷ xs) (suc i) s names at =
    let rest : numbered w (a + 1) xs ≡ xs = cc in
    let e : a + suc i ≡ a + 1 + i = omega arith in
    ap (λ (k : ℕ). named w k s) e ∙ name_at w (a + 1) xs i s rest at

module _ (n lines : ℕ) (js : List Keeping) (down : AllWritten js) (owners : StandAtOwners js) where
  short : (w : ℕ) → length (journal_of (journals_in js) w).lines < 2 ^ 63
  short w =
      elim (cases_lt w (length js)) [
        | inl h ↦ (
            let j = get_some js w h in
            let few = (down w j.0 j.1).few in
            let same = ap (λ (x : Journal). length x.lines) (journal_here js w j.0 j.1) in
            omega (arith, few, same)
            )
        | inr h ↦ (
            let past = ap (λ (x : Journal). length x.lines) (get_or_past (journals_in js) w no_journal (omega (arith, h, long_in js))) in
            omega (arith, past)
            )
      ]

  lines_fit : AreInRange n (journals_in js) → (w i : ℕ) (s : Step) → w < length (journals_in js) → slice_get (journal_of (journals_in js) w).lines i ≡ Some s → IsWritten n (named w i s)
  lines_fit range w i s inside at =
      let j = get_some js w (omega (arith, inside, long_in js)) in
      let here : slice_get j.0.steps i ≡ Some s = ap (λ (x : Journal). slice_get x.lines i) (sym (journal_here js w j.0 j.1)) ∙ at in
      let d = down w j.0 j.1 in
      let names : numbered w 0 j.0.steps ≡ j.0.steps = subst (λ (v : ℕ). numbered v 0 j.0.steps ≡ j.0.steps) (owners w j.0 j.1) d.names in
      let e : 0 + i ≡ i = omega arith in
      let name : s ≡ named w i s = sym (ap (λ (k : ℕ). named w k s) (sym e) ∙ name_at w 0 j.0.steps i s names here) in
      subst (λ (x : Step). IsWritten n x) name (record { is_step = step_at j.0.steps i s d.ranges here; variables = range w i s inside at })

pub refutation_accepted : (laws : MergeLaws) (lines n : ℕ) (model : List Form) (js : List Keeping) (rows : List BookRow) (clause : ℕ → Form) (forms : ℕ → List Form) (f : ℕ) (last : Form)
    → AllWritten js → StandAtOwners js → lines < 2 ^ 63 → length rows ≤ 4194304 → f < length js → length model ≡ lines
    → AreJournals model (rows_in rows) clause (journals_in js) forms → AreInRange n (journals_in js)
    → from_one (forms f) (length (journal_of (journals_in js) f).lines) ≡ Some last → is_contradiction last ≡ true
    → Accepts n model (log_text (refutation lines js rows f)) Unsatisfiable
refutation_accepted laws lines n model js rows clause forms f last down owners fits many inside count all range found false_ =
    let fitting : AreFitting n model (rows_in rows) (journals_in js) = record {
      model_fits = omega (arith, fits, count);
      rows_fit = omega (arith, many, rows_long rows);
      short = short n lines js down owners;
      lines_fit = lines_fit n lines js down owners range;
    } in
    subst (λ (m : ℕ). Accepts n model (log_text (Head ∷ Model m ∷ (merged (journals_in js) f (rows_in rows) ++ E (Made (last_name (journals_in js) f)) ∷ []))) Unsatisfiable) count
    (laws.accepted n model (rows_in rows) clause (journals_in js) forms f last all fitting (omega (arith, inside, long_in js)) found false_)
