-- All numbers of a trimmed log are in their ranges.
use Rattle.std.proofs.Common.{◌≡◌, ℕ, zero, suc, ◌+◌, ◌<◌, ◌≤◌, ◌^◌, Bool, true, false, cond, not, ◌&&◌, List, [], ◌∷◌, ◌++◌, length, map, refl, sym, ap, ◌∙◌, subst, arith}
use Rattle.std.proofs.lemmas.Option.{slice_get_within}
use Rattle.log_theory.specs.declared.profile.Profile.{Profile}
use Rattle.log_theory.specs.declared.profile.Profile.TheVariants.{Hinted, Plain}
use Rattle.proof_theory.specs.declared.literal.Literal.{Literal}
use Rattle.log_theory.specs.declared.step.Name.{Name}
use Rattle.log_theory.specs.declared.step.Op.{Op}
use Rattle.log_theory.specs.declared.step.Op.TheVariants.{Push, Axiom, Add, Times, Divide, Saturate}
use Rattle.log_theory.specs.declared.step.Ref.{Ref}
use Rattle.log_theory.specs.declared.step.Ref.TheVariants.{Line, Made, Shared}
use Rattle.log_theory.specs.declared.step.Step.{Step}
use Rattle.log_theory.specs.declared.step.Step.TheVariants.{Head, Model, P, U, N, D, E, Y, Q}
use Rattle.proof_theory.specs.Forms.{Form}
use Rattle.log_theory.specs.LogText.{IsName, IsRef, AreRefs, AreLiterals, AreOps}
use Rattle.log_theory.specs.Profiles.{told_in}
use Rattle.log_theory.specs.Lookups.{variables_of}
use Rattle.log_theory.specs.Verdicts.{in_range, axiom_variables, step_variables}
use Rattle.journal_theory.specs.Referring.{step_refs}
use Rattle.journal_theory.specs.Stepping.{IsWritten, AreWritten}
use Rattle.journal_theory.specs.Journals.{own_name}
use Rattle.trim_theory.specs.Renaming.{Renaming, RefsRenamed, OpsRenamed, LineRenamed, LinesRenamed, EndRenamed}
use Rattle.trim_theory.specs.Running.{later_refs, is_named, deletions, with_deletions}
use Rattle.trim_theory.specs.Trimming.{kept_lines, made_names, kept_names, ToKept}
use Rattle.trim_theory.specs.Logs.{ended_log, AreSteps}

pub written_on : (n : ℕ) (xs ys : List Step) → AreWritten n xs → AreWritten n ys → AreWritten n (xs ++ ys)
written_on n [] ys a b = b
written_on n (x ∷ xs) ys a b = (a.0, written_on n xs ys a.1 b)

-- ---- the log

-- The variables of steps are those of the model.
abbrev pub AreInRange : ℕ → List Step → Type 0
AreInRange n [] = Unit {0}
AreInRange n (s ∷ ss) = (in_range n (step_variables s) ≡ true) × AreInRange n ss

same_variables : (profile : Profile) (s : Step) → step_variables (told_in profile s) ≡ step_variables s
same_variables Hinted s = refl
same_variables Plain Head = refl
same_variables Plain (Model m) = refl
same_variables Plain (P name ops) = refl
same_variables Plain (U name lits refs) = refl
same_variables Plain (N row name) = refl
same_variables Plain (D at) = refl
same_variables Plain (E at) = refl
same_variables Plain (Y ones) = refl
same_variables Plain Q = refl

-- The lines of a log with their hints can be written where the log is read in its ranges.
pub hinted_written : (n : ℕ) (profile : Profile) (hinted : List Step) → AreSteps hinted → AreInRange n (map (told_in profile) hinted) → AreWritten n hinted
hinted_written n profile [] a b = tt
hinted_written n profile (s ∷ ss) a b = (
  record { is_step = a.0; variables = ap (in_range n) (sym (same_variables profile s)) ∙ b.0 },
  hinted_written n profile ss a.1 b.1,
)

pub kept_written : (n : ℕ) (keep : Name → Bool) (log : List Step) → AreWritten n log → AreWritten n (kept_lines keep log)
kept_written n keep [] w = tt
kept_written n keep (P name ops ∷ ss) w = by (keep name) (kept_written n keep ss w.1)
  where
    by : (b : Bool) → AreWritten n (kept_lines keep ss) → AreWritten n (cond b (P name ops ∷ kept_lines keep ss) (kept_lines keep ss))
    by true more = (w.0, more)
    by false more = more
kept_written n keep (U name lits refs ∷ ss) w = by (keep name) (kept_written n keep ss w.1)
  where
    by : (b : Bool) → AreWritten n (kept_lines keep ss) → AreWritten n (cond b (U name lits refs ∷ kept_lines keep ss) (kept_lines keep ss))
    by true more = (w.0, more)
    by false more = more
kept_written n keep (Head ∷ ss) w = kept_written n keep ss w.1
kept_written n keep (Model m ∷ ss) w = kept_written n keep ss w.1
kept_written n keep (N row name ∷ ss) w = kept_written n keep ss w.1
kept_written n keep (D at ∷ ss) w = kept_written n keep ss w.1
kept_written n keep (E at ∷ ss) w = kept_written n keep ss w.1
kept_written n keep (Y ones ∷ ss) w = kept_written n keep ss w.1
kept_written n keep (Q ∷ ss) w = kept_written n keep ss w.1

-- No more lines are kept than there are.
pub kept_few : (keep : Name → Bool) (log : List Step) → length (kept_lines keep log) ≤ length log
kept_few keep [] = omega arith
kept_few keep (P name ops ∷ ss) = by (keep name) (kept_few keep ss)
  where
    by : (b : Bool) → length (kept_lines keep ss) ≤ length ss → length (cond b (P name ops ∷ kept_lines keep ss) (kept_lines keep ss)) ≤ suc (length ss)
    by true l = omega arith
    by false l = omega arith
kept_few keep (U name lits refs ∷ ss) = by (keep name) (kept_few keep ss)
  where
    by : (b : Bool) → length (kept_lines keep ss) ≤ length ss → length (cond b (U name lits refs ∷ kept_lines keep ss) (kept_lines keep ss)) ≤ suc (length ss)
    by true l = omega arith
    by false l = omega arith
kept_few keep (Head ∷ ss) = let l = kept_few keep ss in omega arith
kept_few keep (Model m ∷ ss) = let l = kept_few keep ss in omega arith
kept_few keep (N row name ∷ ss) = let l = kept_few keep ss in omega arith
kept_few keep (D at ∷ ss) = let l = kept_few keep ss in omega arith
kept_few keep (E at ∷ ss) = let l = kept_few keep ss in omega arith
kept_few keep (Y ones ∷ ss) = let l = kept_few keep ss in omega arith
kept_few keep (Q ∷ ss) = let l = kept_few keep ss in omega arith

-- Nor more names than lines.
pub names_few : (log : List Step) → length (made_names log) ≤ length log
names_few [] = omega arith
names_few (P name ops ∷ ss) = let l = names_few ss in omega arith
names_few (U name lits refs ∷ ss) = let l = names_few ss in omega arith
names_few (Head ∷ ss) = let l = names_few ss in omega arith
names_few (Model m ∷ ss) = let l = names_few ss in omega arith
names_few (N row name ∷ ss) = let l = names_few ss in omega arith
names_few (D at ∷ ss) = let l = names_few ss in omega arith
names_few (E at ∷ ss) = let l = names_few ss in omega arith
names_few (Y ones ∷ ss) = let l = names_few ss in omega arith
names_few (Q ∷ ss) = let l = names_few ss in omega arith

pub renamed_long : (to : Renaming) (place : ℕ) (ss us : List Step) → LinesRenamed to place ss us → length us ≡ length ss
renamed_long to place [] [] h = refl
renamed_long to place (s ∷ ss) (u ∷ us) h = ap suc (renamed_long to (place + 1) ss us h.1)
renamed_long to place [] (u ∷ us) h = absurd h
renamed_long to place (s ∷ ss) [] h = absurd h

-- ---- renamed lines

own_fits : (place : ℕ) → place + 1 < 2 ^ 63 → IsName (own_name 0 place)
own_fits place l = record { owner_fits = omega arith; from_one = omega arith; number_fits = l }

-- What a reference becomes is in its range.
pub kept_fits : (log : List Step) (names : List Name) → length names < 2 ^ 63 → (q r : Ref) → ToKept log names q r → IsRef q → IsRef r
kept_fits log names few (Line k) r h fits = subst IsRef (sym h) fits
kept_fits log names few (Made name) r h fits = let l = slice_get_within names h.0 name h.1 in subst IsRef (sym h.2) (own_fits h.0 (omega (arith, l, few)))
kept_fits log names few (Shared k) r h fits = let l = slice_get_within names h.2.0 h.0 h.2.1 in subst IsRef (sym h.2.2) (own_fits h.2.0 (omega (arith, l, few)))

module _ (to : Renaming) (fits : (q r : Ref) → to q r → IsRef q → IsRef r) where
  refs_fit : (qs rs : List Ref) → RefsRenamed to qs rs → AreRefs qs → AreRefs rs
  refs_fit [] [] h a = tt
  refs_fit (q ∷ qs) (r ∷ rs) h a = (fits q r h.0 a.0, refs_fit qs rs h.1 a.1)
  refs_fit [] (r ∷ rs) h a = absurd h
  refs_fit (q ∷ qs) [] h a = absurd h

  -- An operation that became another one pushes within range, and its axiom is the same.
  ops_fit : (os ps : List Op) → OpsRenamed to os ps → AreOps os → AreOps ps
  ops_fit [] [] h a = tt
  ops_fit [] (p ∷ ps) h a = absurd h
  ops_fit (o ∷ os) [] h a = absurd h
  ops_fit (Push q ∷ os) (Push r ∷ ps) h a = (fits q r h.0 a.0, ops_fit os ps h.1 a.1)
  ops_fit (Push q ∷ os) (Axiom l ∷ ps) h a = absurd h.0
  ops_fit (Push q ∷ os) (Add ∷ ps) h a = absurd h.0
  ops_fit (Push q ∷ os) (Times n ∷ ps) h a = absurd h.0
  ops_fit (Push q ∷ os) (Divide n ∷ ps) h a = absurd h.0
  ops_fit (Push q ∷ os) (Saturate ∷ ps) h a = absurd h.0
  ops_fit (Axiom l ∷ os) (p ∷ ps) h a = subst (λ (o : Op). AreOps (o ∷ ps)) (sym h.0) (a.0, ops_fit os ps h.1 a.1)
  ops_fit (Add ∷ os) (p ∷ ps) h a = subst (λ (o : Op). AreOps (o ∷ ps)) (sym h.0) (a.0, ops_fit os ps h.1 a.1)
  ops_fit (Times n ∷ os) (p ∷ ps) h a = subst (λ (o : Op). AreOps (o ∷ ps)) (sym h.0) (a.0, ops_fit os ps h.1 a.1)
  ops_fit (Divide n ∷ os) (p ∷ ps) h a = subst (λ (o : Op). AreOps (o ∷ ps)) (sym h.0) (a.0, ops_fit os ps h.1 a.1)
  ops_fit (Saturate ∷ os) (p ∷ ps) h a = subst (λ (o : Op). AreOps (o ∷ ps)) (sym h.0) (a.0, ops_fit os ps h.1 a.1)

  same_axioms : (os ps : List Op) → OpsRenamed to os ps → axiom_variables ps ≡ axiom_variables os
  same_axioms [] [] h = refl
  same_axioms [] (p ∷ ps) h = absurd h
  same_axioms (o ∷ os) [] h = absurd h
  same_axioms (Push q ∷ os) (Push r ∷ ps) h = same_axioms os ps h.1
  same_axioms (Push q ∷ os) (Axiom l ∷ ps) h = absurd h.0
  same_axioms (Push q ∷ os) (Add ∷ ps) h = absurd h.0
  same_axioms (Push q ∷ os) (Times n ∷ ps) h = absurd h.0
  same_axioms (Push q ∷ os) (Divide n ∷ ps) h = absurd h.0
  same_axioms (Push q ∷ os) (Saturate ∷ ps) h = absurd h.0
  same_axioms (Axiom l ∷ os) (p ∷ ps) h = ap (λ (o : Op). axiom_variables (o ∷ ps)) h.0 ∙ ap (λ (vs : List ℕ). l.variable ∷ vs) (same_axioms os ps h.1)
  same_axioms (Add ∷ os) (p ∷ ps) h = ap (λ (o : Op). axiom_variables (o ∷ ps)) h.0 ∙ same_axioms os ps h.1
  same_axioms (Times n ∷ os) (p ∷ ps) h = ap (λ (o : Op). axiom_variables (o ∷ ps)) h.0 ∙ same_axioms os ps h.1
  same_axioms (Divide n ∷ os) (p ∷ ps) h = ap (λ (o : Op). axiom_variables (o ∷ ps)) h.0 ∙ same_axioms os ps h.1
  same_axioms (Saturate ∷ os) (p ∷ ps) h = ap (λ (o : Op). axiom_variables (o ∷ ps)) h.0 ∙ same_axioms os ps h.1

  line_written : (n place : ℕ) (s u : Step) → place + 1 < 2 ^ 63 → LineRenamed to place s u → IsWritten n s → IsWritten n u
  line_written n place (P name ops) (P new os) few h w = record {
    is_step = (subst IsName (sym h.0) (own_fits place few), ops_fit ops os h.1 w.is_step.1);
    variables = ap (in_range n) (same_axioms ops os h.1) ∙ w.variables;
  }
  line_written n place (U name lits refs) (U new ls rs) few h w = record {
    is_step = (subst IsName (sym h.0) (own_fits place few), subst AreLiterals (sym h.1) w.is_step.1, refs_fit refs rs h.2 w.is_step.2);
    variables = ap (λ (xs : List Literal). in_range n (variables_of xs)) h.1 ∙ w.variables;
  }
  line_written n place s u few h w = absurd h

  pub lines_written : (n place : ℕ) (ss us : List Step) → place + length us < 2 ^ 63 → LinesRenamed to place ss us → AreWritten n ss → AreWritten n us
  lines_written n place [] [] few h w = tt
  lines_written n place (s ∷ ss) (u ∷ us) few h w = (
    line_written n place s u (omega (arith, few)) h.0 w.0,
    lines_written n (place + 1) ss us (omega (arith, few)) h.1 w.1,
  )
  lines_written n place [] (u ∷ us) few h w = absurd h
  lines_written n place (s ∷ ss) [] few h w = absurd h

  pub end_written : (n : ℕ) (last end : Step) → EndRenamed to last end → IsWritten n last → IsWritten n end
  end_written n (E q) (E r) h w = record { is_step = fits q r h w.is_step; variables = refl }
  end_written n (Y ones) u h w = subst (IsWritten n) (sym h) w
  end_written n Q u h w = subst (IsWritten n) (sym h) w
  end_written n s u h w = absurd h

-- ---- deletions

deletions_written : (n m : ℕ) (here later : List Ref) → m < 2 ^ 63 → AreWritten n (deletions m here later)
deletions_written n zero here later few = tt
deletions_written n (suc m) here later few =
    written_on n (deletions m here later) (cond (is_named m here && not (is_named m later)) (D (Made (own_name 0 m)) ∷ []) []) (deletions_written n m here later (omega (arith, few)))
    (by (is_named m here && not (is_named m later)))
  where
    by : (b : Bool) → AreWritten n (cond b (D (Made (own_name 0 m)) ∷ []) [])
    by true = (record { is_step = (own_fits m (omega (arith, few)), refl); variables = refl }, tt)
    by false = tt

pub with_deletions_written : (n place : ℕ) (lines : List Step) (end : Step) → place + length lines < 2 ^ 63 → AreWritten n lines → AreWritten n (with_deletions place lines end)
with_deletions_written n place [] end few w = tt
with_deletions_written n place (s ∷ ss) end few w = (
  w.0,
  written_on n (deletions place (step_refs s) (later_refs ss end)) (with_deletions (place + 1) ss end) (deletions_written n place (step_refs s) (later_refs ss end) (omega (arith, few)))
      (with_deletions_written n (place + 1) ss end (omega (arith, few)) w.1),
)

-- ---- the trimmed log

-- A trimmed log can be written where its log can.
pub trimmed_written : (n : ℕ) (model : List Form) (keep : Name → Bool) (hinted lines : List Step) (last end : Step) → length model < 2 ^ 63 → length hinted < 2 ^ 63 → AreWritten n hinted → IsWritten n last
    → LinesRenamed (ToKept hinted (kept_names keep hinted)) 0 (kept_lines keep hinted) lines → EndRenamed (ToKept hinted (kept_names keep hinted)) last end
    → AreWritten n (ended_log model (with_deletions 0 lines end) end)
trimmed_written n model keep hinted lines last end model_few few written last_written renamed ends =
    let names = kept_names keep hinted in
    let kept : length (kept_lines keep hinted) ≤ length hinted = kept_few keep hinted in
    let names_in : length names < 2 ^ 63 = (let l = names_few (kept_lines keep hinted) in omega (arith, l, kept, few)) in
    let lines_in : 0 + length lines < 2 ^ 63 = (let l = renamed_long (ToKept hinted names) 0 (kept_lines keep hinted) lines renamed in omega (arith, l, kept, few)) in
    let fits = kept_fits hinted names names_in in (
      record { is_step = tt; variables = refl },
      (
        record { is_step = model_few; variables = refl },
        written_on n (with_deletions 0 lines end) (end ∷ [])
            (with_deletions_written n 0 lines end lines_in (lines_written (ToKept hinted names) fits n 0 (kept_lines keep hinted) lines lines_in renamed (kept_written n keep hinted written)))
            (end_written (ToKept hinted names) fits n last end ends last_written, tt),
      ),
    )
