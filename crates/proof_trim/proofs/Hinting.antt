-- Hints for lines that have none: how references come to refute, and how a replay goes on.
use Rattle.std.proofs.Common.{◌≡◌, ℕ, Bool, true, false, ◌||◌, List, [], ◌∷◌, ◌++◌, map, Option, Some, Result, Ok, refl, sym, ap, ◌∙◌, subst}
use Rattle.std.proofs.lemmas.List.{append_assoc}
use Rattle.proof_theory.specs.declared.literal.Literal.{Literal}
use Rattle.log_theory.specs.declared.profile.Profile.TheVariants.{Plain}
use Rattle.log_theory.specs.declared.step.Cause.{Cause}
use Rattle.log_theory.specs.declared.step.Cause.TheVariants.{NoSuchName, Twice, NoConflict}
use Rattle.log_theory.specs.declared.step.Name.{Name}
use Rattle.log_theory.specs.declared.step.Op.{Op}
use Rattle.log_theory.specs.declared.step.Ref.{Ref}
use Rattle.log_theory.specs.declared.step.Step.{Step}
use Rattle.log_theory.specs.declared.step.Step.TheVariants.{P, U, N, D}
use Rattle.proof_theory.specs.Forms.{Form}
use Rattle.proof_theory.specs.Slack.{Setting, conflict, after, refutes, negations, clause_form, or_else, forced_at, slack}
use Rattle.proof_theory.specs.Propagation.{Extends, closes}
use Rattle.log_theory.specs.Steps.{◌>>=◌, unless, or_fault}
use Rattle.log_theory.specs.Words.{line_text}
use Rattle.log_theory.specs.LogText.{IsRef, AreRefs, IsStep, step_words}
use Rattle.log_theory.specs.Profiles.{told_in, read_in, IsStepIn}
use Rattle.log_theory.specs.Acceptance.{NoFeed}
use Rattle.log_theory.specs.Lookups.{Lookup, find_all, makes, closed_clause, are_distinct, variables_of}
use Rattle.log_theory.specs.Tables.{Table, empty_table, find, step_in, fresh_name, with_made, all_forms}
use Rattle.log_theory.proofs.LogSound.{bind_ok}
use Rattle.pb_propagation.proofs.Propagation.{same_refutes, refutes_more}
use Rattle.trim_theory.specs.Trimming.{StepsIn, LineStands, HintsStand}
use Rattle.trim_theory.specs.Logs.{AreSteps}
use Rattle.proof_trim.specs.Hints.{LeadsTo, IsRefuted, IsReplayed}
use Rattle.proof_trim.specs.Texts.{steps_text}
use Rattle.proof_trim.specs.Trimmed.{AreHinted}
use Rattle.proof_trim.specs.Lined.{IsReplayedText}
use Rattle.proof_trim.proofs.LinesRead.{ReadTo, read_start, read_line_more, read_all, text_snoc}

-- ---- references that lead on

pub refs_more : (rs : List Ref) (r : Ref) → AreRefs rs → IsRef r → AreRefs (rs ++ r ∷ [])
refs_more [] r h k = (k, tt)
refs_more (q ∷ rs) r h k = (h.0, refs_more rs r h.1 k)

forms_same : (fs gs : List Form) → let x : Result (List Form) Cause = Ok fs in let y : Result (List Form) Cause = Ok gs in x ≡ y → fs ≡ gs
forms_same fs gs e = cc

found_more : (look : Lookup) (rs : List Ref) (r : Ref) (fs : List Form) (f : Form) → find_all look rs ≡ Ok fs → look r ≡ Some f → find_all look (rs ++ r ∷ []) ≡ Ok (fs ++ f ∷ [])
found_more look [] r fs f e is =
    ap (λ (o : Option Form). or_fault o NoSuchName >>= λ g. find_all look [] >>= λ gs. Ok (g ∷ gs)) is
    ∙ ap (λ (gs : List Form). let x : Result (List Form) Cause = Ok (gs ++ f ∷ []) in x) (forms_same [] fs e)
found_more look (q ∷ rs) r fs f e is =
    let b = bind_ok (or_fault (look q) NoSuchName) _ fs e in
    let d = bind_ok (find_all look rs) _ fs b.1.1 in
    ap (λ (x : Result Form Cause). x >>= λ g. find_all look (rs ++ r ∷ []) >>= λ gs. Ok (g ∷ gs)) b.1.0
    ∙ ap (λ (x : Result (List Form) Cause). x >>= λ gs. Ok (b.0 ∷ gs)) (found_more look rs r d.0 f d.1.0 is)
    ∙ ap (λ (gs : List Form). let x : Result (List Form) Cause = Ok (gs ++ f ∷ []) in x) (forms_same (b.0 ∷ d.0) fs d.1.1)

pub leads_none : (look : Lookup) (s : Setting) → LeadsTo look s [] s
leads_none look s = record { forms = []; found = refl; leads = λ gs r. r }

pub leads_idle : (look : Lookup) (s t u : Setting) (rs : List Ref) → LeadsTo look s rs t → ((v : ℕ) → u v ≡ t v) → LeadsTo look s rs u
leads_idle look s t u rs h e = record { forms = h.forms; found = h.found; leads = λ gs r. h.leads gs (sym (same_refutes u t gs e) ∙ r) }

pub leads_moved : (look : Lookup) (s t u : Setting) (rs : List Ref) (r : Ref) (f : Form) → LeadsTo look s rs t → look r ≡ Some f → conflict t f ≡ false → ((v : ℕ) → u v ≡ after t f v) → LeadsTo look s (rs ++ r ∷ []) u
leads_moved look s t u rs r f h is calm set = record {
  forms = h.forms ++ f ∷ [];
  found = found_more look rs r h.forms f h.found is;
  leads = λ gs e. subst (λ (fs : List Form). refutes s fs ≡ true) (sym (append_assoc h.forms (f ∷ []) gs)) (h.leads (f ∷ gs) (sym (refutes_more t u f gs calm set) ∙ e));
}

pub leads_end : (look : Lookup) (s t : Setting) (rs : List Ref) (r : Ref) (f : Form) → LeadsTo look s rs t → look r ≡ Some f → conflict t f ≡ true → IsRefuted look s (rs ++ r ∷ [])
leads_end look s t rs r f h is clash = record {
  forms = h.forms ++ f ∷ [];
  found = found_more look rs r h.forms f h.found is;
  refuted = h.leads (f ∷ []) (ap (λ (b : Bool). b || refutes (after t f) []) clash);
}

-- What is set stays set.
pub after_extends : (s t : Setting) (f : Form) → ((v : ℕ) → t v ≡ after s f v) → Extends t s
after_extends s t f e = record { kept = λ v b is. e v ∙ ap (λ (o : Option Bool). or_else o (forced_at (slack s f) f.terms v)) is }

-- ---- a replay

same_table : (a b : Table) → let x : Result Table Cause = Ok a in let y : Result Table Cause = Ok b in x ≡ y → a ≡ b
same_table a b e = cc

same_form : (a b : Form) → let x : Result Form Cause = Ok a in let y : Result Form Cause = Ok b in x ≡ y → a ≡ b
same_form a b e = cc

-- What a line of operations leads to.
pub p_goes : (model : List Form) (old new u : Table) (name : Name) (ops : List Op) (f : Form) → makes (find model old) (P name ops) ≡ Ok f → new ≡ with_made old name f → step_in Plain model old (P name ops) ≡ Ok u → new ≡ u
p_goes model old new u name ops f made is e =
    let b = bind_ok (fresh_name old name) _ u e in
    let d = bind_ok (makes (find model old) (P name ops)) _ u b.1.1 in
    is ∙ ap (with_made old name) (same_form f d.0 (sym made ∙ d.1.0)) ∙ same_table (with_made old name d.0) u d.1.1

-- What a line of unit propagation leads to.
pub u_goes : (model : List Form) (old new u : Table) (name : Name) (lits : List Literal) → new ≡ with_made old name (clause_form lits) → step_in Plain model old (U name lits []) ≡ Ok u → new ≡ u
u_goes model old new u name lits is e =
    let b = bind_ok (fresh_name old name) _ u e in
    let d = bind_ok (closed_clause (all_forms model old) lits) _ u b.1.1 in
    let g = bind_ok (unless (are_distinct (variables_of lits)) Twice) _ d.0 d.1.0 in
    let h = bind_ok (unless (closes (negations lits) (all_forms model old)) NoConflict) _ d.0 g.1.1 in
    is ∙ ap (with_made old name) (same_form (clause_form lits) d.0 h.1.1) ∙ same_table (with_made old name d.0) u d.1.1

pub same_goes : (a b : Table) (r : Result Table Cause) → r ≡ Ok a → r ≡ Ok b → a ≡ b
same_goes a b r e g = same_table a b (sym e ∙ g)

-- How far a log is replayed.
pub record ReplayedTo (model : List Form) (steps hinted : List Step) (table : Table) : Type 0 where
  pub told : map (told_in Plain) hinted ≡ steps
  pub hints : (keep : Name → Bool) → HintsStand Plain keep model empty_table hinted
  pub in_range : AreSteps hinted
  pub goes : (u : Table) → StepsIn Plain model empty_table steps u → table ≡ u

pub replay_start : (model : List Form) (table : Table) → table ≡ empty_table → ReplayedTo model [] [] table
replay_start model table is = record { told = refl; hints = λ keep. tt; in_range = tt; goes = λ u e. is ∙ sym e }

hints_more : (keep : Name → Bool) (model : List Form) (t : Table) (xs : List Step) (s : Step) → HintsStand Plain keep model t xs
    → ((u : Table) → StepsIn Plain model t (map (told_in Plain) xs) u → LineStands Plain keep model u s) → HintsStand Plain keep model t (xs ++ s ∷ [])
hints_more keep model t [] s h stand = (stand t refl, λ u e. tt)
hints_more keep model t (x ∷ xs) s h stand = (h.0, λ u e. hints_more keep model u xs s (h.1 u e) (λ w run. stand w (u, e, run)))

in_more : (xs : List Step) (s : Step) → AreSteps xs → IsStep s → AreSteps (xs ++ s ∷ [])
in_more [] s h k = (k, tt)
in_more (x ∷ xs) s h k = (h.0, in_more xs s h.1 k)

told_more : (xs : List Step) (s : Step) → map (told_in Plain) (xs ++ s ∷ []) ≡ map (told_in Plain) xs ++ told_in Plain s ∷ []
told_more [] s = refl
told_more (x ∷ xs) s = ap (λ (ys : List Step). told_in Plain x ∷ ys) (told_more xs s)

run_parted : (model : List Form) (t u : Table) (xs : List Step) (s : Step) → StepsIn Plain model t (xs ++ s ∷ []) u → (m : Table) × StepsIn Plain model t xs m × (step_in Plain model m s ≡ Ok u)
run_parted model t u [] s run = (t, refl, run.1 ∙ ap (λ (x : Table). let r : Result Table Cause = Ok x in r) (sym run.2))
run_parted model t u (x ∷ xs) s run = let r = run_parted model run.0 u xs s run.2 in (r.0, (run.0, run.1, r.1), r.2)

-- One more line.
pub replay_more : (model : List Form) (steps hinted : List Step) (old new : Table) (step s : Step) → ReplayedTo model steps hinted old → IsReplayed model old step s new → ReplayedTo model (steps ++ step ∷ []) (hinted ++ s ∷ []) new
replay_more model steps hinted old new step s to line = record {
  told = told_more hinted s ∙ ap (λ (xs : List Step). xs ++ told_in Plain s ∷ []) to.told ∙ ap (λ (x : Step). steps ++ x ∷ []) line.told;
  hints = λ keep. hints_more keep model empty_table hinted s (to.hints keep) (λ u run. subst (λ (t : Table). LineStands Plain keep model t s) (to.goes u (subst (λ (xs : List Step). StepsIn Plain model empty_table xs u) to.told run)) (line.hints keep));
  in_range = in_more hinted s to.in_range line.in_range;
  goes = λ u run. let r = run_parted model empty_table u steps step run in line.goes u (subst (λ (t : Table). step_in Plain model t step ≡ Ok u) (sym (to.goes r.0 r.1)) r.2);
}

pub replay_all : (model : List Form) (steps hinted : List Step) (table : Table) → ReplayedTo model steps hinted table → AreHinted Plain model steps hinted
replay_all model steps hinted table to = record { told = to.told; hints = to.hints; in_range = to.in_range }

-- ---- a text replayed

-- How far a text is replayed, and what is written so far.
pub record ReplayedFrom (model : List Form) (text left out : List ℕ) (table : Table) : Type 0 where
  pub steps : List Step
  pub hinted : List Step
  pub to : ReadTo Plain text left steps
  pub replayed : ReplayedTo model steps hinted table
  pub out_is : out ≡ steps_text hinted

pub text_start : (model : List Form) (text out : List ℕ) (table : Table) → out ≡ [] → table ≡ empty_table → ReplayedFrom model text text out table
text_start model text out table none is = record { steps = []; hinted = []; to = read_start Plain text; replayed = replay_start model table is; out_is = none }

-- One more line.
pub text_replayed : (model : List Form) (text left line behind out more : List ℕ) (old new : Table) (step s : Step) → left ≡ line ++ 10 ∷ behind → NoFeed line → read_in Plain line ≡ Some step → IsStepIn Plain step → IsReplayed model old step s new
    → more ≡ out ++ line_text (step_words s) → ReplayedFrom model text left out old → ReplayedFrom model text behind more new
text_replayed model text left line behind out more old new step s cut no_feed read fits by put before = record {
  steps = before.steps ++ step ∷ [];
  hinted = before.hinted ++ s ∷ [];
  to = read_line_more Plain text left line behind before.steps step cut no_feed read fits before.to;
  replayed = replay_more model before.steps before.hinted old new step s before.replayed by;
  out_is = put ∙ ap (λ (t : List ℕ). t ++ line_text (step_words s)) before.out_is ∙ text_snoc before.hinted s;
}

-- The last line.
pub text_ended : (model : List Form) (text left line behind out more : List ℕ) (table : Table) (step : Step) → left ≡ line ++ 10 ∷ behind → NoFeed line → read_in Plain line ≡ Some step → IsStepIn Plain step → behind ≡ []
    → more ≡ out ++ line_text (step_words step) → ReplayedFrom model text left out table → IsReplayedText model text more
text_ended model text left line behind out more table step cut no_feed read fits none put before = record {
  steps = before.steps;
  last = step;
  hinted = before.hinted;
  reads = read_all Plain text behind (before.steps ++ step ∷ []) none (read_line_more Plain text left line behind before.steps step cut no_feed read fits before.to);
  hints = replay_all model before.steps before.hinted table before.replayed;
  out_is = put ∙ ap (λ (t : List ℕ). t ++ line_text (step_words step)) before.out_is ∙ text_snoc before.hinted step;
}

-- ---- a line with its hints

-- A line of operations, one that shares and one that deletes stay as they are.
pub p_replayed : (model : List Form) (old new : Table) (name : Name) (ops : List Op) → IsStepIn Plain (P name ops) → ((u : Table) → step_in Plain model old (P name ops) ≡ Ok u → new ≡ u) → IsReplayed model old (P name ops) (P name ops) new
p_replayed model old new name ops fits goes = record { told = refl; hints = λ keep. tt; goes = goes; in_range = fits.0 }

pub n_replayed : (model : List Form) (old new : Table) (row : ℕ) (name : Name) → IsStepIn Plain (N row name) → ((u : Table) → step_in Plain model old (N row name) ≡ Ok u → new ≡ u) → IsReplayed model old (N row name) (N row name) new
n_replayed model old new row name fits goes = record { told = refl; hints = λ keep. tt; goes = goes; in_range = fits.0 }

pub d_replayed : (model : List Form) (old new : Table) (at : Ref) → IsStepIn Plain (D at) → ((u : Table) → step_in Plain model old (D at) ≡ Ok u → new ≡ u) → IsReplayed model old (D at) (D at) new
d_replayed model old new at fits goes = record { told = refl; hints = λ keep. tt; goes = goes; in_range = fits.0 }

no_hints : (name : Name) (lits : List Literal) (refs : List Ref) → told_in Plain (U name lits refs) ≡ U name lits refs → refs ≡ []
no_hints name lits refs e = cc

-- A line of unit propagation gets hints.
pub u_replayed : (model : List Form) (old new : Table) (name : Name) (lits : List Literal) (before refs : List Ref) → IsStepIn Plain (U name lits before) → IsRefuted (find model old) (negations lits) refs → AreRefs refs
    → ((u : Table) → step_in Plain model old (U name lits []) ≡ Ok u → new ≡ u) → IsReplayed model old (U name lits before) (U name lits refs) new
u_replayed model old new name lits before refs fits refuted range goes =
    let none = no_hints name lits before fits.1 in
    record {
      told = ap (λ (rs : List Ref). U name lits rs) (sym none);
      hints = λ keep kept. (refuted.forms, refuted.found, refuted.refuted);
      goes = λ u e. goes u (ap (λ (rs : List Ref). step_in Plain model old (U name lits rs)) (sym none) ∙ e);
      in_range = (fits.0.0, fits.0.1, range);
    }
