-- From the steps of an accepted log to its trimmed text.
use Rattle.std.proofs.Common.{inl, inr, ◌≡◌, ◌≢◌, ℕ, suc, ◌+◌, ◌<◌, ◌^◌, Bool, true, List, [], ◌∷◌, ◌++◌, length, map, Some, Result, Ok, refl, sym, ap, ◌∙◌, subst, arith}
use Rattle.log_theory.specs.declared.profile.Profile.{Profile}
use Rattle.log_theory.specs.declared.profile.Profile.TheVariants.{Hinted, Plain}
use Rattle.log_theory.specs.declared.step.Cause.{Cause}
use Rattle.log_theory.specs.declared.step.Cause.TheVariants.{NoSuchName}
use Rattle.log_theory.specs.declared.step.Name.{Name}
use Rattle.log_theory.specs.declared.step.Ref.{Ref}
use Rattle.log_theory.specs.declared.step.Step.{Step}
use Rattle.log_theory.specs.declared.step.Step.TheVariants.{Head, Model, P, U, N, D, E, Y, Q}
use Rattle.log_theory.specs.declared.step.Verdict.{Verdict}
use Rattle.proof_theory.specs.Forms.{Form}
use Rattle.proof_theory.specs.Propagation.{IsAmong}
use Rattle.log_theory.specs.Steps.{◌>>=◌, or_fault}
use Rattle.log_theory.specs.LogText.{IsStep}
use Rattle.log_theory.specs.Profiles.{told_in, read_in}
use Rattle.log_theory.specs.Tables.{Table, empty_table, find, step_in}
use Rattle.log_theory.specs.declared.step.Verdict.TheVariants.{Unsatisfiable, Satisfiable, Undecided, Refused, NoMemory as Unanswered}
use Rattle.log_theory.specs.Verdicts.{IsClaim, Proving, Goes, Ends, progress_of}
use Rattle.log_theory.specs.Acceptance.{lines_text, Accepts}
use Rattle.log_theory.proofs.LogSound.{bind_ok, or_fault_ok}
use Rattle.journal_theory.specs.Referring.{step_refs}
use Rattle.journal_theory.specs.Journals.{IsMaking}
use Rattle.journal_theory.specs.Stepping.{step_line, NoFeedLaw, LinesLaw}
use Rattle.trim_theory.specs.Trimming.{StepsIn, made_names, HintsStand, Trims}
use Rattle.trim_theory.specs.Logs.{AreSteps, ended_log}
use Rattle.trim_theory.specs.Marking.{made_lines, keeps, marked_log, new_ref, new_last, IsLast, Marked, MarkLaw}
use Rattle.trim_theory.proofs.Distinct.{names_distinct}
use Rattle.trim_theory.proofs.Marking.{ground}
use Rattle.trim_theory.proofs.Placed.{Placed, all_placed}
use Rattle.trim_theory.proofs.Telling.{Told, steps_told}
use Rattle.proof_trim.specs.Ranks.{mark_at}
use Rattle.proof_trim.specs.Reading.{AreStepsIn, IsOpened, IsReadLog}
use Rattle.proof_trim.specs.Trimmed.{AreHinted, IsRenewed, IsRenewedText, IsTrimmed}
use Rattle.proof_trim.specs.Lined.{IsReplayedText, IsRenewedFrom}
use Rattle.proof_trim.proofs.LinesRead.{log_read, reads_one, snoc_same, written_reads}
use Rattle.proof_trim.proofs.Renewing.{marked_all}

-- ---- the last line

goes_not : (profile : Profile) (r : Result Table Cause) (claim : Verdict) → (r >>= λ u. Ok (Goes (Proving profile u))) ≡ Ok (Ends claim) → ⊥
goes_not profile r claim e = let b = bind_ok r _ (Ends claim) e in let f = b.1.1 in cc

last_is : (profile : Profile) (model : List Form) (t : Table) (s : Step) (claim : Verdict) → progress_of model (Proving profile t) s ≡ Ok (Ends claim) → IsLast s
last_is profile model t (E q) claim e = tt
last_is profile model t (Y ones) claim e = tt
last_is profile model t Q claim e = tt
last_is profile model t Head claim e = absurd (goes_not profile (step_in profile model t Head) claim e)
last_is profile model t (Model m) claim e = absurd (goes_not profile (step_in profile model t (Model m)) claim e)
last_is profile model t (P name ops) claim e = absurd (goes_not profile (step_in profile model t (P name ops)) claim e)
last_is profile model t (U name lits refs) claim e = absurd (goes_not profile (step_in profile model t (U name lits refs)) claim e)
last_is profile model t (N row name) claim e = absurd (goes_not profile (step_in profile model t (N row name)) claim e)
last_is profile model t (D at) claim e = absurd (goes_not profile (step_in profile model t (D at)) claim e)

-- What it names is there.
last_finds : (profile : Profile) (model : List Form) (t : Table) (s : Step) (claim : Verdict) → IsLast s → progress_of model (Proving profile t) s ≡ Ok (Ends claim) → (q : Ref) → IsAmong q (step_refs s)
    → (f : Form) × (find model t q ≡ Some f)
last_finds profile model t (E r) claim l e q (inl same) =
    let b = bind_ok (or_fault (find model t r) NoSuchName) _ (Ends claim) e in
    (b.0, ap (find model t) same ∙ or_fault_ok (find model t r) NoSuchName b.0 b.1.0)
last_finds profile model t (E r) claim l e q (inr i) = absurd i
last_finds profile model t (Y ones) claim l e q i = absurd i
last_finds profile model t Q claim l e q i = absurd i
last_finds profile model t s claim l e q i = absurd l

-- ---- hints of a log that has them

pub hints_none : (model : List Form) (keep : Name → Bool) (t : Table) (steps : List Step) → HintsStand Hinted keep model t steps
hints_none model keep t [] = tt
hints_none model keep t (s ∷ ss) = (tt, λ u e. hints_none model keep u ss)

told_same : (profile : Profile) (steps : List Step) → AreStepsIn profile steps → map (told_in profile) steps ≡ steps
told_same profile [] h = refl
told_same profile (s ∷ ss) h = ap (λ (u : Step). u ∷ map (told_in profile) ss) h.0.1 ∙ ap (λ (us : List Step). s ∷ us) (told_same profile ss h.1)

steps_in : (profile : Profile) (steps : List Step) → AreStepsIn profile steps → AreSteps steps
steps_in profile [] h = tt
steps_in profile (s ∷ ss) h = (h.0.0, steps_in profile ss h.1)

-- The lines of a log with hints are their own.
pub hinted_already : (model : List Form) (steps : List Step) → AreStepsIn Hinted steps → AreHinted Hinted model steps steps
hinted_already model steps h = record {
  told = told_same Hinted steps h;
  hints = λ keep. hints_none model keep empty_table steps;
  in_range = steps_in Hinted steps h;
}

-- ---- counting lines

made_told : (profile : Profile) (steps : List Step) → length (made_lines (map (told_in profile) steps)) ≡ length (made_lines steps)
made_told profile [] = refl
made_told Hinted (P name ops ∷ ss) = ap suc (made_told Hinted ss)
made_told Hinted (U name lits refs ∷ ss) = ap suc (made_told Hinted ss)
made_told Hinted (Head ∷ ss) = made_told Hinted ss
made_told Hinted (Model m ∷ ss) = made_told Hinted ss
made_told Hinted (N row name ∷ ss) = made_told Hinted ss
made_told Hinted (D at ∷ ss) = made_told Hinted ss
made_told Hinted (E at ∷ ss) = made_told Hinted ss
made_told Hinted (Y ones ∷ ss) = made_told Hinted ss
made_told Hinted (Q ∷ ss) = made_told Hinted ss
made_told Plain (P name ops ∷ ss) = ap suc (made_told Plain ss)
made_told Plain (U name lits refs ∷ ss) = ap suc (made_told Plain ss)
made_told Plain (Head ∷ ss) = made_told Plain ss
made_told Plain (Model m ∷ ss) = made_told Plain ss
made_told Plain (N row name ∷ ss) = made_told Plain ss
made_told Plain (D at ∷ ss) = made_told Plain ss
made_told Plain (E at ∷ ss) = made_told Plain ss
made_told Plain (Y ones ∷ ss) = made_told Plain ss
made_told Plain (Q ∷ ss) = made_told Plain ss

-- ---- the trimmed log

long_map : (profile : Profile) (xs : List Step) → length (map (told_in profile) xs) ≡ length xs
long_map profile [] = refl
long_map profile (x ∷ xs) = ap suc (long_map profile xs)

-- What the parts of a trimmer know of an accepted log.
pub record Parts (n : ℕ) (model : List Form) (log : List ℕ) (claim : Verdict) (profile : Profile) (steps : List Step) (last : Step) (hinted lines : List Step) (end : Step) (made : ℕ) : Type 0 where
  pub accepts : Accepts n model log claim
  pub read : IsReadLog profile log steps last
  pub hints : AreHinted profile model steps hinted
  pub renewed : IsRenewed hinted last lines end made
  pub few : length hinted < 2 ^ 63
  pub model_few : length model < 2 ^ 63

module _ (mark_law : MarkLaw) (n : ℕ) (model : List Form) (log : List ℕ) (claim : Verdict) (profile : Profile) (steps : List Step) (last : Step) (hinted lines : List Step) (end : Step) (made : ℕ)
    (parts : Parts n model log claim profile steps last hinted lines end made) where
  told : Told n model profile empty_table steps last claim
  told = steps_told n model log claim profile steps last parts.accepts parts.read.is_log

  run : StepsIn profile model empty_table (map (told_in profile) hinted) told.table
  run = subst (λ (ss : List Step). StepsIn profile model empty_table ss told.table) (sym parts.hints.told) told.run

  is_last : IsLast last
  is_last = last_is profile model told.table last claim told.ends

  abbrev mark : ℕ → ℕ
  mark = mark_at parts.renewed.marks

  abbrev names : List Name
  names = made_names (made_lines hinted)

  marked : Marked hinted last mark
  marked = marked_all hinted last parts.renewed.marks parts.renewed.marked
      (λ j s at kept q among. (subst (λ (i : ℕ). IsMaking s × (mark i ≢ 0 → (r : Ref) → IsAmong r (step_refs s) → Placed hinted names i r)) (let e : 0 + j ≡ j = omega arith in e)
      (ground mark names (names_distinct profile model (λ m. true) hinted empty_table told.table run refl parts.hints.in_range) hinted hinted 0 [] refl refl
      (all_placed profile model hinted told.table (keeps names mark) run (parts.hints.hints (keeps names mark))).all j s at)).1 kept q among)

  -- The trimmed log by these hints.
  abbrev Given : List Step → List Step → Step → Type 0
  Given ss out e = (t : Trims profile model ss last out e) × (t.hinted ≡ hinted)

  trims_made : Given (map (told_in profile) hinted) (marked_log (new_ref hinted mark) mark 0 (made_lines hinted)) (new_last (new_ref hinted mark) last)
  trims_made = mark_law profile model hinted told.table last mark parts.hints.in_range run (parts.hints.hints (keeps names mark)) is_last (last_finds profile model told.table last claim is_last told.ends) marked

  trims : Given steps lines end
  trims = subst (λ (e : Step). Given steps lines e) (sym (parts.renewed.end_is is_last))
      (subst (λ (ss : List Step). Given steps ss (new_last (new_ref hinted mark) last)) (sym parts.renewed.lines_are)
      (subst (λ (ss : List Step). Given ss (marked_log (new_ref hinted mark) mark 0 (made_lines hinted)) (new_last (new_ref hinted mark) last)) parts.hints.told trims_made))

  in_range : AreSteps trims.0.hinted
  in_range = subst AreSteps (sym trims.1) parts.hints.in_range

  -- What is written is the trimmed log.
  pub trimmed_text : (text : List ℕ) (kept : ℕ) → text ≡ lines_text (map step_line (ended_log model lines end)) → kept ≡ length (made_lines lines) → IsTrimmed model log text made kept
  trimmed_text text kept text_is kept_is = record {
    trims = record {
      profile = profile;
      steps = steps;
      last = last;
      is_log = parts.read.is_log;
      out = lines;
      end = end;
      trims = trims.0;
      in_range = in_range;
      last_in_range = parts.read.last_in_range;
      few = (let l = parts.few in omega (arith, l, long_map profile hinted, ap (λ (ss : List Step). length ss) parts.hints.told));
      text_is = text_is;
    };
    made_is = parts.renewed.made_is ∙ sym (made_told profile hinted) ∙ ap (λ (ss : List Step). length (made_lines ss)) parts.hints.told;
    kept_is = kept_is;
  }

-- What was read, got hints, was renewed and put is the trimmed log.
pub trimmed_by : MarkLaw → LinesLaw → (n : ℕ) (model : List Form) (log : List ℕ) (claim : Verdict) (profile : Profile) (steps : List Step) (last : Step) (hinted : List Step) (text : List ℕ) (made kept : ℕ) → Accepts n model log claim → length model < 2 ^ 63
    → IsReadLog profile log steps last → AreHinted profile model steps hinted → length hinted < 2 ^ 63 → IsRenewedText (length model) hinted last text made kept → IsTrimmed model log text made kept
trimmed_by mark_law lines_law n model log claim profile steps last hinted text made kept accepts model_few read hints few put =
    trimmed_text mark_law n model log claim profile steps last hinted put.lines put.end made
    (record { accepts = accepts; read = read; hints = hints; renewed = put.renewed; few = few; model_few = model_few }) text kept (put.text_is ∙ sym (lines_law (ended_log model put.lines put.end))) put.kept_is

-- Of a log with hints.
pub trimmed_hinted : MarkLaw → LinesLaw → (n : ℕ) (model : List Form) (log lines : List ℕ) (claim : Verdict) (text : List ℕ) (made kept : ℕ) → Accepts n model log claim → length model < 2 ^ 63 → IsOpened Hinted log lines
    → IsRenewedFrom (length model) lines text made kept → IsTrimmed model log text made kept
trimmed_hinted mark_law lines_law n model log lines claim text made kept accepts model_few opened from =
    let read = log_read Hinted log lines from.hinted from.last opened from.reads in
    trimmed_by mark_law lines_law n model log claim Hinted from.hinted from.last from.hinted text made kept accepts model_few read (hinted_already model from.hinted read.in_range) from.few from.renewed

-- Of one without.
pub trimmed_plain : MarkLaw → LinesLaw → NoFeedLaw → ((s : Step) → IsStep s → read_in Hinted (step_line s) ≡ Some s) → (n : ℕ) (model : List Form) (log lines : List ℕ) (claim : Verdict) (hinted text : List ℕ) (made kept : ℕ) → Accepts n model log claim
    → length model < 2 ^ 63 → IsOpened Plain log lines → IsReplayedText model lines hinted → IsRenewedFrom (length model) hinted text made kept → IsTrimmed model log text made kept
trimmed_plain mark_law lines_law no_feed read_again n model log lines claim hinted text made kept accepts model_few opened replayed from =
    trimmed_by mark_law lines_law n model log claim Plain replayed.steps replayed.last replayed.hinted text made kept accepts model_few read replayed.hints (subst (λ (ss : List Step). length ss < 2 ^ 63) same.0 from.few)
    (subst (λ (s : Step). IsRenewedText (length model) replayed.hinted s text made kept) same.1 (subst (λ (ss : List Step). IsRenewedText (length model) ss from.last text made kept) same.0 from.renewed))
  where
    read : IsReadLog Plain log replayed.steps replayed.last
    read = log_read Plain log lines replayed.steps replayed.last opened replayed.reads

    fit : (ss : List Step) → AreSteps ss → IsStep replayed.last → AreSteps (ss ++ replayed.last ∷ [])
    fit [] h k = (k, tt)
    fit (s ∷ ss) h k = (h.0, fit ss h.1 k)

    same : (from.hinted ≡ replayed.hinted) × (from.last ≡ replayed.last)
    same =
        snoc_same from.hinted replayed.hinted from.last replayed.last
        (reads_one Hinted hinted (from.hinted ++ from.last ∷ []) (replayed.hinted ++ replayed.last ∷ []) from.reads
        (written_reads read_again no_feed lines_law (replayed.hinted ++ replayed.last ∷ []) hinted (fit replayed.hinted replayed.hints.in_range read.last_in_range) replayed.out_is))

-- A verdict that is no refusal, and no want of memory, is a claim.
pub claim_is : (v : Verdict) → ((line : ℕ) (cause : Cause) → v ≡ Refused line cause → ⊥) → (v ≡ Unanswered → ⊥) → IsClaim v
claim_is Unsatisfiable r m = tt
claim_is Satisfiable r m = tt
claim_is Undecided r m = tt
claim_is (Refused line cause) r m = absurd (r line cause refl)
claim_is Unanswered r m = absurd (m refl)
