-- Journals that stand beside the same rows are journals as a log wants them.
use Rattle.std.proofs.Common.{inl, inr, ◌≡◌, ℕ, zero, suc, ◌^◌, ◌<◌, ◌≤◌, cond, Bool, true, false, List, [], ◌∷◌, length, get_or, Option, Some, None, refl, sym, ap, subst, ◌∙◌, arith}
use Rattle.std.specs.Prelude.{slice_get}
use Rattle.std.proofs.lemmas.Option.{slice_get_within, get_or_from_slice_get}
use Rattle.proof_theory.specs.Forms.{Form}
use Rattle.log_theory.specs.declared.step.Step.{Step}
use Rattle.log_theory.specs.Tables.{from_one}
use Rattle.nogood_book.specs.declared.row.Row.{Row as BookRow}
use Rattle.journals.specs.Keeping.{Keeping}
use Rattle.journal_theory.specs.Referring.{step_refs, NamesRow}
use Rattle.journal_theory.specs.Journals.{IsJournal, base_of, Row, IsNogoodOf, Journal, note_of, Journaled}
use Rattle.journal_theory.specs.Merging.{journal_of, AreJournals}
use Rattle.journal_theory.specs.Laws.{MergeLaws}
use Rattle.journal_theory.proofs.Placing.{get_some, from_one_within}
use Rattle.merged_log.specs.Steps.{journal_in, row_in, journals_in, rows_in, NotesAreOfLines, AllWritten, AreInRange, StandBeside, IsAloneOrBare, AreOfWorkers, EndsFalse, MayBeMerged}
use Rattle.merged_log.proofs.RowSteps.{journal_here, long_in}
use Rattle.merged_log.proofs.Accepting.{refutation_accepted}

-- The forms of an owner.
abbrev pub forms_at : List (List Form) → ℕ → List Form
forms_at fs w = get_or fs w []

forms_here : (fs : List (List Form)) (w : ℕ) (forms : List Form) → slice_get fs w ≡ Some forms → forms_at fs w ≡ forms
forms_here fs w forms at = get_or_from_slice_get fs w forms [] at

no_item : {A : Type 0} (xs : List A) (i : ℕ) (x : A) → length xs ≡ 0 → slice_get xs i ≡ Some x → ⊥
no_item xs i x none at = let l = slice_get_within xs i x at in omega (arith, none, l)

row_here : (rows : List BookRow) (k : ℕ) (r : Row) → slice_get (rows_in rows) k ≡ Some r → (x : BookRow) × (slice_get rows k ≡ Some x) × (row_in x ≡ r)
row_here [] k r e = absurd cc
row_here (x ∷ rows) zero r e = (x, refl, cc)
row_here (x ∷ rows) (suc k) r e = row_here rows k r e

from_one_some : (gs : List Form) (k : ℕ) (g : Form) → from_one gs k ≡ Some g → 0 < k
from_one_some gs zero g e = absurd cc
from_one_some gs (suc k) g e = omega arith

module _ (n : ℕ) (model : List Form) (rows : List BookRow) (clause : ℕ → Form) (js : List Keeping) (fs : List (List Form)) (s : StandBeside n model rows clause js fs) where
  -- what stands of an owner
  stood : (w : ℕ) → w < length js → (j : Keeping) × (slice_get js w ≡ Some j) × (slice_get fs w ≡ Some (forms_at fs w)) × (journal_of (journals_in js) w ≡ journal_in j)
      × Journaled model (rows_in rows) clause [] w (journal_in j) (forms_at fs w)
  stood w l =
      let j = get_some js w l in
      let f = get_some fs w (omega (arith, l, s.same)) in
      let here : slice_get fs w ≡ Some (forms_at fs w) = f.1 ∙ ap (λ (x : List Form). let o : Option (List Form) = Some x in o) (sym (forms_here fs w f.0 f.1)) in (
        j.0,
        j.1,
        here,
        journal_here js w j.0 j.1,
        subst (λ (v : ℕ). Journaled model (rows_in rows) clause [] v (journal_in j.0) (forms_at fs w)) (s.owners w j.0 j.1) (s.each w j.0 (forms_at fs w) j.1 here),
      )

  range_in : AreInRange n (journals_in js)
  range_in w i t l at =
      let x = stood w (omega (arith, l, long_in js)) in
      s.ranges w i x.0 t x.1 (ap (λ (j : Journal). slice_get j.lines i) (sym x.3) ∙ at)

  owner_in : AreOfWorkers js rows → (k : ℕ) (r : Row) → slice_get (rows_in rows) k ≡ Some r → (0 < r.owner) × (r.owner < length js)
  owner_in all k r at = let x = row_here rows k r at in subst (λ (y : Row). (0 < y.owner) × (y.owner < length js)) x.2 (all k x.0 x.1)

  notes_in : AreOfWorkers js rows → NotesAreOfLines (journals_in js) (rows_in rows)
  notes_in all k m r at noted = by r.is_nogood refl noted
    where
      by : (b : Bool) → r.is_nogood ≡ b → cond b (note_of (journal_of (journals_in js) r.owner).notes k) None ≡ Some m → (1 ≤ m) × (m ≤ length (journal_of (journals_in js) r.owner).lines)
      by false is e = absurd cc
      by true is e =
          let x = stood r.owner (owner_in all k r at).1 in
          let nogood : IsNogoodOf (rows_in rows) k r.owner = (r, at, is, refl) in
          let known = x.4.noted k nogood in
          let told : note_of x.0.notes k ≡ Some m = ap (λ (j : Journal). note_of j.notes k) (sym x.3) ∙ e in
          let same : known.0 ≡ m = let both = sym known.1 ∙ told in cc in
          let within = from_one_within (forms_at fs r.owner) known.0 (clause k) known.2 in
          let some = from_one_some (forms_at fs r.owner) known.0 (clause k) known.2 in
          let long : length x.0.steps ≡ length (forms_at fs r.owner) = x.4.journal.same in
          let lines : length (journal_of (journals_in js) r.owner).lines ≡ length x.0.steps = ap (λ (j : Journal). length j.lines) x.3 in
          (omega (arith, some, same), omega (arith, within, same, long, lines))

  plain_in : 0 < length js → IsAloneOrBare rows js fs → (i k : ℕ) (t : Step) → slice_get (journal_of (journals_in js) 0).lines i ≡ Some t → NamesRow (step_refs t) k → ⊥
  plain_in some (inl alone) i k t at names =
      let x = stood 0 some in
      let here : slice_get x.0.steps i ≡ Some t = ap (λ (j : Journal). slice_get j.lines i) (sym x.3) ∙ at in
      let f = x.4.foreign i k t here names in
      let none : slice_get (rows_in []) k ≡ Some f.1.0 = subst (λ (rs : List BookRow). slice_get (rows_in rs) k ≡ Some f.1.0) alone.0 f.1.1 in
      absurd cc
  plain_in some (inr bare) i k t at names =
      let x = stood 0 some in
      let here : slice_get x.0.steps i ≡ Some t = ap (λ (j : Journal). slice_get j.lines i) (sym x.3) ∙ at in
      let none : forms_at fs 0 ≡ [] = forms_here fs 0 [] bare in
      let long : length x.0.steps ≡ length (forms_at fs 0) = x.4.journal.same in
      let empty : length (forms_at fs 0) ≡ 0 = ap (λ (gs : List Form). length gs) none in
      no_item x.0.steps i t (omega (arith, long, empty)) here

  root_in : 0 < length js → IsAloneOrBare rows js fs → IsJournal (base_of model [] clause 0) 0 (journal_of (journals_in js) 0).lines (forms_at fs 0)
  root_in some (inl alone) =
      let x = stood 0 some in
      let zero_long : length (rows_in rows) ≡ 0 = ap (λ (rs : List BookRow). length (rows_in rs)) alone.0 in
      subst (λ (j : Journal). IsJournal (base_of model [] clause 0) 0 j.lines (forms_at fs 0)) (sym x.3)
      (subst (λ (m : ℕ). IsJournal (base_of model [] clause m) 0 x.0.steps (forms_at fs 0)) zero_long x.4.journal)
  root_in some (inr bare) =
      let x = stood 0 some in
      let none : forms_at fs 0 ≡ [] = forms_here fs 0 [] bare in
      let empty : length (forms_at fs 0) ≡ 0 = ap (λ (gs : List Form). length gs) none in
      let long : length x.0.steps ≡ length (forms_at fs 0) = x.4.journal.same in
      let no_lines : length x.0.steps ≡ 0 = omega (arith, long, empty) in
      subst (λ (j : Journal). IsJournal (base_of model [] clause 0) 0 j.lines (forms_at fs 0)) (sym x.3)
      (record {
        same = long;
        making = x.4.journal.making;
        steps = λ k t f look at is finds own. absurd (no_item x.0.steps k t no_lines at);
      })

  each_in : IsAloneOrBare rows js fs → (w : ℕ) → 0 < w → w < length js → Journaled model (rows_in rows) clause (forms_at fs 0) w (journal_of (journals_in js) w) (forms_at fs w)
  each_in (inl alone) w from l = absurd (let one = alone.1 in omega (arith, one, from, l))
  each_in (inr bare) w from l =
      let x = stood w l in
      let none : forms_at fs 0 ≡ [] = forms_here fs 0 [] bare in
      subst (λ (j : Journal). Journaled model (rows_in rows) clause (forms_at fs 0) w j (forms_at fs w)) (sym x.3)
      (subst (λ (gs : List Form). Journaled model (rows_in rows) clause gs w (journal_in x.0) (forms_at fs w)) (sym none) x.4)

  journals_are : 0 < length js → length js ≤ 65 → AreOfWorkers js rows → IsAloneOrBare rows js fs → AreJournals model (rows_in rows) clause (journals_in js) (forms_at fs)
  journals_are some few all root = record {
    some_ = let l = long_in js in omega (arith, some, l);
    few = let l = long_in js in omega (arith, few, l);
    owners = λ k r at. let o = owner_in all k r at in (o.0, let a = o.1 in let l = long_in js in omega (arith, a, l));
    plain = plain_in some root;
    root = root_in some root;
    each = λ w from l. each_in root w from (let e = long_in js in omega (arith, l, e));
  }

  pub merged_well : MergeLaws → AllWritten js → (f : ℕ) → length model < 2 ^ 63 → length js ≤ 65 → length rows ≤ 4194304 → AreOfWorkers js rows → IsAloneOrBare rows js fs → EndsFalse js fs f
      → MayBeMerged n model js rows f
  merged_well laws down f fits few many all root ends =
      let inside = slice_get_within js f ends.journal ends.journal_is in
      let some : 0 < length js = omega (arith, inside) in
      let x = journal_here js f ends.journal ends.journal_is in
      let lines : length (journal_of (journals_in js) f).lines ≡ length ends.journal.steps = ap (λ (j : Journal). length j.lines) x in
      let fs_is : forms_at fs f ≡ ends.forms = forms_here fs f ends.forms ends.forms_are in
      let found : from_one (forms_at fs f) (length (journal_of (journals_in js) f).lines) ≡ Some ends.last =
      ap (λ (m : ℕ). from_one (forms_at fs f) m) lines ∙ ap (λ (gs : List Form). from_one gs (length ends.journal.steps)) fs_is ∙ ends.last_is in
      record {
        owned = λ k r at. (all k r at).1;
        lines = notes_in all;
        finisher = inside;
        ends = from_one_some (forms_at fs f) (length (journal_of (journals_in js) f).lines) ends.last found;
        accepted = refutation_accepted laws (length model) n model js rows clause (forms_at fs) f ends.last down s.owners fits many inside refl (journals_are some few all root) range_in found ends.plainly_false;
      }
