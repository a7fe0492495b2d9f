-- The parts of a log may be merged.
use Rattle.std.proofs.Common.{inl, inr, ◌≡◌, ℕ, zero, suc, ◌^◌, ◌<◌, ◌≤◌, List, [], ◌∷◌, length, Some, refl, sym, ap, subst, ◌∙◌, arith}
use Rattle.std.specs.Prelude.{slice_get}
use Rattle.graph_theory.specs.Graph.{size}
use Rattle.graph_theory.specs.Embedding.{Problem}
use Rattle.proof_theory.specs.Forms.{Form}
use Rattle.encoding_theory.specs.Variables.{variables}
use Rattle.encoding_theory.specs.Encoding.{encoding}
use Rattle.graph_rows.specs.Orders.{IsOrder}
use Rattle.pb_encoding.proofs.LineNumbers.{encoding_few}
use Rattle.nogood_book.specs.declared.row.Row.{Row}
use Rattle.journals.specs.Keeping.{Keeping}
use Rattle.journal_theory.proofs.Placing.{get_some}
use Rattle.search_journal.specs.Lines.{row_clause}
use Rattle.search_journal.specs.Numbers.{RowsRise}
use Rattle.search_journal.proofs.Numbers.{rows_order}
use Rattle.merged_log.specs.Notes.{NotesRise}
use Rattle.merged_log.specs.Steps.{AllRise, StandBeside, IsAloneOrBare, AreOfWorkers, EndsFalse, MayBeMerged}
use Rattle.proof_collection.specs.declared.proof.Logged.{Logged}
use Rattle.proof_collection.specs.Parts.{StandsAt, IsBare, ArePartsOf}
use Rattle.proof_collection.specs.Proofs.{IsProof}

-- ---- forms for all journals

-- For each journal a list of forms that fits it at its place.
record Chosen (Fits : ℕ → Keeping → List Form → Type 0) (js : List Keeping) : Type 0 where
  forms : List (List Form)
  same : length forms ≡ length js
  fits : (w : ℕ) (j : Keeping) (fs : List Form) → slice_get js w ≡ Some j → slice_get forms w ≡ Some fs → Fits w j fs

chosen : (Fits : ℕ → Keeping → List Form → Type 0) (js : List Keeping) → ((w : ℕ) (j : Keeping) → slice_get js w ≡ Some j → (fs : List Form) × Fits w j fs) → Chosen Fits js
chosen Fits [] each = record { forms = []; same = refl; fits = λ w j fs at to. absurd cc }
chosen Fits (j ∷ js) each = by (each 0 j refl) (chosen (λ w. Fits (suc w)) js (λ w i at. each (suc w) i at))
  where
    at_all : (first : List Form) (rest : Chosen (λ w. Fits (suc w)) js) → Fits 0 j first → (w : ℕ) (i : Keeping) (fs : List Form) → slice_get (j ∷ js) w ≡ Some i
        → slice_get (first ∷ rest.forms) w ≡ Some fs → Fits w i fs
    at_all first rest f zero i fs at to =
        let same_journal : j ≡ i = cc in
        let same_forms : first ≡ fs = cc in
        subst (λ (x : Keeping). Fits 0 x fs) same_journal (subst (Fits 0 j) same_forms f)
    at_all first rest f (suc w) i fs at to = rest.fits w i fs at to

    by : (fs : List Form) × Fits 0 j fs → Chosen (λ w. Fits (suc w)) js → Chosen Fits (j ∷ js)
    by first rest = record {
      forms = first.0 ∷ rest.forms;
      same = ap (λ (n : ℕ). suc n) rest.same;
      fits = at_all first.0 rest first.1;
    }

-- ---- what merging asks

notes_rise : (xs : List (ℕ × ℕ)) → RowsRise xs → NotesRise xs
notes_rise xs rise i k x y at to less = rows_order xs i k x y rise at to less

-- The encoding has no more lines than can be numbered.
lines_few : (q : Problem) → size q.pattern ≤ 1024 → size q.target ≤ 8192 → IsOrder (size q.pattern) q.less → length (encoding q) < 2 ^ 63
lines_few q ps ts order = let f = encoding_few q ps ts order in omega (arith, f)

no_forms : (forms : List Form) → 0 ≡ length forms → forms ≡ []
no_forms [] e = refl
no_forms (f ∷ forms) e = absurd (omega (arith, e))

-- What merging says of journals.
abbrev pub MayMerge : List Keeping → Type 0
MayMerge js = (n finisher : ℕ) (model : List Form) (rows : List Row) (clause : ℕ → Form) (fs : List (List Form)) → length model < 2 ^ 63 → length js ≤ 65 → length rows ≤ 4194304
    → StandBeside n model rows clause js fs → AreOfWorkers js rows → IsAloneOrBare rows js fs → EndsFalse js fs finisher → MayBeMerged n model js rows finisher

module _ (q : Problem) (l : Logged) (parts : ArePartsOf q l) where
  all_forms : Chosen (StandsAt q l.rows.items l.finisher) l.journals.items
  all_forms = chosen (StandsAt q l.rows.items l.finisher) l.journals.items parts.each

  all_rise : AllRise l.journals.items
  all_rise w j at = notes_rise j.notes (parts.each w j at).1.beside.notes

  stand : StandBeside (variables q) (encoding q) l.rows.items (row_clause q l.rows.items) l.journals.items all_forms.forms
  stand = record {
    same = all_forms.same;
    owners = parts.owners;
    notes = all_rise;
    each = λ w j forms at to. (all_forms.fits w j forms at to).beside.journaled;
    ranges = λ w i j s at step. (parts.each w j at).1.beside.stands.ranges i s step;
  }

  -- the forms of the journal at a place
  forms_at : (w : ℕ) → w < length l.journals.items → (forms : List Form) × (slice_get all_forms.forms w ≡ Some forms)
  forms_at w less = get_some all_forms.forms w (omega (arith, less, all_forms.same))

  root_is : IsAloneOrBare l.rows.items l.journals.items all_forms.forms
  root_is = elim parts.root [ inl alone ↦ inl (alone.rows_none, alone.one) | inr bare ↦ inr (no_line bare) ]
    where
      no_line : IsBare l.journals.items → slice_get all_forms.forms 0 ≡ Some []
      no_line bare =
          let some : 0 < length l.journals.items = omega (arith, parts.finisher) in
          let j = get_some l.journals.items 0 some in
          let f = forms_at 0 some in
          let long = (all_forms.fits 0 j.0 f.0 j.1 f.1).beside.journaled.journal.same in
          let none : f.0 ≡ [] = no_forms f.0 (sym (ap length (bare j.0 j.1)) ∙ long) in
          subst (λ (x : List Form). slice_get all_forms.forms 0 ≡ Some x) none f.1

  ends : EndsFalse l.journals.items all_forms.forms l.finisher
  ends =
      let j = get_some l.journals.items l.finisher parts.finisher in
      let f = forms_at l.finisher parts.finisher in
      let e = (all_forms.fits l.finisher j.0 f.0 j.1 f.1).ends refl in
      record { journal = j.0; journal_is = j.1; forms = f.0; forms_are = f.1; last = e.last; last_is = e.last_is; plainly_false = e.plainly_false }

  pub proven : size q.pattern ≤ 1024 → size q.target ≤ 8192 → IsOrder (size q.pattern) q.less → MayMerge l.journals.items → IsProof q l
  proven ps ts order may = record {
    few = parts.few;
    owners = parts.owners;
    notes = all_rise;
    rows_fit = parts.fit;
    merged = may (variables q) l.finisher (encoding q) l.rows.items (row_clause q l.rows.items) all_forms.forms (lines_few q ps ts order) parts.few parts.fit stand parts.workers root_is ends;
  }
