-- Journals beside the rows of a book have what a merge asks for.
use Rattle.std.proofs.Common.{◌≡◌, ℕ, zero, suc, ◌<◌, ◌≤◌, cond, Bool, true, false, List, length, Option, Some, None, option_map, refl, sym, ap, ◌∙◌, arith}
use Rattle.std.proofs.lemmas.Option.{slice_get-map}
use Rattle.proof_theory.specs.Forms.{Form}
use Rattle.log_theory.specs.Tables.{from_one}
use Rattle.nogood_book.specs.declared.row.Row.{Row as BookRow}
use Rattle.journals.specs.Keeping.{Keeping}
use Rattle.journal_theory.specs.Journals.{Row, Journal, note_of}
use Rattle.journal_theory.specs.Merging.{journal_of, AreJournals}
use Rattle.journal_theory.proofs.Placing.{some_same, from_one_within}
use Rattle.merged_log.specs.Steps.{journals_in, row_in, rows_in, HaveOwners, NotesAreOfLines}
use Rattle.merged_log.specs.Premises.{PremiseLaws}
use Rattle.merged_log.proofs.RowSteps.{long_in}

some_line : (fs : List Form) (n : ℕ) (f : Form) → from_one fs n ≡ Some f → 0 < n
some_line fs zero f e = absurd cc
some_line fs (suc n) f e = omega arith

module _ (model : List Form) (rows : List Row) (clause : ℕ → Form) (js : List Journal) (forms : ℕ → List Form) (all : AreJournals model rows clause js forms) where
  of_lines : NotesAreOfLines js rows
  of_lines k n r at e = by r.is_nogood refl e
    where
      by : (b : Bool) → r.is_nogood ≡ b → cond b (note_of (journal_of js r.owner).notes k) None ≡ Some n → (1 ≤ n) × (n ≤ length (journal_of js r.owner).lines)
      by false is e = absurd cc
      by true is e =
          let o = all.owners k r at in
          let j = all.each r.owner o.0 o.1 in
          let noted = j.noted k (r, at, is, refl) in
          let same : noted.0 ≡ n = some_same noted.0 n (sym noted.1 ∙ e) in
          let some = some_line (forms r.owner) noted.0 (clause k) noted.2 in
          let within = from_one_within (forms r.owner) noted.0 (clause k) noted.2 in
          let long = j.journal.same in (
            omega (arith, some, same),
            omega (arith, within, same, long),
          )

owned : (model : List Form) (rows : List BookRow) (clause : ℕ → Form) (js : List Keeping) (forms : ℕ → List Form) → AreJournals model (rows_in rows) clause (journals_in js) forms → HaveOwners js rows
owned model rows clause js forms all k r at =
    let o = all.owners k (row_in r) (slice_get-map row_in rows k ∙ ap (λ (x : Option BookRow). option_map row_in x) at) in
    let l : r.owner < length (journals_in js) = o.1 in
    omega (arith, l, long_in js)

pub premises : PremiseLaws
premises = record {
  owned = owned;
  of_lines = λ model rows clause js forms all. of_lines model (rows_in rows) clause (journals_in js) forms all;
  ends = λ js forms f last found. some_line (forms f) (length (journal_of (journals_in js) f).lines) last found;
}
