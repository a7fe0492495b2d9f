-- The merged log is accepted where the finisher's last form is plainly false: all its numbers are in their ranges, and its lines step.
use Rattle.std.proofs.Common.{◌≡◌, ℕ, zero, suc, ◌+◌, ◌<◌, ◌≤◌, ◌^◌, Bool, true, false, cond, List, [], ◌∷◌, ◌++◌, length, take, drop, Option, Some, None, refl, sym, ap, subst, ◌∙◌, arith}
use Rattle.std.specs.Prelude.{slice_get}
use Rattle.std.proofs.lemmas.Option.{slice_get_within}
use Rattle.proof_theory.specs.Forms.{Form}
use Rattle.log_theory.specs.declared.step.Ref.TheVariants.{Made}
use Rattle.log_theory.specs.declared.step.Step.{Step}
use Rattle.log_theory.specs.declared.step.Step.TheVariants.{N, E}
use Rattle.log_theory.specs.Tables.{made_by, from_one, standing}
use Rattle.journal_theory.specs.Stepping.{IsWritten, AreWritten, whole_log}
use Rattle.journal_theory.specs.Journals.{named, numbered, Row, Journal, note_of}
use Rattle.journal_theory.specs.Merging.{journal_of, at_of, begun, lines_to, noted_at, row_lines, row_done, merge_from, merged, last_name, AreJournals, AreFitting}
use Rattle.journal_theory.specs.Laws.{AcceptedLaw, MergeLaws}
use Rattle.journal_theory.proofs.Placing.{get_drop, get_take, from_one_within, undeleted_at}
use Rattle.journal_theory.proofs.Writing.{text_accepted}
use Rattle.journal_theory.proofs.Merging.{merge}

written_on : (n : ℕ) (xs ys : List Step) → AreWritten n xs → AreWritten n ys → AreWritten n (xs ++ ys)
written_on n [] ys a b = b
written_on n (x ∷ xs) ys a b = (a.0, written_on n xs ys a.1 b)

-- A run of an owner's lines can be written where each of them can.
written_numbered : (n owner place : ℕ) (ss : List Step) → ((i : ℕ) (s : Step) → slice_get ss i ≡ Some s → IsWritten n (named owner (place + i) s)) → AreWritten n (numbered owner place ss)
written_numbered n owner place [] h = tt
written_numbered n owner place (s ∷ ss) h = (
  let e : place + 0 ≡ place = omega arith in subst (λ (m : ℕ). IsWritten n (named owner m s)) e (h 0 s refl),
  written_numbered n owner (place + 1) ss (λ i x at. let e : place + suc i ≡ place + 1 + i = omega arith in subst (λ (m : ℕ). IsWritten n (named owner m x)) e (h (suc i) x at)),
)

-- A line that shares a row.
written_row : (n k owner number : ℕ) → k < 2 ^ 22 → owner ≤ 64 → 1 ≤ number → number < 2 ^ 63 → IsWritten n (N k (record { owner = owner; number = number }))
written_row n k owner number row few some most = record { is_step = (row, record { owner_fits = few; from_one = some; number_fits = most }); variables = refl }

one_or_more : (fs : List Form) (n : ℕ) (f : Form) → from_one fs n ≡ Some f → 1 ≤ n
one_or_more fs zero f e = absurd cc
one_or_more fs (suc n) f e = omega arith

module _ (n : ℕ) (model : List Form) (rows : List Row) (clause : ℕ → Form) (js : List Journal) (forms : ℕ → List Form) (all : AreJournals model rows clause js forms) (fits : AreFitting n model rows js) where
  -- Some of an owner's lines in order.
  written_part : (w a : ℕ) (ss : List Step) → w < length js → ((i : ℕ) (s : Step) → slice_get ss i ≡ Some s → slice_get (journal_of js w).lines (a + i) ≡ Some s) → AreWritten n (numbered w a ss)
  written_part w a ss inside stand = written_numbered n w a ss (λ i s at. fits.lines_fit w (a + i) s inside (stand i s at))

  written_to : (w m : ℕ) (done : List ℕ) → w < length js → AreWritten n (lines_to js done w m)
  written_to w m done inside =
      written_part w (at_of done w) (drop (at_of done w) (take m (journal_of js w).lines)) inside
      (λ i s at. (get_take m (journal_of js w).lines (at_of done w + i) s (sym (get_drop (at_of done w) (take m (journal_of js w).lines) i) ∙ at)).1)

  written_rest : (w : ℕ) (done : List ℕ) → w < length js → AreWritten n (numbered w (at_of done w) (drop (at_of done w) (journal_of js w).lines))
  written_rest w done inside =
      written_part w (at_of done w) (drop (at_of done w) (journal_of js w).lines) inside (λ i s at. sym (get_drop (at_of done w) (journal_of js w).lines i) ∙ at)

  -- What a row brings can be written.
  written_of_row : (k : ℕ) (done : List ℕ) (r : Row) → slice_get rows k ≡ Some r → AreWritten n (row_lines js done k r.owner (noted_at js k r))
  written_of_row k done r at = by r.is_nogood refl
    where
      by : (b : Bool) → r.is_nogood ≡ b → AreWritten n (row_lines js done k r.owner (cond b (note_of (journal_of js r.owner).notes k) None))
      by false is = tt
      by true is =
          let o = all.owners k r at in
          let positive : 0 < r.owner = o.0 in
          let inside : r.owner < length js = o.1 in
          let noted = (all.each r.owner positive inside).noted k (r, at, is, refl) in
          let few = all.few in
          let rows_fit = fits.rows_fit in
          let place = slice_get_within rows k r at in
          let some = one_or_more (forms r.owner) noted.0 (clause k) noted.2 in
          let most = from_one_within (forms r.owner) noted.0 (clause k) noted.2 in
          let same = (all.each r.owner positive inside).journal.same in
          let short = fits.short r.owner in
          subst (λ (x : Option ℕ). AreWritten n (row_lines js done k r.owner x)) (sym noted.1)
          (written_on n (lines_to js done r.owner noted.0) (N k (record { owner = r.owner; number = noted.0 }) ∷ []) (written_to r.owner noted.0 done inside)
          (written_row n k r.owner noted.0 (omega (arith, rows_fit, place)) (omega (arith, few, inside)) some (omega (arith, most, same, short)), tt))

  written_from : (f k : ℕ) (rs : List Row) (done : List ℕ) → f < length js → ((i : ℕ) → slice_get rs i ≡ slice_get rows (k + i)) → AreWritten n (merge_from js f k rs done)
  written_from f k [] done inside stand = written_rest f done inside
  written_from f k (r ∷ rs) done inside stand =
      let here : slice_get rows k ≡ Some r = (let e : k ≡ k + 0 = omega arith in ap (slice_get rows) e ∙ sym (stand 0)) in
      written_on n (row_lines js done k r.owner (noted_at js k r)) (merge_from js f (k + 1) rs (row_done done r.owner (noted_at js k r))) (written_of_row k done r here)
      (written_from f (k + 1) rs (row_done done r.owner (noted_at js k r)) inside (λ i. let e : k + suc i ≡ k + 1 + i = omega arith in stand (suc i) ∙ ap (slice_get rows) e))

  written_whole : (f : ℕ) (last : Form) → f < length js → from_one (forms f) (length (journal_of js f).lines) ≡ Some last
      → AreWritten n (whole_log model (merged js f rows) (Made (last_name js f)))
  written_whole f last inside found =
      let some = one_or_more (forms f) (length (journal_of js f).lines) last found in
      let few = all.few in
      let positive = all.some_ in (
        record { is_step = tt; variables = refl },
        (
          record { is_step = fits.model_fits; variables = refl },
          written_on n (merged js f rows) (E (Made (last_name js f)) ∷ [])
              (written_on n (numbered 0 0 (journal_of js 0).lines) (merge_from js f 0 rows (begun js)) (written_part 0 0 (journal_of js 0).lines positive (λ i s at. let e : 0 + i ≡ i = omega arith in ap (slice_get (journal_of js 0).lines) e ∙ at))
              (written_from f 0 rows (begun js) inside (λ i. let e : i ≡ 0 + i = omega arith in ap (slice_get rows) e)))
              (record { is_step = record { owner_fits = omega (arith, few, inside); from_one = some; number_fits = fits.short f }; variables = refl }, tt),
        ),
      )

accepted : AcceptedLaw
accepted n model rows clause js forms f last all fits inside found false_ =
    let m = merge model rows clause js forms f all inside in
    let number = length (journal_of js f).lines in
    let at : standing (from_one (made_by m.0 f) number) ≡ Some last = ap (λ (os : List (Option Form)). standing (from_one os number)) m.2 ∙ undeleted_at (forms f) number ∙ found in
    text_accepted n model (merged js f rows) (Made (last_name js f)) m.0 last (written_whole n model rows clause js forms all fits f last inside found) m.1 at false_

pub merges : MergeLaws
merges = record { merged_steps = merge; accepted = accepted }
