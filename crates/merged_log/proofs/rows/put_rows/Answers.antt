use Rattle.std.proofs.Common.{◌≡◌, ℕ, ◌+◌, ◌<◌, rules, List, ◌++◌, length, take, drop, Some, None, option_map, get_or, Option, ap, sym, subst, ◌∙◌}
use Rattle.std.specs.Prelude.{slice_get}
use Rattle.std.specs.Io.KnownBytes.{append_known}
use Rattle.std.proofs.lemmas.Option.{slice_get-get_or, slice_get-map}
use Rattle.std.proofs.lemmas.Result.{err_from_is_err_and}
use Rattle.outer_io.specs.Sinks.{Spot}
use Rattle.outer_io.specs.KnownText.{StopsIn}
use Rattle.log_theory.specs.declared.step.Step.{Step}
use Rattle.nogood_book.specs.declared.row.Row.{Row as BookRow}
use Rattle.nogood_book.specs.declared.row.RowKind.TheVariants as kinds
use Rattle.journal_theory.specs.Merging.{row_lines, row_done, noted_at}
use Rattle.merged_log.specs.Profiles.{text_in}
use Rattle.merged_log.specs.Steps.{journals_in, row_in, rows_in, rows_steps, rows_done}
use Rattle.merged_log.proofs.Putting.{steps-stop, steps-more}
use Rattle.merged_log.proofs.RowSteps.{rows_more, done_more, rows_cut}
use Rattle.merged_log.proofs.rows.put_rows.Goals as goal

-- The row at a place.
abbrev row_at : List BookRow → ℕ → BookRow
row_at rows i = get_or rows i (record { kind = kinds.Step; owner = 0; parent = None; vertex = 0; value = 0 })

here : (rows : List BookRow) (i : ℕ) → i < length rows → slice_get (rows_in rows) i ≡ Some (row_in (row_at rows i))
here rows i h = slice_get-map row_in rows i ∙ ap (λ (o : Option BookRow). option_map row_in o) (slice_get-get_or rows i _ h)

pub put_of_row-requires-clause-lines : goal.put_of_row-requires-clause-lines
put_of_row-requires-clause-lines g c n at =
    c.requires.lines c.loop-place.place n (row_in (row_at c.args.rows.now c.loop-place.place)) (here c.args.rows.now c.loop-place.place c.loop-place-test.true) at

pub returns-in_err-put_of_row-clause-text : goal.returns-in_err-put_of_row-clause-text
returns-in_err-put_of_row-clause-text g c =
    let p = err_from_is_err_and c.from_residual.result c.from_residual.ensures.1 in
    let js = journals_in c.args.journals.now in
    let rows = rows_in c.args.rows.now in
    let i = c.loop-place.place in
    let r = row_in (row_at c.args.rows.now i) in
    let done = c.args.done.now in
    let stop = subst (λ (d : List ℕ). StopsIn (g.S.Sink.spot c.loop-place.sink).steady (g.S.Sink.contents c.loop-place.sink) (g.S.Sink.contents c.put_of_row.new.sink) (text_in c.args.profile (row_lines js d i r.owner (noted_at js i r))))
    c.loop-place.invariant.counts c.in_err-put_of_row.ensures.text in
    let rest = rows_steps js (0 + length (take (i + 1) rows)) (drop (i + 1) rows) (rows_done js 0 (take (i + 1) rows) done) in
    let whole : (rows_steps js 0 (take i rows) done ++ row_lines js (rows_done js 0 (take i rows) done) i r.owner (noted_at js i r)) ++ rest ≡ rows_steps js 0 rows done =
    ap (λ (ss : List Step). ss ++ rest) (sym (rows_more js rows i r done (here c.args.rows.now i c.loop-place-test.true))) ∙ sym (rows_cut js rows (i + 1) done) in
    rw p.1
    (subst (λ (ss : List Step). StopsIn (g.S.Sink.spot c.args.sink.now).steady (g.S.Sink.contents c.args.sink.now) (g.S.Sink.contents c.put_of_row.new.sink) (text_in c.args.profile ss)) whole
    (steps-stop c.args.profile _ _ (ap (λ (s : Spot). s.steady) c.loop-place.invariant.same) _ _ _ (rows_steps js 0 (take i rows) done) (row_lines js (rows_done js 0 (take i rows) done) i r.owner (noted_at js i r)) rest
    c.loop-place.invariant.text stop))

pub loop-place-preserved : goal.loop-place-preserved
loop-place-preserved g c =
    let js = journals_in c.args.journals.now in
    let rows = rows_in c.args.rows.now in
    let i = c.loop-place.place in
    let r = row_in (row_at c.args.rows.now i) in
    let done = c.args.done.now in
    let at = here c.args.rows.now i c.loop-place-test.true in
    let put : g.S.Sink.contents c.put_of_row.new.sink ≡ append_known (g.S.Sink.contents c.loop-place.sink) (text_in c.args.profile (row_lines js (rows_done js 0 (take i rows) done) i r.owner (noted_at js i r))) =
    c.in_ok-put_of_row.ensures.text
    ∙ ap (λ (d : List ℕ). append_known (g.S.Sink.contents c.loop-place.sink) (text_in c.args.profile (row_lines js d i r.owner (noted_at js i r)))) c.loop-place.invariant.counts in
    record {
      text =
          steps-more c.args.profile (g.S.Sink.contents c.args.sink.now) (g.S.Sink.contents c.loop-place.sink) (g.S.Sink.contents c.put_of_row.new.sink) (rows_steps js 0 (take i rows) done)
          (row_lines js (rows_done js 0 (take i rows) done) i r.owner (noted_at js i r)) c.loop-place.invariant.text put
          ∙ ap (λ (ss : List Step). append_known (g.S.Sink.contents c.args.sink.now) (text_in c.args.profile ss)) (sym (rows_more js rows i r done at));
      counts =
          c.in_ok-put_of_row.ensures.counts ∙ ap (λ (d : List ℕ). row_done d r.owner (noted_at js i r)) c.loop-place.invariant.counts
          ∙ sym (done_more js rows i r done at);
      len = search rules;
      same = search rules;
      others = search rules;
      faults = search rules;
    }
