use Rattle.std.proofs.Common.{◌≡◌, ℕ, List, ◌++◌, length, drop, Some, get_or, refl, ap, sym, subst, ◌∙◌, arith}
use Rattle.std.specs.Prelude.{slice_get}
use Rattle.std.proofs.lemmas.Option.{slice_get_read}
use Rattle.std.proofs.lemmas.Result.{err_from_is_err_and}
use Rattle.outer_io.specs.KnownText.{Wrote, StopsIn}
use Rattle.outer_io.specs.Sinks.{Spot}
use Rattle.log_theory.specs.declared.step.Step.{Step}
use Rattle.journal_theory.specs.Journals.{numbered}
use Rattle.journal_theory.specs.Merging.{journal_of, at_of}
use Rattle.merged_log.specs.Profiles.{text_in}
use Rattle.journals.proofs.Texts.{ends_long}
use Rattle.merged_log.specs.Lines.{part_of}
use Rattle.merged_log.specs.Steps.{journals_in, rows_in, rows_steps, rows_done}
use Rattle.merged_log.proofs.Putting.{steps-then, steps-first}
use Rattle.merged_log.proofs.RowSteps.{merge_parts, last_part}
use Rattle.merged_log.proofs.refutation.put_from.Goals as goal

pub returns-in_err-put_rows-clause-text : goal.returns-in_err-put_rows-clause-text
returns-in_err-put_rows-clause-text g c =
    let p = err_from_is_err_and c.from_residual.result c.from_residual.ensures.1 in
    let js = journals_in c.args.journals.now in
    let rows = rows_in c.args.rows.now in
    let f = c.args.finisher in
    let d = rows_done js 0 rows c.args.done.now in
    let rest = numbered f (at_of d f) (drop (at_of d f) (journal_of js f).lines) in
    rw p.1
    (subst (λ (ss : List Step). StopsIn (g.S.Sink.spot c.args.sink.now).steady (g.S.Sink.contents c.args.sink.now) (g.S.Sink.contents c.put_rows.new.sink) (text_in c.args.profile ss))
    (sym (merge_parts js f 0 rows c.args.done.now)) (steps-first c.args.profile _ _ _ (rows_steps js 0 rows c.args.done.now) rest c.in_err-put_rows.ensures.text))

pub put_part-requires : goal.put_part-requires
put_part-requires g c =
    let long : length c.ends.result.now ≡ length c.index-journals-from.result.steps = ap length c.ends.ensures.ends ∙ ends_long 0 c.index-journals-from.result.steps in
    omega (arith, long)

pub returns-clause-text : goal.returns-clause-text
returns-clause-text g c =
    let js = c.args.journals.now in
    let rows = rows_in c.args.rows.now in
    let f = c.args.finisher in
    let j = c.index-journals-from.result in
    let n = length c.ends.result.now in
    let a = rows_steps (journals_in js) 0 rows c.args.done.now in
    let d = rows_done (journals_in js) 0 rows c.args.done.now in
    let inside = c.requires.finisher in
    let here : slice_get js f ≡ Some j = ap (slice_get js) (sym c.from.ensures) ∙ slice_get_read js _ c.from.result j refl (omega (arith, inside, c.from.ensures)) c.index-journals-from.is in
    let long : n ≡ length j.steps = ap length c.ends.ensures.ends ∙ ends_long 0 j.steps in
    let part : part_of j (get_or c.put_rows.new.done c.from-2.result 0) n ≡ numbered f (at_of d f) (drop (at_of d f) (journal_of (journals_in js) f).lines) =
    ap (λ (w : ℕ). part_of j (get_or c.put_rows.new.done w 0) n) c.from-2.ensures ∙ ap (λ (x : List ℕ). part_of j (get_or x f 0) n) c.in_ok-put_rows.ensures.counts
    ∙ last_part js f j (at_of d f) n here (c.requires.owners f j here) (omega (arith, long)) in
    subst (λ (ss : List Step). Wrote (g.S.Sink.spot c.args.sink.now).steady (g.S.Sink.contents c.args.sink.now) (g.S.Sink.contents c.put_part.new.sink) c.put_part.result (text_in c.args.profile ss))
    (ap (λ (ss : List Step). a ++ ss) part ∙ sym (merge_parts (journals_in js) f 0 rows c.args.done.now))
    (steps-then c.args.profile _ _ (ap (λ (s : Spot). s.steady) c.put_rows.ensures.cause.same) _ _ _ c.put_part.result a (part_of j (get_or c.put_rows.new.done c.from-2.result 0) n)
    c.in_ok-put_rows.ensures.text c.put_part.ensures.text)
