use Rattle.std.proofs.Common.{◌≡◌, ℕ, List, ◌++◌, length, refl, ap, subst, ◌∙◌, arith}
use Rattle.std.proofs.lemmas.Option.{slice_get_read}
use Rattle.std.proofs.lemmas.Result.{err_from_is_err_and}
use Rattle.outer_io.specs.KnownText.{Wrote, StopsIn}
use Rattle.outer_io.specs.Sinks.{Spot}
use Rattle.log_theory.specs.declared.step.Step.{Step}
use Rattle.journal_theory.specs.Merging.{merge_from, begun}
use Rattle.merged_log.specs.Profiles.{text_in}
use Rattle.journals.proofs.Texts.{ends_long}
use Rattle.merged_log.specs.Lines.{part_of}
use Rattle.merged_log.specs.Steps.{journals_in, rows_in}
use Rattle.merged_log.proofs.Putting.{steps-then, steps-first}
use Rattle.merged_log.proofs.RowSteps.{first_part}
use Rattle.merged_log.proofs.refutation.put_merged.Goals as goal

pub put_part-requires : goal.put_part-requires
put_part-requires g c =
    let long : length c.ends.result.now ≡ length c.index-journals-0.result.steps = ap length c.ends.ensures.ends ∙ ends_long 0 c.index-journals-0.result.steps in
    omega (arith, long)

pub returns-in_err-put_part-clause-text : goal.returns-in_err-put_part-clause-text
returns-in_err-put_part-clause-text g c =
    let p = err_from_is_err_and c.from_residual.result c.from_residual.ensures.1 in
    let js = c.args.journals.now in
    let j = c.index-journals-0.result in
    let n = length c.ends.result.now in
    let inside = c.requires.finisher in
    let here = slice_get_read js _ 0 j refl (omega (arith, inside)) c.index-journals-0.is in
    let long : n ≡ length j.steps = ap length c.ends.ensures.ends ∙ ends_long 0 j.steps in
    let rest = merge_from (journals_in js) c.args.finisher 0 (rows_in c.args.rows.now) (begun (journals_in js)) in
    rw p.1
    (subst (λ (ss : List Step). StopsIn (g.S.Sink.spot c.args.sink.now).steady (g.S.Sink.contents c.args.sink.now) (g.S.Sink.contents c.put_part.new.sink) (text_in c.args.profile (ss ++ rest)))
    (first_part js j n here (c.requires.owners 0 j here) (omega (arith, long))) (steps-first c.args.profile _ _ _ (part_of j 0 n) rest c.in_err-put_part.ensures.text))

pub returns-clause-text : goal.returns-clause-text
returns-clause-text g c =
    let js = c.args.journals.now in
    let j = c.index-journals-0.result in
    let n = length c.ends.result.now in
    let f = c.args.finisher in
    let rows = rows_in c.args.rows.now in
    let inside = c.requires.finisher in
    let here = slice_get_read js _ 0 j refl (omega (arith, inside)) c.index-journals-0.is in
    let long : n ≡ length j.steps = ap length c.ends.ensures.ends ∙ ends_long 0 j.steps in
    let rest = subst (λ (d : List ℕ). Wrote (g.S.Sink.spot c.put_part.new.sink).steady (g.S.Sink.contents c.put_part.new.sink) (g.S.Sink.contents c.put_from.new.sink) c.put_from.result (text_in c.args.profile (merge_from (journals_in js) f 0 rows d)))
    c.begin.ensures c.put_from.ensures.text in
    subst (λ (ss : List Step). Wrote (g.S.Sink.spot c.args.sink.now).steady (g.S.Sink.contents c.args.sink.now) (g.S.Sink.contents c.put_from.new.sink) c.put_from.result (text_in c.args.profile (ss ++ merge_from (journals_in js) f 0 rows (begun (journals_in js)))))
    (first_part js j n here (c.requires.owners 0 j here) (omega (arith, long)))
    (steps-then c.args.profile _ _ (ap (λ (s : Spot). s.steady) c.put_part.ensures.cause.same) _ _ _ c.put_from.result (part_of j 0 n) (merge_from (journals_in js) f 0 rows (begun (journals_in js)))
    c.in_ok-put_part.ensures.text rest)
