use Rattle.std.proofs.Common.{◌≡◌, ℕ, [], ◌∷◌, length, Some, refl, ap, sym, subst, ◌∙◌, arith}
use Rattle.std.specs.Prelude.{slice_get}
use Rattle.std.proofs.lemmas.Option.{slice_get_read}
use Rattle.std.proofs.lemmas.Result.{err_from_is_err_and}
use Rattle.outer_io.specs.KnownText.{Wrote}
use Rattle.outer_io.specs.Sinks.{Spot}
use Rattle.log_theory.specs.declared.step.Ref.TheVariants.{Made}
use Rattle.log_theory.specs.declared.step.Step.TheVariants.{E}
use Rattle.journal_theory.specs.Journals.{Journal}
use Rattle.journal_theory.specs.Merging.{merged, last_name}
use Rattle.merged_log.specs.Profiles.{text_in}
use Rattle.merged_log.specs.Steps.{journals_in, rows_in}
use Rattle.merged_log.proofs.Putting.{steps-then, steps-first}
use Rattle.merged_log.proofs.RowSteps.{journal_here, take_replicate}
use Rattle.merged_log.proofs.refutation.put_body.Goals as goal

pub put_merged-requires-clause-none : goal.put_merged-requires-clause-none
put_merged-requires-clause-none g c = take_replicate (length c.args.journals.now) 65 c.requires.few

pub returns-in_err-put_merged-clause-text : goal.returns-in_err-put_merged-clause-text
returns-in_err-put_merged-clause-text g c =
    let p = err_from_is_err_and c.from_residual.result c.from_residual.ensures.1 in
    let js = journals_in c.args.journals.now in
    let f = c.args.finisher in
    rw p.1 (steps-first c.args.profile _ _ _ (merged js f (rows_in c.args.rows.now)) (E (Made (last_name js f)) ∷ []) c.in_err-put_merged.ensures.text)

pub returns-clause-text : goal.returns-clause-text
returns-clause-text g c =
    let js = c.args.journals.now in
    let f = c.args.finisher in
    let j = c.index-journals-from.result in
    let inside = c.requires.finisher in
    let here : slice_get js f ≡ Some j = ap (slice_get js) (sym c.from.ensures) ∙ slice_get_read js _ c.from.result j refl (omega (arith, inside, c.from.ensures)) c.index-journals-from.is in
    let count : length j.steps ≡ (last_name (journals_in js) f).number = ap (λ (x : Journal). length x.lines) (sym (journal_here js f j here)) in
    let end = subst (λ (n : ℕ). Wrote (g.S.Sink.spot c.put_merged.new.sink).steady (g.S.Sink.contents c.put_merged.new.sink) (g.S.Sink.contents c.write_end.new.sink) c.write_end.result (text_in c.args.profile (E (Made (record { owner = f; number = n })) ∷ [])))
    count c.write_end.ensures.text in
    steps-then c.args.profile _ _ (ap (λ (s : Spot). s.steady) c.put_merged.ensures.cause.same) _ _ _ c.write_end.result (merged (journals_in js) f (rows_in c.args.rows.now)) (E (Made (last_name (journals_in js) f)) ∷ [])
    c.in_ok-put_merged.ensures.text end
