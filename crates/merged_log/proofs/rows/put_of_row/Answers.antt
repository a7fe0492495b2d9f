use Rattle.std.proofs.Common.{◌≡◌, ℕ, List, Some, get_or, set, refl, ap, sym, ◌∙◌, arith}
use Rattle.std.specs.Prelude.{slice_get}
use Rattle.std.specs.Io.KnownBytes.{append_known}
use Rattle.std.proofs.lemmas.Option.{slice_get_read}
use Rattle.log_theory.specs.declared.step.Step.{Step}
use Rattle.journal_theory.specs.Journals.{note_of}
use Rattle.merged_log.specs.Profiles.{text_in}
use Rattle.merged_log.specs.Lines.{brought, count_then}
use Rattle.merged_log.proofs.RowSteps.{row_brings, row_counts}
use Rattle.merged_log.proofs.rows.put_of_row.Goals as goal

pub returns-in_ok-count-in-Nogood-clause-text : goal.returns-in_ok-count-in-Nogood-clause-text
returns-in_ok-count-in-Nogood-clause-text g c =
    let js = c.args.journals.now in
    let r = c.args.row.now in
    let j = c.index-journals-owner.result in
    let owned = c.requires.owned in
    let here : slice_get js r.owner ≡ Some j =
    ap (slice_get js) (sym c.from-owner.ensures) ∙ slice_get_read js _ c.from-owner.result j refl (omega (arith, owned, c.from-owner.ensures)) c.index-journals-owner.is in
    let lines = row_brings js c.args.done.now c.args.place r j here (c.requires.owners r.owner j here) c.in-Nogood.is in
    c.in_ok-count-in-Nogood.ensures.text
    ∙ ap (λ (w : ℕ). append_known (g.S.Sink.contents c.args.sink.now) (text_in c.args.profile (brought j (get_or c.args.done.now w 0) c.args.place (note_of j.notes c.args.place)))) c.from-owner.ensures
    ∙ ap (λ (ss : List Step). append_known (g.S.Sink.contents c.args.sink.now) (text_in c.args.profile ss)) (sym lines)

pub returns-in_ok-count-in-Nogood-clause-counts : goal.returns-in_ok-count-in-Nogood-clause-counts
returns-in_ok-count-in-Nogood-clause-counts g c =
    let js = c.args.journals.now in
    let r = c.args.row.now in
    let j = c.index-journals-owner.result in
    let owned = c.requires.owned in
    let here : slice_get js r.owner ≡ Some j =
    ap (slice_get js) (sym c.from-owner.ensures) ∙ slice_get_read js _ c.from-owner.result j refl (omega (arith, owned, c.from-owner.ensures)) c.index-journals-owner.is in
    ap (set c.args.done.now c.from-owner.result) c.in_ok-count-in-Nogood.ensures.count
    ∙ ap (λ (w : ℕ). set c.args.done.now w (count_then (get_or c.args.done.now w 0) (note_of j.notes c.args.place))) c.from-owner.ensures
    ∙ row_counts js c.args.done.now c.args.place r j here c.in-Nogood.is (omega (arith, owned, c.requires.counts))
