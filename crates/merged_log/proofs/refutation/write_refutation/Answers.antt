use Rattle.std.proofs.Common.{ℕ, List, [], ◌∷◌, ◌++◌, ap, subst}
use Rattle.std.proofs.lemmas.Result.{err_from_is_err_and}
use Rattle.outer_io.specs.KnownText.{Wrote, StopsIn}
use Rattle.outer_io.specs.Sinks.{Spot}
use Rattle.outer_io.proofs.KnownTexts.{StopsIn-first}
use Rattle.log_theory.specs.declared.step.Ref.TheVariants.{Made}
use Rattle.log_theory.specs.declared.step.Step.TheVariants.{Model, E}
use Rattle.log_theory.specs.declared.step.Verdict.TheVariants.{Unsatisfiable}
use Rattle.journal_theory.specs.Merging.{merged, last_name}
use Rattle.merged_log.specs.Profiles.{head_text, text_in}
use Rattle.merged_log.specs.Steps.{journals_in, rows_in}
use Rattle.merged_log.proofs.Putting.{texts-then}
use Rattle.merged_log.proofs.Accepting.{refutation_accepted}
use Rattle.merged_log.proofs.Profiled.{whole_text, accepted_in}
use Rattle.merged_log.proofs.Ranges.{body_steps}
use Rattle.merged_log.proofs.refutation.write_refutation.Goals as goal

pub returns-in_err-write_head-clause-text : goal.returns-in_err-write_head-clause-text
returns-in_err-write_head-clause-text g c =
    let p = err_from_is_err_and c.from_residual.result c.from_residual.ensures.1 in
    let js = journals_in c.args.journals.now in
    let f = c.args.finisher in
    let body = merged js f (rows_in c.args.rows.now) ++ E (Made (last_name js f)) ∷ [] in
    let steps = body_steps c.args.journals.now c.args.rows.now c.ask_all.ensures c.requires.owners c.requires.owned c.requires.lines c.requires.few c.requires.rows f c.requires.finisher c.requires.ends in
    rw p.1
    (subst (λ (t : List ℕ). StopsIn (g.S.Sink.spot c.args.sink.now).steady (g.S.Sink.contents c.args.sink.now) (g.S.Sink.contents c.write_head.new.sink) t)
    (whole_text c.line_laws.ensures.no_feed c.args.profile c.args.lines body c.requires.model steps)
    (StopsIn-first _ _ _ (head_text c.args.profile c.args.lines) (text_in c.args.profile body) c.in_err-write_head.ensures.text))

pub returns-in_err-write_head-clause-accepted : goal.returns-in_err-write_head-clause-accepted
returns-in_err-write_head-clause-accepted g c n model clause forms last count all range found false_ =
    let js = journals_in c.args.journals.now in
    let f = c.args.finisher in
    accepted_in c.args.profile n model (Model c.args.lines ∷ (merged js f (rows_in c.args.rows.now) ++ E (Made (last_name js f)) ∷ [])) Unsatisfiable
    (refutation_accepted c.merge_laws.ensures c.args.lines n model c.args.journals.now c.args.rows.now clause forms c.args.finisher last c.ask_all.ensures c.requires.owners c.requires.model c.requires.rows
    c.requires.finisher count all range found false_)

pub returns-clause-text : goal.returns-clause-text
returns-clause-text g c =
    let js = journals_in c.args.journals.now in
    let f = c.args.finisher in
    let body = merged js f (rows_in c.args.rows.now) ++ E (Made (last_name js f)) ∷ [] in
    let steps = body_steps c.args.journals.now c.args.rows.now c.ask_all.ensures c.requires.owners c.requires.owned c.requires.lines c.requires.few c.requires.rows f c.requires.finisher c.requires.ends in
    subst (λ (t : List ℕ). Wrote (g.S.Sink.spot c.args.sink.now).steady (g.S.Sink.contents c.args.sink.now) (g.S.Sink.contents c.put_body.new.sink) c.put_body.result t)
    (whole_text c.line_laws.ensures.no_feed c.args.profile c.args.lines body c.requires.model steps)
    (texts-then _ _ (ap (λ (s : Spot). s.steady) c.write_head.ensures.cause.same) _ _ _ c.put_body.result (head_text c.args.profile c.args.lines) (text_in c.args.profile body)
    c.in_ok-write_head.ensures.text c.put_body.ensures.text)

pub returns-clause-accepted : goal.returns-clause-accepted
returns-clause-accepted g c n model clause forms last count all range found false_ =
    let js = journals_in c.args.journals.now in
    let f = c.args.finisher in
    accepted_in c.args.profile n model (Model c.args.lines ∷ (merged js f (rows_in c.args.rows.now) ++ E (Made (last_name js f)) ∷ [])) Unsatisfiable
    (refutation_accepted c.merge_laws.ensures c.args.lines n model c.args.journals.now c.args.rows.now clause forms c.args.finisher last c.ask_all.ensures c.requires.owners c.requires.model c.requires.rows
    c.requires.finisher count all range found false_)
