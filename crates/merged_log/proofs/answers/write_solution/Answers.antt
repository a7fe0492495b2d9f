use Rattle.std.proofs.Common.{List, ℕ, [], ◌∷◌, ◌∙◌, ap, sym, subst, append-nil}
use Rattle.std.proofs.lemmas.Result.{err_from_is_err_and}
use Rattle.outer_io.specs.KnownText.{Wrote, StopsIn}
use Rattle.outer_io.specs.Sinks.{Spot}
use Rattle.outer_io.proofs.KnownTexts.{StopsIn-first}
use Rattle.log_theory.specs.declared.step.Step.TheVariants.{Model, Y}
use Rattle.log_theory.specs.declared.step.Verdict.TheVariants.{Satisfiable}
use Rattle.merged_log.specs.Profiles.{head_text, line_in, text_in}
use Rattle.merged_log.proofs.Putting.{texts-then}
use Rattle.merged_log.proofs.Claiming.{solution_accepted}
use Rattle.merged_log.proofs.Profiled.{y_line, whole_text, accepted_in}
use Rattle.merged_log.proofs.answers.write_solution.Goals as goal

pub returns-in_err-write_head-clause-text : goal.returns-in_err-write_head-clause-text
returns-in_err-write_head-clause-text g c =
    let p = err_from_is_err_and c.from_residual.result c.from_residual.ensures.1 in
    let last = (Y c.args.ones) ∷ [] in
    rw p.1
    (subst (λ (t : List ℕ). StopsIn (g.S.Sink.spot c.args.sink.now).steady (g.S.Sink.contents c.args.sink.now) (g.S.Sink.contents c.write_head.new.sink) t)
    (whole_text c.line_laws.ensures.no_feed c.args.profile c.args.lines last c.requires.model (c.requires.ones, tt))
    (StopsIn-first _ _ _ (head_text c.args.profile c.args.lines) (text_in c.args.profile last) c.in_err-write_head.ensures.text))

pub returns-in_err-write_head-clause-accepted : goal.returns-in_err-write_head-clause-accepted
returns-in_err-write_head-clause-accepted g c n model count solves = accepted_in c.args.profile n model (Model c.args.lines ∷ (Y c.args.ones) ∷ []) Satisfiable (solution_accepted n c.args.lines model c.args.ones c.requires.model c.requires.ones count solves)

pub returns-clause-text : goal.returns-clause-text
returns-clause-text g c =
    let last = (Y c.args.ones) ∷ [] in
    let put = subst (λ (t : List ℕ). Wrote (g.S.Sink.spot c.write_head.new.sink).steady (g.S.Sink.contents c.write_head.new.sink) (g.S.Sink.contents c.write_step.new.sink) c.write_step.result t)
    (sym (y_line c.args.profile c.args.ones) ∙ sym (append-nil (line_in c.args.profile (Y c.args.ones)))) c.write_step.ensures.text in
    subst (λ (t : List ℕ). Wrote (g.S.Sink.spot c.args.sink.now).steady (g.S.Sink.contents c.args.sink.now) (g.S.Sink.contents c.write_step.new.sink) c.write_step.result t)
    (whole_text c.line_laws.ensures.no_feed c.args.profile c.args.lines last c.requires.model (c.requires.ones, tt))
    (texts-then _ _ (ap (λ (s : Spot). s.steady) c.write_head.ensures.cause.same) _ _ _ c.write_step.result (head_text c.args.profile c.args.lines) (text_in c.args.profile last) c.in_ok-write_head.ensures.text put)

pub returns-clause-accepted : goal.returns-clause-accepted
returns-clause-accepted g c n model count solves = accepted_in c.args.profile n model (Model c.args.lines ∷ (Y c.args.ones) ∷ []) Satisfiable (solution_accepted n c.args.lines model c.args.ones c.requires.model c.requires.ones count solves)
