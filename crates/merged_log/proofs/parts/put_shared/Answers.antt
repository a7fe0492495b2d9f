use Rattle.std.proofs.Common.{ℕ, List, [], ◌∷◌, ◌∙◌, ap, sym, subst, append-nil, arith}
use Rattle.outer_io.specs.KnownText.{Wrote}
use Rattle.outer_io.specs.Sinks.{Spot}
use Rattle.merged_log.specs.Profiles.{line_in}
use Rattle.merged_log.proofs.Profiled.{n_line}
use Rattle.std.proofs.lemmas.Result.{err_from_is_err_and}
use Rattle.log_theory.specs.declared.step.Name.{Name}
use Rattle.log_theory.specs.declared.step.Step.TheVariants.{N}
use Rattle.log_theory.specs.Words.{line_text}
use Rattle.log_theory.specs.LogText.{step_words}
use Rattle.merged_log.specs.Lines.{part_of}
use Rattle.merged_log.proofs.Putting.{steps-then, steps-first}
use Rattle.merged_log.proofs.parts.put_shared.Goals as goal

pub returns-in_err-put_part-clause-text : goal.returns-in_err-put_part-clause-text
returns-in_err-put_part-clause-text g c =
    let p = err_from_is_err_and c.from_residual.result c.from_residual.ensures.1 in
    let j = c.args.journal.now in
    rw p.1
    (steps-first c.args.profile _ _ _ (part_of j c.args.from c.args.name.number) (N c.args.row (record { owner = j.owner; number = c.args.name.number }) ∷ []) c.in_err-put_part.ensures.text)

pub write_step-requires : goal.write_step-requires
write_step-requires g c =
    let few = c.requires.few in
    let some = c.requires.some in
    let line = c.requires.line in
    let short = c.ends-ends.ensures.few in (
      c.requires.row,
      record { owner_fits = few; from_one = some; number_fits = omega (arith, line, short) },
    )

pub returns-clause-text : goal.returns-clause-text
returns-clause-text g c =
    let j = c.args.journal.now in
    let name : Name = record { owner = j.owner; number = c.args.name.number } in
    let last = subst (λ (t : List ℕ). Wrote (g.S.Sink.spot c.put_part.new.sink).steady (g.S.Sink.contents c.put_part.new.sink) (g.S.Sink.contents c.write_step.new.sink) c.write_step.result t)
    (ap (λ (w : ℕ). line_text (step_words (N c.args.row (record { owner = w; number = c.args.name.number })))) c.requires.owner
    ∙ sym (n_line c.args.profile c.args.row name) ∙ sym (append-nil (line_in c.args.profile (N c.args.row name)))) c.write_step.ensures.text in
    steps-then c.args.profile _ _ (ap (λ (s : Spot). s.steady) c.put_part.ensures.cause.same) _ _ _ c.write_step.result (part_of j c.args.from c.args.name.number) (N c.args.row name ∷ []) c.in_ok-put_part.ensures.text last
