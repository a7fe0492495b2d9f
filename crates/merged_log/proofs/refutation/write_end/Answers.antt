use Rattle.std.proofs.Common.{◌≡◌, ℕ, List, length, ap, sym, subst, ◌∙◌, append-nil, arith}
use Rattle.outer_io.specs.KnownText.{Wrote}
use Rattle.log_theory.specs.declared.step.Ref.TheVariants.{Made}
use Rattle.log_theory.specs.declared.step.Step.TheVariants.{E}
use Rattle.log_theory.specs.Words.{line_text}
use Rattle.log_theory.specs.LogText.{step_words}
use Rattle.journals.proofs.Texts.{ends_long}
use Rattle.merged_log.specs.Profiles.{line_in}
use Rattle.merged_log.proofs.Profiled.{e_line}
use Rattle.merged_log.proofs.refutation.write_end.Goals as goal

pub write_step-requires : goal.write_step-requires
write_step-requires g c =
    let long : length c.ends.result.now ≡ length c.args.journal.now.steps = ap length c.ends.ensures.ends ∙ ends_long 0 c.args.journal.now.steps in
    let few = c.requires.owner in
    let some = c.requires.some in
    let short = c.ends.ensures.few in
    record { owner_fits = few; from_one = omega (arith, some, long); number_fits = omega (arith, long, short) }

pub returns-clause-text : goal.returns-clause-text
returns-clause-text g c =
    let long : length c.ends.result.now ≡ length c.args.journal.now.steps = ap length c.ends.ensures.ends ∙ ends_long 0 c.args.journal.now.steps in
    subst (λ (t : List ℕ). Wrote (g.S.Sink.spot c.args.sink.now).steady (g.S.Sink.contents c.args.sink.now) (g.S.Sink.contents c.write_step.new.sink) c.write_step.result t)
    (ap (λ (n : ℕ). line_text (step_words (E (Made (record { owner = c.args.owner; number = n }))))) long
    ∙ sym (e_line c.args.profile (Made (record { owner = c.args.owner; number = length c.args.journal.now.steps })))
    ∙ sym (append-nil (line_in c.args.profile (E (Made (record { owner = c.args.owner; number = length c.args.journal.now.steps }))))))
    c.write_step.ensures.text
