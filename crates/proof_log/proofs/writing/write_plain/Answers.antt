use Rattle.std.proofs.Common.{ℕ, List, ◌++◌, codes, ap, sym, subst, ◌∙◌}
use Rattle.std.specs.List.{flat_map}
use Rattle.proof_theory.specs.declared.literal.Literal.{Literal}
use Rattle.log_theory.specs.declared.profile.Profile.TheVariants.{Plain}
use Rattle.log_theory.specs.declared.step.Step.{Step}
use Rattle.log_theory.specs.Words.{line_text}
use Rattle.log_theory.specs.LogText.{name_text}
use Rattle.log_theory.specs.Profiles.{words_in}
use Rattle.outer_io.specs.KnownText.{Wrote}
use Rattle.proof_log.specs.Writing.{spaced_literal}
use Rattle.proof_log.proofs.PutLines.{plain_u_text}
use Rattle.proof_log.proofs.writing.write_plain.Goals as goal

pub returns-in-U-clause-text : goal.returns-in-U-clause-text
returns-in-U-clause-text g c =
    subst (λ (t : List ℕ). Wrote (g.S.Sink.spot c.args.sink.now).steady (g.S.Sink.contents c.args.sink.now) (g.S.Sink.contents c.write_clause.new.sink) c.write_clause.result t)
    (ap (λ (lits : List Literal). ((codes "u " ++ name_text c.in-U.name) ++ flat_map spaced_literal lits) ++ codes " ;\n") c.as_slice.ensures
    ∙ plain_u_text c.in-U.name c.in-U.lits c.in-U.refs ∙ sym (ap (λ (s : Step). line_text (words_in Plain s)) c.in-U.is))
    c.write_clause.ensures.text
