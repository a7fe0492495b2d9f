use Rattle.std.proofs.Common.{ℕ, List, ◌++◌, codes, ap, sym, subst, ◌∙◌}
use Rattle.std.specs.List.{flat_map}
use Rattle.proof_theory.specs.declared.literal.Literal.{Literal}
use Rattle.log_theory.specs.declared.step.Op.{Op}
use Rattle.log_theory.specs.declared.step.Ref.{Ref}
use Rattle.log_theory.specs.declared.step.Step.{Step}
use Rattle.log_theory.specs.Words.{line_text}
use Rattle.log_theory.specs.LogText.{name_text, step_words}
use Rattle.outer_io.specs.KnownText.{Wrote}
use Rattle.proof_log.specs.Writing.{op_text, spaced_ref, spaced_literal, spaced_one}
use Rattle.proof_log.proofs.PutLines.{p_text, u_text, y_text}
use Rattle.proof_log.proofs.writing.write_hinted.Goals as goal

pub returns-in-P-clause-text : goal.returns-in-P-clause-text
returns-in-P-clause-text g c =
    subst (λ (t : List ℕ). Wrote (g.S.Sink.spot c.args.sink.now).steady (g.S.Sink.contents c.args.sink.now) (g.S.Sink.contents c.write_p.new.sink) c.write_p.result t)
    (ap (λ (ops : List Op). ((codes "p " ++ name_text c.in-P.name) ++ flat_map op_text ops) ++ codes " ;\n") c.as_slice.ensures
    ∙ p_text c.in-P.name c.in-P.ops ∙ sym (ap (λ (s : Step). line_text (step_words s)) c.in-P.is))
    c.write_p.ensures.text

pub returns-in-U-clause-text : goal.returns-in-U-clause-text
returns-in-U-clause-text g c =
    subst (λ (t : List ℕ). Wrote (g.S.Sink.spot c.args.sink.now).steady (g.S.Sink.contents c.args.sink.now) (g.S.Sink.contents c.write_u.new.sink) c.write_u.result t)
    (ap (λ (lits : List Literal). (((codes "u " ++ name_text c.in-U.name) ++ flat_map spaced_literal lits) ++ codes " ;") ++ (flat_map spaced_ref c.as_slice-in-U-2.result.now ++ codes " ;\n")) c.as_slice-in-U.ensures
    ∙ ap (λ (refs : List Ref). (((codes "u " ++ name_text c.in-U.name) ++ flat_map spaced_literal c.in-U.lits) ++ codes " ;") ++ (flat_map spaced_ref refs ++ codes " ;\n")) c.as_slice-in-U-2.ensures
    ∙ u_text c.in-U.name c.in-U.lits c.in-U.refs ∙ sym (ap (λ (s : Step). line_text (step_words s)) c.in-U.is))
    c.write_u.ensures.text

pub returns-in-Y-clause-text : goal.returns-in-Y-clause-text
returns-in-Y-clause-text g c =
    subst (λ (t : List ℕ). Wrote (g.S.Sink.spot c.args.sink.now).steady (g.S.Sink.contents c.args.sink.now) (g.S.Sink.contents c.write_y.new.sink) c.write_y.result t)
    (ap (λ (ones : List ℕ). (codes "y" ++ flat_map spaced_one ones) ++ codes "\n") c.as_slice-in-Y.ensures
    ∙ y_text c.in-Y.ones ∙ sym (ap (λ (s : Step). line_text (step_words s)) c.in-Y.is))
    c.write_y.ensures.text
