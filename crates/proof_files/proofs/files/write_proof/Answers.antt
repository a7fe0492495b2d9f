-- The log of the parts is that of the finding.
use Rattle.std.proofs.Common.{List, subst}
use Rattle.std.specs.Prelude.{OnOk}
use Rattle.log_theory.specs.declared.step.Step.{Step}
use Rattle.log_theory.specs.declared.step.Verdict.{Verdict}
use Rattle.log_theory.specs.Acceptance.{Accepts}
use Rattle.encoding_theory.specs.Variables.{variables}
use Rattle.encoding_theory.specs.Encoding.{encoding}
use Rattle.pb_encoding.specs.Writing.{encoding_text}
use Rattle.merged_log.specs.Profiles.{in_profile}
use Rattle.merged_log.specs.Steps.{log_text}
use Rattle.proof_files.specs.TwoFiles.{WritingSays, two_files}
use Rattle.proof_files.specs.Findings.{steps_of}
use Rattle.proof_files.specs.Parts.{part_verdict}
use Rattle.proof_files.proofs.files.write_proof.Goals as goal

pub returns-clause-says : goal.returns-clause-says
returns-clause-says g c =
    let q = c.args.q.now in
    let d = two_files g.F.Files.tells g.F.Files.content g.F.Files.faults g.F.Files.fault_at c.args.encoding.now c.args.log.now c.args.files.now c.write_both.new.files in
    subst (λ (steps : List Step). WritingSays c.write_both.result d (record { encoding = encoding_text q; log = in_profile c.args.profile (log_text steps) })) c.in_ok-parts.ensures.steps c.write_both.ensures.says

pub returns-clause-accepted : goal.returns-clause-accepted
returns-clause-accepted g c =
    let q = c.args.q.now in
    let on_steps = subst (λ (steps : List Step). OnOk c.write_both.result (Accepts (variables q) (encoding q) (in_profile c.args.profile (log_text steps)) (part_verdict c.in_ok-parts.parts))) c.in_ok-parts.ensures.steps c.write_both.ensures.accepted in
    subst (λ (verdict : Verdict). OnOk c.write_both.result (Accepts (variables q) (encoding q) (in_profile c.args.profile (log_text (steps_of q c.args.finding.now))) verdict)) c.in_ok-parts.ensures.verdict on_steps
