-- A refutation that is accepted with its hints is accepted in each profile.
use Rattle.std.proofs.Common.{[], ◌∷◌, ◌++◌, length}
use Rattle.encoding_theory.specs.Variables.{variables}
use Rattle.encoding_theory.specs.Encoding.{encoding}
use Rattle.log_theory.specs.declared.step.Ref.TheVariants.{Made}
use Rattle.log_theory.specs.declared.step.Step.TheVariants.{Model, E}
use Rattle.log_theory.specs.declared.step.Verdict.TheVariants.{Unsatisfiable}
use Rattle.journal_theory.specs.Merging.{merged, last_name}
use Rattle.merged_log.specs.Steps.{journals_in, rows_in}
use Rattle.merged_log.proofs.Profiled.{accepted_in}
use Rattle.proof_files.proofs.log.write_refuted.Goals as goal

pub returns-clause-accepted : goal.returns-clause-accepted
returns-clause-accepted g c =
    let q = c.args.q.now in
    let js = journals_in c.args.parts.now.journals.items in
    let f = c.args.parts.now.finisher in
    accepted_in c.args.profile (variables q) (encoding q) (Model (length (encoding q)) ∷ (merged js f (rows_in c.args.parts.now.rows.items) ++ E (Made (last_name js f)) ∷ [])) Unsatisfiable
    c.requires.proof.merged.accepted
