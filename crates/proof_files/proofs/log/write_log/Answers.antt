-- The log that is put is that of the parts, over as many lines as the encoding has.
use Rattle.std.proofs.Common.{ℕ, sym, subst}
use Rattle.encoding_theory.specs.Variables.{variables}
use Rattle.encoding_theory.specs.Encoding.{encoding}
use Rattle.log_theory.specs.Acceptance.{Accepts}
use Rattle.log_theory.specs.declared.step.Verdict.TheVariants.{Satisfiable, Undecided}
use Rattle.merged_log.specs.Profiles.{in_profile}
use Rattle.merged_log.specs.Steps.{log_text}
use Rattle.merged_log.specs.Answers.{solution, undecided}
use Rattle.proof_files.proofs.log.write_log.Goals as goal

pub returns-in-Solution-clause-accepted : goal.returns-in-Solution-clause-accepted
returns-in-Solution-clause-accepted g c =
    let q = c.args.q.now in
    let lines = c.lines_of.ensures.lines in
    let ready = rw c.in-Solution.is at c.requires.ready in
    rw c.in-Solution.is
    (subst (λ (n : ℕ). Accepts (variables q) (encoding q) (in_profile c.args.profile (log_text (solution n c.in-Solution.ones))) Satisfiable) lines
    (c.write_solution.ensures.accepted (variables q) (encoding q) (sym lines) ready.1))

pub returns-in-Nothing-clause-accepted : goal.returns-in-Nothing-clause-accepted
returns-in-Nothing-clause-accepted g c =
    let q = c.args.q.now in
    let lines = c.lines_of-in-Nothing.ensures.lines in
    rw c.in-Nothing.is
    (subst (λ (n : ℕ). Accepts (variables q) (encoding q) (in_profile c.args.profile (log_text (undecided n))) Undecided) lines
    (c.write_undecided.ensures.accepted (variables q) (encoding q) (sym lines)))
