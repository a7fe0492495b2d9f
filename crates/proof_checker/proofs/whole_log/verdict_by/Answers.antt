use Rattle.std.proofs.Common.{[], ◌++◌, ap, ◌∙◌, subst}
use Rattle.std.proofs.lemmas.List.{append-nil}
use Rattle.log_theory.specs.declared.step.Verdict.{Verdict}
use Rattle.log_theory.specs.Verdicts.{verdict_of}
use Rattle.proof_checker.specs.Turns.{Answers}
use Rattle.proof_checker.proofs.whole_log.verdict_by.Goals as goal

pub returns : goal.returns
returns c =
    subst (λ (v : Verdict). Answers c.finish.result v)
    (c.in_ok-feed.ensures.taken [] ∙ c.in_ok-checker.ensures.empty (c.args.log.now ++ []) ∙ ap (verdict_of c.args.variables c.args.constraints.now) (append-nil c.args.log.now))
    c.finish.ensures.exact
