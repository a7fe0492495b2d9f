-- The files are as they were, so that the target is what its file held before.

use Rattle.std.specs.Prelude.{ℕ, List, Option, Err}
use Rattle.std.proofs.Common.{subst}
use Rattle.std.proofs.lemmas.Result.{err_from_is_err_and}
use Rattle.subgraph_cli.specs.Questions.{HoldsGraph, RoleSays}
use Rattle.subgraph_cli.proofs.Asking.{asks_of}
use Rattle.subgraph_cli.proofs.Passing.{if_err_passed, pattern_refused, pairs_refused, pairs_of_files, pairs_cause, target_refused, pattern_cause, target_cause}
use Rattle.subgraph_cli.specs.declared.stop.Role.TheVariants.{Target}
use Rattle.subgraph_cli.proofs.Leaving.{reads_other, reads_stop, reads_then}
use Rattle.subgraph_cli.proofs.question.load_problem.Goals as goal

pub returns-clause-says : goal.returns-clause-says
returns-clause-says g c told =
    let target = subst (λ (o : Option (List ℕ)). HoldsGraph o c.args.ask.now.format 8192 c.in_ok-target.target) (c.in_ok-pattern.ensures.files.kept.same _)
    (c.in_ok-target.ensures.says (rw c.in_ok-pattern.ensures.files.kept.told told)) in
    asks_of _ _ _ _ _ c.args.ask.now c.problem_of.ensures.problem (c.in_ok-pattern.ensures.says told) target c.problem_of.ensures.few c.in_ok-pairs.ensures.1

pub returns-clause-loading : goal.returns-clause-loading
returns-clause-loading g c = tt

pub returns-in_err-pattern-clause-says : goal.returns-in_err-pattern-clause-says
returns-in_err-pattern-clause-says g c told =
    let p = err_from_is_err_and c.from_residual.result c.from_residual.ensures.1 in
    rw (p.1, p.2) (pattern_refused _ _ _ c.args.ask.now (c.in_err-pattern.ensures.says told))

pub returns-in_err-pattern-clause-loading : goal.returns-in_err-pattern-clause-loading
returns-in_err-pattern-clause-loading g c = if_err_passed _ _ _ c.from_residual.ensures.1 c.in_err-pattern.ensures.loading

pub returns-in_err-pairs-clause-says : goal.returns-in_err-pairs-clause-says
returns-in_err-pairs-clause-says g c told =
    let p = err_from_is_err_and c.from_residual-in_err-pairs.result c.from_residual-in_err-pairs.ensures.1 in
    rw (p.1, p.2) (pairs_refused _ _ _ c.args.ask.now c.in_ok-pattern.pattern (c.in_ok-pattern.ensures.says told) c.in_err-pairs.ensures)

pub returns-in_err-pairs-clause-loading : goal.returns-in_err-pairs-clause-loading
returns-in_err-pairs-clause-loading g c = if_err_passed _ _ _ c.from_residual-in_err-pairs.ensures.1 (pairs_of_files _ c.in_ok-pattern.pattern _ c.in_err-pairs.ensures)

pub returns-in_err-target-clause-says : goal.returns-in_err-target-clause-says
returns-in_err-target-clause-says g c told =
    let p = err_from_is_err_and c.from_residual-in_err-target.result c.from_residual-in_err-target.ensures.1 in
    let target = subst (λ (o : Option (List ℕ)). RoleSays (Err c.in_err-target.field-0.0) Target o c.args.ask.now.format 8192) (c.in_ok-pattern.ensures.files.kept.same _)
    (c.in_err-target.ensures.says (rw c.in_ok-pattern.ensures.files.kept.told told)) in
    rw (p.1, p.2) (target_refused _ _ _ c.args.ask.now c.in_ok-pattern.pattern (c.in_ok-pattern.ensures.says told) c.in_ok-pairs.ensures.1 target)

pub returns-in_err-target-clause-loading : goal.returns-in_err-target-clause-loading
returns-in_err-target-clause-loading g c = if_err_passed _ _ _ c.from_residual-in_err-target.ensures.1 c.in_err-target.ensures.loading

pub returns-clause-files : goal.returns-clause-files
returns-clause-files g c = reads_other (reads_then c.in_ok-pattern.ensures.files c.in_ok-target.ensures.files) tt

pub returns-in_err-pattern-clause-files : goal.returns-in_err-pattern-clause-files
returns-in_err-pattern-clause-files g c = reads_stop c.from_residual.ensures.1 c.in_err-pattern.ensures.files (pattern_cause _ c.args.pattern.now c.args.target.now c.args.ask.now _)

pub returns-in_err-pairs-clause-files : goal.returns-in_err-pairs-clause-files
returns-in_err-pairs-clause-files g c =
    reads_other c.in_ok-pattern.ensures.files
    (if_err_passed _ _ _ c.from_residual-in_err-pairs.ensures.1 (pairs_cause _ c.in_ok-pattern.pattern _ _ _ c.in_err-pairs.ensures))

pub returns-in_err-target-clause-files : goal.returns-in_err-target-clause-files
returns-in_err-target-clause-files g c =
    reads_stop c.from_residual-in_err-target.ensures.1 (reads_then c.in_ok-pattern.ensures.files c.in_err-target.ensures.files)
    (λ cause. target_cause _ c.args.pattern.now c.args.target.now c.args.ask.now _ cause (λ told. (c.in_ok-pattern.pattern, c.in_ok-pattern.ensures.says told, c.in_ok-pairs.ensures.1)))
