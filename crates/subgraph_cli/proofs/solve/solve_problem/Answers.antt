-- What stops where the proof is written, and what is told of an answer, is what a solve says.

use Rattle.std.specs.Prelude.{is_some, refl}
use Rattle.std.proofs.lemmas.Result.{err_from_is_err_and}
use Rattle.subgraph_cli.proofs.Told.{leaving_says, writing_cause, writing_spares, telling_cause, telling_says}
use Rattle.subgraph_cli.proofs.Passing.{if_err_passed}
use Rattle.subgraph_cli.proofs.Leaving.{writes_other, writes_stop, prints_none}
use Rattle.subgraph_cli.proofs.solve.solve_problem.Goals as goal

pub returns-in_err-leave_proof-clause-says : goal.returns-in_err-leave_proof-clause-says
returns-in_err-leave_proof-clause-says g c told =
    let p = err_from_is_err_and c.from_residual-in_err-leave_proof.result c.from_residual-in_err-leave_proof.ensures.1 in
    rw (p.1, p.2) (leaving_says _ c.in_ok-answer.answer c.args.q.now c.args.words.now _ _ _ _ _ (c.in_err-leave_proof.ensures.says told) (c.requires.asks told) c.in_ok-answer.ensures.kept)

pub returns-clause-says : goal.returns-clause-says
returns-clause-says g c told =
    telling_says c.tell.result c.in_ok-answer.answer c.args.q.now c.args.words.now _ _ _ _ _ (is_some c.args.words.now.prove) c.tell.ensures.says
    (c.requires.asks told) c.in_ok-answer.ensures.right c.in_ok-answer.ensures.kept (c.in_ok-leave_proof.ensures.says told)

pub returns-in_err-leave_proof-clause-files : goal.returns-in_err-leave_proof-clause-files
returns-in_err-leave_proof-clause-files g c =
    writes_stop c.from_residual-in_err-leave_proof.ensures.1 c.in_err-leave_proof.ensures.files
    (λ cause. writing_cause _ c.args.words.now _ cause (λ told. (c.args.q.now, c.requires.asks told)))

pub returns-in_err-leave_proof-clause-output : goal.returns-in_err-leave_proof-clause-output
returns-in_err-leave_proof-clause-output g c = prints_none (if_err_passed _ _ _ c.from_residual-in_err-leave_proof.ensures.1 (writing_spares _ _ c.in_err-leave_proof.ensures.writing refl))

pub returns-clause-files : goal.returns-clause-files
returns-clause-files g c = writes_other c.in_ok-leave_proof.ensures.files (telling_cause c.tell.result _ _ _ _ c.tell.ensures.says)
