use Rattle.std.proofs.lemmas.Result.{err_from_is_err_and}
use Rattle.proof_checker.proofs.Leading.{failed}
use Rattle.proof_checker.proofs.lines.make_by_propagation.Goals as goal

pub returns-in_err-made : goal.returns-in_err-made
returns-in_err-made c =
    let p = err_from_is_err_and c.from_residual-in_err-made.result c.from_residual-in_err-made.ensures.1 in
    rw (p.1, p.2, c.in_ok-fresh_name.ensures) (failed c.in_err-made.field-0.0 _ _ _ (c.in_err-made.ensures c.args.name))

pub returns : goal.returns
returns c = rw (c.in_ok-fresh_name.ensures, c.in_ok-made.ensures c.args.name, c.in_ok-push_made.ensures)
