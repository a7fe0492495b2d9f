use Rattle.std.proofs.Common.{FitsSigned, rules}
use Rattle.std.specs.Int.{w128}
use Rattle.std.proofs.lemmas.Int.{to_z-of_z}
use Rattle.std.proofs.lemmas.Result.{err_from_is_err_and}
use Rattle.opb_text.proofs.ConstraintLines.{terms-stop, bound-stops, form-says, form-within}
use Rattle.opb_text.proofs.constraint_line.read_constraint.Goals as goal

pub returns-in_err-rest-clause-says : goal.returns-in_err-rest-clause-says
returns-in_err-rest-clause-says c =
    let p = err_from_is_err_and c.from_residual.result c.from_residual.ensures.1 in
    rw (p.1, p.2) (terms-stop c.args.variables c.args.line.now c.read_terms.new.terms.items c.in_err-rest.field-0.0 (search rules) c.in_err-rest.ensures.says)

pub returns-in_err-bound-clause-says : goal.returns-in_err-bound-clause-says
returns-in_err-bound-clause-says c =
    let p = err_from_is_err_and c.from_residual-in_err-bound.result c.from_residual-in_err-bound.ensures.1 in
    rw (p.1, p.2) (bound-stops c.args.variables c.args.line.now c.read_terms.new.terms.items c.in_ok-rest.rest c.in_err-bound.field-0.0 (search rules) c.in_ok-rest.ensures.says c.in_err-bound.ensures.says)

pub returns-clause-says : goal.returns-clause-says
returns-clause-says c =
    let fits : FitsSigned w128 c.in_ok-bound.bound = search rules in
    let form = rw (c.deref.ensures.value, to_z-of_z w128 c.in_ok-bound.bound fits) at c.constraint_of.ensures in
    form-says c.args.variables c.args.line.now c.read_terms.new.terms.items c.in_ok-rest.rest c.in_ok-bound.bound c.constraint_of.result (search rules)
    c.in_ok-rest.ensures.says c.in_ok-bound.ensures.says form

pub returns-clause-within : goal.returns-clause-within
returns-clause-within c =
    let fits : FitsSigned w128 c.in_ok-bound.bound = search rules in
    let form = rw (c.deref.ensures.value, to_z-of_z w128 c.in_ok-bound.bound fits) at c.constraint_of.ensures in
    form-within c.args.variables c.read_terms.new.terms.items c.in_ok-bound.bound c.constraint_of.result form c.in_ok-rest.ensures.variables
