use Rattle.std.proofs.Common.{◌≡◌, ◌<◌, Option, IfSome, IfNone, subst, sym}
use Rattle.graph_theory.specs.Graph.{size}
use Rattle.graph_theory.specs.Embedding.{Problem}
use Rattle.graph_theory.specs.Reversed.{reversed_problem, AreMutual}
use Rattle.initial_domains.specs.Degrees.{KeepsNeighbours}
use Rattle.initial_domains.proofs.Degrees.{mutual_row, both_keep, both_kept}
use Rattle.initial_domains.proofs.fill_by_rows.Goals as goal

pub returns-in-Some-clause-right : goal.returns-in-Some-clause-right
returns-in-Some-clause-right c t h =
    let back_is : c.in-Some.rows ≡ reversed_problem c.kept.inside.problem.now =
    subst (λ (b : Option Problem). IfSome b (λ x. x ≡ reversed_problem c.kept.inside.problem.now)) c.in-Some.is c.kept.invariant.1 in
    subst (λ (x : Problem). KeepsNeighbours x c.args.p t) c.kept.view_is
    (both_keep c.kept.inside.problem.now c.kept.inside.out c.in-Some.rows c.args.p c.row.result.now c.row-in-Some.result.now c.copy_from_slice.new.self c.and_into.new.into
    c.kept.invariant.0 back_is c.copy_from_slice.ensures.after c.and_into.ensures.members c.row.ensures.degrees c.row.ensures.right c.row-in-Some.ensures.degrees
    c.row-in-Some.ensures.right t h)

pub returns-in-Some-clause-complete : goal.returns-in-Some-clause-complete
returns-in-Some-clause-complete c t t_in k =
    let back_is : c.in-Some.rows ≡ reversed_problem c.kept.inside.problem.now =
    subst (λ (b : Option Problem). IfSome b (λ x. x ≡ reversed_problem c.kept.inside.problem.now)) c.in-Some.is c.kept.invariant.1 in
    both_kept c.kept.inside.problem.now c.kept.inside.out c.in-Some.rows c.args.p c.row.result.now c.row-in-Some.result.now c.copy_from_slice.new.self c.and_into.new.into
    c.kept.invariant.0 back_is c.copy_from_slice.ensures.after c.and_into.ensures.members c.row.ensures.complete c.row-in-Some.ensures.complete t
    (subst (λ (x : Problem). t < size x.target) (sym c.kept.view_is) t_in) (subst (λ (x : Problem). KeepsNeighbours x c.args.p t) (sym c.kept.view_is) k)

pub returns-in_default-clause-right : goal.returns-in_default-clause-right
returns-in_default-clause-right c t h =
    let ways : AreMutual c.kept.inside.problem.now = subst (λ (b : Option Problem). IfNone b (AreMutual c.kept.inside.problem.now)) c.in_default.is c.kept.invariant.2 in
    subst (λ (x : Problem). KeepsNeighbours x c.args.p t) c.kept.view_is
    (mutual_row c.kept.inside.problem.now c.kept.inside.out c.args.p c.row.result.now c.copy_from_slice.new.self c.kept.invariant.0 ways
    (subst (λ (x : Problem). c.args.p < size x.pattern) (sym c.kept.view_is) c.requires.p_in) c.copy_from_slice.ensures.after c.row.ensures.within c.row.ensures.degrees
    c.row.ensures.right t h)
