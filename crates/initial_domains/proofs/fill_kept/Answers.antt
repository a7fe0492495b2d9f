use Rattle.std.proofs.Common.{◌≡◌, ◌<◌, true, Option, IfSome, subst, sym}
use Rattle.graph_theory.specs.Graph.{size}
use Rattle.graph_theory.specs.Embedding.{Problem, is_injective}
use Rattle.initial_domains.specs.Degrees.{KeepsNeighbours, KeepsDegrees}
use Rattle.initial_domains.proofs.Degrees.{asked_neighbours, given_neighbours}
use Rattle.initial_domains.proofs.fill_kept.Goals as goal

pub returns-in-Some-clause-right : goal.returns-in-Some-clause-right
returns-in-Some-clause-right c t h =
    let rows_are : c.in-Some.rows ≡ c.kept.inside.problem.now =
    subst (λ (b : Option Problem). IfSome b (λ x. x ≡ c.kept.inside.problem.now)) c.in-Some.is c.kept.invariant.0 in
    let injective : is_injective c.kept.inside.problem.now.maps ≡ true =
    subst (λ (b : Option Problem). IfSome b (λ x. is_injective c.kept.inside.problem.now.maps ≡ true)) c.in-Some.is c.kept.invariant.1 in
    subst (λ (x : Problem). KeepsDegrees x c.args.p t) c.kept.view_is
    (asked_neighbours c.kept.inside.problem.now c.args.p t injective
    (subst (λ (x : Problem). KeepsNeighbours x c.args.p t) rows_are (c.fill_by_rows.ensures.right t h)))

pub returns-in-Some-clause-complete : goal.returns-in-Some-clause-complete
returns-in-Some-clause-complete c t t_in k =
    let rows_are : c.in-Some.rows ≡ c.kept.inside.problem.now =
    subst (λ (b : Option Problem). IfSome b (λ x. x ≡ c.kept.inside.problem.now)) c.in-Some.is c.kept.invariant.0 in
    let injective : is_injective c.kept.inside.problem.now.maps ≡ true =
    subst (λ (b : Option Problem). IfSome b (λ x. is_injective c.kept.inside.problem.now.maps ≡ true)) c.in-Some.is c.kept.invariant.1 in
    c.fill_by_rows.ensures.complete t
    (subst (λ (x : Problem). t < size x.target) (sym rows_are) (subst (λ (x : Problem). t < size x.target) (sym c.kept.view_is) t_in))
    (subst (λ (x : Problem). KeepsNeighbours x c.args.p t) (sym rows_are)
    (given_neighbours c.kept.inside.problem.now c.args.p t injective (subst (λ (x : Problem). KeepsDegrees x c.args.p t) (sym c.kept.view_is) k)))
