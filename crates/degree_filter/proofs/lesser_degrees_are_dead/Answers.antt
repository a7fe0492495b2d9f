use Rattle.std.proofs.Common.{ℕ, ◌≤◌, subst, arith}
use Rattle.graph_theory.specs.Asked.{asked_degree, room}
use Rattle.graph_theory.proofs.NeighbourCounts.{degree_is_kept}
use Rattle.degree_filter.proofs.lesser_degrees_are_dead.Goals as goal

pub returns : goal.returns
returns c = λ q p t p_in less m e x.
    let kept : asked_degree q p ≤ room q t = subst (λ (v : ℕ). asked_degree q p ≤ room q v) x.1 (degree_is_kept q m p e p_in) in
    absurd (omega arith)
