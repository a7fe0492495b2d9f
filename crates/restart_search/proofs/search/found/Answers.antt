use Rattle.std.proofs.Common.{◌≡◌, ℕ, ◌<◌, subst, arith, ◌∙◌}
use Rattle.domain_bits.specs.Removals.{in_domain}
use Rattle.search_theory.proofs.Domains.{singles_embed}
use Rattle.graph_theory.specs.Graph.{size}
use Rattle.propagation.proofs.Visits.{not_single_of}
use Rattle.restart_search.proofs.search.found.Goals as goal

pub unreachable-requires : goal.unreachable-requires
unreachable-requires g c =
    let p_in : c.loop-p.p < size c.args.q.now.pattern =
    subst (λ (n : ℕ). c.loop-p.p < n) (c.vertices-p-end.ensures ∙ c.requires.is_of.vertices_is) c.loop-p-test.true in
    let single = c.requires.single c.loop-p.p p_in in
    not_single_of c.args.d.now c.loop-p.p c.in-None.ensures.none single.0 single.1

pub returns : goal.returns
returns g c =
    let all : c.loop-p.p ≡ size c.args.q.now.pattern = omega (arith, c.loop-p-test.false, c.loop-p.auto.p-end, c.vertices-p-end.ensures, c.requires.is_of.vertices_is) in
    singles_embed c.args.q.now (in_domain c.args.d.now) c.loop-p.map.items c.requires.quiet c.requires.ordered (c.loop-p.invariant.long ∙ all)
    (λ p p_in. c.loop-p.invariant.each p (omega (arith, p_in, all)))
