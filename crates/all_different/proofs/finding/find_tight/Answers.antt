use Rattle.std.proofs.Common.{◌≡◌, ℕ, ◌+◌, ◌-◌, ◌<◌, length, get_or, ap, ◌∙◌, arith}
use Rattle.domain_bits.specs.Removals.{size_of}
use Rattle.all_different.specs.Ranks.{rank}
use Rattle.all_different.specs.Steps.{in_rest}
use Rattle.all_different.proofs.Showing.{tight_some}
use Rattle.all_different.proofs.finding.find_tight.Goals as goal

pub overflow_sub-k : goal.overflow_sub-k
overflow_sub-k g c = omega (arith, tight_some (g.F.Family.state c.args.d.now) c.requires.some.set c.requires.some.tight, c.requires.some.within)

pub bounds-order-k : goal.bounds-order-k
bounds-order-k g c = omega (arith, tight_some (g.F.Family.state c.args.d.now) c.requires.some.set c.requires.some.tight, c.requires.some.within, c.requires.within)

pub first_tight-requires-clause-rest : goal.first_tight-requires-clause-rest
first_tight-requires-clause-rest g c t =
    let d = g.F.Family.state c.args.d.now in
    let k = c.args.k in
    let some : 0 < k = omega (arith, tight_some d c.requires.some.set c.requires.some.tight, c.requires.some.within) in
    let inside : k - 1 < length c.args.order.now = omega (arith, some, c.requires.within) in
    let place : rank (size_of d) d.vertices (get_or c.args.order.now (k - 1) 0) + 1 ≡ k = omega (arith, some, c.requires.ordered.rank_is (k - 1) inside) in
    c.unite_rest.ensures t ∙ ap (λ (n : ℕ). in_rest d n t) place
