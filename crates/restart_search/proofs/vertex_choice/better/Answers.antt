use Rattle.std.proofs.Common.{arith, sym, ◌∙◌}
use Rattle.propagation.proofs.Pruning.{one_by_size, not_one_by_size}
use Rattle.restart_search.proofs.Choosing.{none_still, next_decided}
use Rattle.restart_search.proofs.vertex_choice.better.Goals as goal

pub first_of-requires-clause-undecided : goal.first_of-requires-clause-undecided
first_of-requires-clause-undecided g c =
    (omega (arith, c.requires.p_in, c.requires.is_of.vertices_is), not_one_by_size c.args.d.now c.args.p (λ one. c.if-size-eq1.false (c.size.ensures.size ∙ one)))

pub returns-then-size-eq1-clause-none : goal.returns-then-size-eq1-clause-none
returns-then-size-eq1-clause-none g c = none_still _ c.args.best (one_by_size c.args.d.now c.args.p (sym c.size.ensures.size ∙ c.if-size-eq1.true))

pub returns-then-size-eq1-clause-next : goal.returns-then-size-eq1-clause-next
returns-then-size-eq1-clause-next g c = next_decided c.args.q.now c.args.d.now c.args.p c.args.best (one_by_size c.args.d.now c.args.p (sym c.size.ensures.size ∙ c.if-size-eq1.true))
