use Rattle.std.proofs.Common.{◌∙◌, ◌+◌, ◌≤◌, ℕ, subst}
use Rattle.std.proofs.lemmas.Bool.{leb-true}
use Rattle.graph_theory.specs.Neighbours.{common}
use Rattle.graph_theory.specs.Reversed.{turned}
use Rattle.needed_values.proofs.Enough.{enough_by_two, enough_by_bits}
use Rattle.needed_values.proofs.consistent.shares_enough.Goals as goal

pub returns-then-both-least : goal.returns-then-both-least
returns-then-both-least c = λ _.
    subst (λ (k : ℕ). k ≤ common (turned c.args.direction c.args.target.now) c.args.t c.args.u) c.from-least.ensures
    (enough_by_two (turned c.args.direction c.args.target.now) c.args.near.now c.row_by-row.result.now c.args.t c.args.u c.from.result c.count_both-both.result c.from-least.result c.requires.t_in c.requires.u_in c.requires.apart c.requires.near
    c.row_by-row.ensures.neighbours (c.from.ensures ∙ c.size.ensures.size) c.count_both-both.ensures.shared c.if-both-least.true)

pub returns : goal.returns
returns c = λ h.
    subst (λ (k : ℕ). k ≤ common (turned c.args.direction c.args.target.now) c.args.t c.args.u) c.from-least.ensures
    (enough_by_bits (turned c.args.direction c.args.target.now) c.args.near.now c.row_by-row.result.now c.args.t c.args.u c.from.result c.count_both-both.result c.from-least.result c.requires.t_in c.requires.u_in c.requires.apart c.requires.near
    c.row_by-row.ensures.neighbours (c.from.ensures ∙ c.size.ensures.size) c.count_both-both.ensures.shared c.from-2.result c.from-3.result c.from-4.result c.from-5.result c.in_both-itself.result c.in_both-other.result
    c.from-2.ensures c.in_both-itself.ensures c.from-4.ensures c.from-3.ensures c.in_both-other.ensures c.from-5.ensures
    (leb-true (c.from-least.result + c.from-4.result + c.from-5.result) c.count_both-both.result h))
