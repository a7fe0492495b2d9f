use Rattle.std.proofs.Common.{◌≡◌, ◌∙◌, ℕ, not, nat_lt, ap, sym, rules}
use Rattle.graph_theory.specs.Neighbours.{common}
use Rattle.graph_theory.specs.Reversed.{turned}
use Rattle.pair_lines.proofs.Meetings.{asked_turned}
use Rattle.pair_lines.proofs.both_ways.share_enough.Goals as goal

pub returns : goal.returns
returns c =
    let counted : not (nat_lt c.count-there.result c.count-asked.result)
    ≡ not (nat_lt (common (turned c.args.direction c.args.q.now.target) c.args.pair.t c.args.u) (common (turned c.args.direction c.args.q.now.pattern) c.args.pair.p c.args.pair.r)) = search rules in
    counted ∙ ap (λ (n : ℕ). not (nat_lt (common (turned c.args.direction c.args.q.now.target) c.args.pair.t c.args.u) n)) (sym (asked_turned c.args.direction c.args.q.now c.args.pair.p c.args.pair.r c.requires.injective))
