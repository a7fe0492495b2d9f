use Rattle.std.proofs.Common.{◌∙◌, nat_lt, ℕ, ap, arith}
use Rattle.std.proofs.lemmas.Bool.{lt-ltb}
use Rattle.graph_theory.specs.Graph.{size}
use Rattle.dead_paths.proofs.needs.fill_without.Goals as goal

pub take_out-requires : goal.take_out-requires
take_out-requires c = λ u among. let h = c.requires.values u among in omega (arith, h, c.requires.long, c.fill_below.auto.row)

pub returns-clause-rest : goal.returns-clause-rest
returns-clause-rest c = λ u u_in off. c.take_out.ensures.rest u off ∙ c.fill_below.ensures u ∙ ap (λ (k : ℕ). nat_lt u k) c.count_values.ensures.is ∙ lt-ltb u (size c.args.q.now.target) u_in
