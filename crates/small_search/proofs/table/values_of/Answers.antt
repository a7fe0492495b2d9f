use Rattle.std.proofs.Common.{ap, ◌∙◌}
use Rattle.std.proofs.Common.{nat_lt}
use Rattle.graph_theory.specs.Graph.{Graph, size, label}
use Rattle.small_search.proofs.Tables.{are_values}
use Rattle.small_search.proofs.table.values_of.Goals as goal

pub returns : goal.returns
returns c =
    are_values c.args.q.now c.args.p c.label.result c.first_word.result c.fill_below.new.row c.keep_equal.new.row c.keep_degrees.new.row c.keep_in_degrees.new.row c.labels.result.now
    c.requires.small c.requires.p_in c.first_word.type_inv c.first_word.ensures
    (λ v. c.fill_below.ensures v ∙ ap (nat_lt v) (c.from.ensures ∙ c.size.ensures.size ∙ ap size c.target.ensures.target))
    c.keep_equal.ensures
    (c.labels.ensures ∙ ap (λ (g : Graph). g.labels) c.target-2.ensures.target)
    (c.label.ensures ∙ ap (λ (g : Graph). label g c.args.p) c.pattern.ensures.pattern)
    (λ t h. (c.keep_degrees.ensures.right t h).0) c.keep_degrees.ensures.complete c.keep_in_degrees.ensures.right c.keep_in_degrees.ensures.complete
