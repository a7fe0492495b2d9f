use Rattle.std.proofs.Common.{◌∙◌}
use Rattle.pb_encoding.proofs.Agreements.{right_bits}
use Rattle.pb_encoding.proofs.right_row.fill_right.Goals as goal

pub returns : goal.returns
returns c = λ u.
    right_bits c.args.q.now c.args.p c.args.t c.args.r u c.from.result c.pattern-pattern.result.now c.target-target.result.now c.induced-induced.result c.has_edge.result c.has_edge-2.result
    c.fill_below.new.row c.keep_agreeing.new.row c.keep_agreeing-2.new.row c.keep_open.new.row c.row.result.now c.in_row.result.now
    c.pattern-pattern.ensures.pattern c.target-target.ensures.target c.induced-induced.ensures c.has_edge.ensures c.has_edge-2.ensures (c.from.ensures ∙ c.size.ensures.size) (c.fill_below.ensures u)
    (c.row.ensures.neighbours u) (c.in_row.ensures.neighbours u) (c.keep_agreeing.ensures u) (c.keep_agreeing-2.ensures u) (c.keep_open.ensures u)
