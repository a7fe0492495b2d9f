use Rattle.std.proofs.Common.{false, refl, sym, ◌∙◌}
use Rattle.graph_rows.proofs.HeldGraph.{loop_is, loops_are}
use Rattle.graph_rows.proofs.graph.Graph.loop_at.Goals as goal

pub edge_label-requires-clause-stands : goal.edge_label-requires-clause-stands
edge_label-requires-clause-stands c =
    sym (loops_are c.self.inside.labels.items c.self.inside.words.items _ c.self.inside.loops.items c.self.inside.width _ c.self.view_is c.self.invariant.2 c.args.a) ∙ (cc)

pub returns-else-has_bit : goal.returns-else-has_bit
returns-else-has_bit c =
    loop_is c.self.inside.labels.items c.self.inside.words.items _ c.self.inside.loops.items c.self.inside.width _ c.args.a false _ c.self.view_is c.self.invariant.2 c.requires
    (cc) refl
