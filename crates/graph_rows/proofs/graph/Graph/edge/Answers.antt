use Rattle.std.proofs.Common.{false, length, refl, ◌∙◌}
use Rattle.graph_rows.proofs.Places.{row_narrow}
use Rattle.graph_rows.proofs.HeldGraph.{edge_is, vertex_low, mark_within}
use Rattle.graph_rows.proofs.LabelsBeside.{edge_mark}
use Rattle.graph_rows.proofs.graph.Graph.edge.Goals as goal

pub edge_label-requires-clause-stands : goal.edge_label-requires-clause-stands
edge_label-requires-clause-stands c = edge_mark c.self.inside.labels.items c.self.inside.words.items _ c.self.inside.width _ _ _ c.self.view_is c.requires.from c.requires.to ∙ (cc)

pub returns-else-is_marked : goal.returns-else-is_marked
returns-else-is_marked c =
    edge_is c.self.inside.labels.items c.self.inside.words.items _ c.self.inside.width _ _ _ false _ c.self.view_is c.requires.from c.requires.to (cc) refl

pub is_marked-requires-clause-from : goal.is_marked-requires-clause-from
is_marked-requires-clause-from c = vertex_low c.self.inside.labels.items c.self.inside.words.items _ c.self.inside.degrees.items c.self.inside.width _ _ _ c.self.view_is c.self.invariant.0 c.requires.from c.from.ensures

pub is_marked-requires-clause-to : goal.is_marked-requires-clause-to
is_marked-requires-clause-to c = vertex_low c.self.inside.labels.items c.self.inside.words.items _ c.self.inside.degrees.items c.self.inside.width _ _ _ c.self.view_is c.self.invariant.0 c.requires.to c.from-2.ensures

pub is_marked-requires-clause-narrow : goal.is_marked-requires-clause-narrow
is_marked-requires-clause-narrow c = row_narrow (length c.self.inside.labels.items) c.self.inside.width c.self.invariant.0.few c.self.invariant.0.width_is

pub is_marked-requires-clause-within : goal.is_marked-requires-clause-within
is_marked-requires-clause-within c =
    mark_within c.self.inside.labels.items c.self.inside.words.items _ c.self.inside.degrees.items c.deref.result.now c.self.inside.width _ _ _ _ _ c.self.view_is c.self.invariant.0 c.requires.from c.requires.to c.from.ensures c.from-2.ensures c.deref.ensures.value
