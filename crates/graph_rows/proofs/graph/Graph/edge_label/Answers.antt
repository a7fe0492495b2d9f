use Rattle.std.proofs.Common.{◌≡◌, ℕ, ◌<◌, length, get_or, sym, ap, ◌∙◌, arith}
use Rattle.std.proofs.lemmas.Grind.{common_steps}
use Rattle.std.proofs.lemmas.List.{get_or_read}
use Rattle.graph_rows.proofs.HeldGraph.{no_label}
use Rattle.graph_rows.proofs.LabelsBeside.{place_is, label_read}
use Rattle.graph_rows.proofs.graph.Graph.edge_label.Goals as goal

pub returns-then-is_empty : goal.returns-then-is_empty
returns-then-is_empty c =
    let none : length c.self.inside.edge_labels.starts.items ≡ 0 = grind (arith, common_steps) in
    label_read c.self.inside.labels.items c.self.inside.words.items _ c.self.inside.width _ _ _ _ c.self.view_is c.requires.from c.requires.to c.requires.stands
    (sym (no_label c.self.inside.edge_labels.starts.items c.self.inside.edge_labels.labels.items c.self.inside.words.items c.self.inside.width c.args.a c.args.b (c.self.invariant.3.none none)))

pub index-requires-2 : goal.index-requires-2
index-requires-2 c =
    let some : 0 < length c.self.inside.edge_labels.starts.items = grind (arith, common_steps) in
    let place = place_is c.self.inside.labels.items c.self.inside.words.items _ c.self.inside.width _ c.row-row.result.now c.self.inside.edge_labels.starts.items c.self.inside.edge_labels.labels.items c.args.a c.args.b _ _
    c.index.result.now c.count_both-before.result c.self.view_is c.self.invariant.0.width_is c.self.invariant.3 some c.requires.from c.requires.to c.requires.stands c.row-row.ensures.neighbours
    c.count_both-before.ensures.shared c.from.ensures c.index.ensures c.from-2.ensures in
    omega (arith, place.1, c.self.inside.edge_labels.labels.ok)

pub returns : goal.returns
returns c =
    let some : 0 < length c.self.inside.edge_labels.starts.items = grind (arith, common_steps) in
    let place = place_is c.self.inside.labels.items c.self.inside.words.items _ c.self.inside.width _ c.row-row.result.now c.self.inside.edge_labels.starts.items c.self.inside.edge_labels.labels.items c.args.a c.args.b _ _
    c.index.result.now c.count_both-before.result c.self.view_is c.self.invariant.0.width_is c.self.invariant.3 some c.requires.from c.requires.to c.requires.stands c.row-row.ensures.neighbours
    c.count_both-before.ensures.shared c.from.ensures c.index.ensures c.from-2.ensures in
    label_read c.self.inside.labels.items c.self.inside.words.items _ c.self.inside.width _ _ _ _ c.self.view_is c.requires.from c.requires.to c.requires.stands
    (get_or_read c.self.inside.edge_labels.labels.items _ c.index-2.result.now place.1 c.index-2.ensures 0 ∙ ap (λ (k : ℕ). get_or c.self.inside.edge_labels.labels.items k 0) place.0)
