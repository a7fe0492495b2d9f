use Rattle.std.proofs.Common.{◌≡◌, ℕ, is_some, ap, sym, ◌∙◌}
use Rattle.graph_theory.specs.Graph.{Graph, edge}
use Rattle.graph_theory.specs.Neighbours.{degree}
use Rattle.graph_theory.specs.Reversed.{turned}
use Rattle.degree_filter.proofs.LoopsTurned.{room_local, room_any}
use Rattle.degree_filter.proofs.room_at.Goals as goal

pub returns-in-Local : goal.returns-in-Local
returns-in-Local c =
    room_local c.args.direction c.args.q.now c.args.t _ _ c.has_edge.result c.in-Local.ensures.maps c.from-own.ensures
    (c.has_edge.ensures ∙ ap (λ (g : Graph). is_some (edge g c.args.t c.args.t)) c.target-2.ensures.target)
    (c.from-degree.ensures ∙ c.degree_by.ensures ∙ ap (λ (g : Graph). degree (turned c.args.direction g) c.args.t) c.target.ensures.target) c.requires

pub returns-in-Any : goal.returns-in-Any
returns-in-Any c =
    room_any c.args.direction c.args.q.now c.args.t _ _ c.has_edge.result c.in-Any.ensures.maps c.from-own.ensures
    (c.has_edge.ensures ∙ ap (λ (g : Graph). is_some (edge g c.args.t c.args.t)) c.target-2.ensures.target)
    (c.from-degree.ensures ∙ c.degree_by.ensures ∙ ap (λ (g : Graph). degree (turned c.args.direction g) c.args.t) c.target.ensures.target) c.requires
