use Rattle.std.proofs.Common.{◌≡◌, ℕ, ◌<◌, List, ap, ◌∙◌, length, slice_index, arith}
use Rattle.std.proofs.lemmas.Grind.{common_steps}
use Rattle.graph_rows.proofs.Reversing.{in_degrees_own, in_degrees_kept}
use Rattle.graph_rows.proofs.graph.Graph.all_in_degrees.Goals as goal

pub returns-then-is_empty-clause-degrees : goal.returns-then-is_empty-clause-degrees
returns-then-is_empty-clause-degrees c =
    let none : length c.self.inside.back.items ≡ 0 = grind (arith, common_steps) in
    λ a a_in. ap (λ (ds : List ℕ). slice_index ds a) c.deref.ensures.value
    ∙ in_degrees_own c.self.inside.labels.items c.self.inside.words.items _ c.self.inside.degrees.items c.self.inside.width _ c.self.view_is c.self.invariant.0 (c.self.invariant.1.own none) a a_in

pub returns-else-is_empty-clause-degrees : goal.returns-else-is_empty-clause-degrees
returns-else-is_empty-clause-degrees c =
    let some : 0 < length c.self.inside.back.items = grind (arith, common_steps) in
    λ a a_in. ap (λ (ds : List ℕ). slice_index ds a) c.deref-else-is_empty.ensures.value
    ∙ in_degrees_kept c.self.inside.labels.items c.self.inside.words.items _ c.self.inside.back.items c.self.inside.in_degrees.items c.self.inside.width _ c.self.view_is (c.self.invariant.1.kept some) a a_in
