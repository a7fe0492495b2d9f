use Rattle.std.proofs.Common.{◌≡◌, ◌<◌, length, arith}
use Rattle.std.proofs.lemmas.Grind.{common_steps}
use Rattle.graph_rows.proofs.HeldGraph.{own_read, turned_read, in_within}
use Rattle.graph_rows.proofs.graph.Graph.in_row.Goals as goal

pub returns-then-is_empty-clause-neighbours : goal.returns-then-is_empty-clause-neighbours
returns-then-is_empty-clause-neighbours c =
    let none : length c.self.inside.back.items ≡ 0 = grind (arith, common_steps) in
    λ b. own_read c.self.inside.labels.items c.self.inside.words.items _ c.self.inside.degrees.items c.deref.result.now c.self.inside.width _ _ _ _
    c.self.view_is c.self.invariant.0 (c.self.invariant.1.own none) c.requires (cc) c.deref.ensures.value (omega arith) b

pub returns-then-is_empty-clause-within : goal.returns-then-is_empty-clause-within
returns-then-is_empty-clause-within c =
    let none : length c.self.inside.back.items ≡ 0 = grind (arith, common_steps) in
    λ b h. in_within c.self.inside.labels.items c.self.inside.words.items _ _ c.self.inside.width _ _ c.self.view_is
    (λ v. own_read c.self.inside.labels.items c.self.inside.words.items _ c.self.inside.degrees.items c.deref.result.now c.self.inside.width _ _ _ _
    c.self.view_is c.self.invariant.0 (c.self.invariant.1.own none) c.requires (cc) c.deref.ensures.value (omega arith) v) b h

pub returns-else-is_empty-clause-neighbours : goal.returns-else-is_empty-clause-neighbours
returns-else-is_empty-clause-neighbours c =
    let some : 0 < length c.self.inside.back.items = grind (arith, common_steps) in
    λ b. turned_read c.self.inside.labels.items c.self.inside.words.items _ c.self.inside.back.items c.self.inside.in_degrees.items c.deref-else-is_empty.result.now c.self.inside.width _ _ _ _
    c.self.view_is (c.self.invariant.1.kept some) c.requires (cc) c.deref-else-is_empty.ensures.value (omega arith) b

pub returns-else-is_empty-clause-within : goal.returns-else-is_empty-clause-within
returns-else-is_empty-clause-within c =
    let some : 0 < length c.self.inside.back.items = grind (arith, common_steps) in
    λ b h. in_within c.self.inside.labels.items c.self.inside.words.items _ _ c.self.inside.width _ _ c.self.view_is
    (λ v. turned_read c.self.inside.labels.items c.self.inside.words.items _ c.self.inside.back.items c.self.inside.in_degrees.items c.deref-else-is_empty.result.now c.self.inside.width _ _ _ _
    c.self.view_is (c.self.invariant.1.kept some) c.requires (cc) c.deref-else-is_empty.ensures.value (omega arith) v) b h
