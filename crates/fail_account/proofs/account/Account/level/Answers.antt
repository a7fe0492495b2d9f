use Rattle.std.proofs.Common.{◌+◌, ◌*◌, sym, refl, ◌∙◌, arith}
use Rattle.fail_account.proofs.Levels.{level_vertex_is}
use Rattle.fail_account.proofs.RowViews.{row_refuted, row_padded}
use Rattle.fail_account.proofs.account.Account.level.Goals as goal

pub returns-clause-vertex : goal.returns-clause-vertex
returns-clause-vertex c =
    let i = c.self.inside in
    rw (← c.self.view_is) (c.level_vertex.ensures ∙ rw (c.deref.ensures.value, c.from-place.ensures)
    (sym (level_vertex_is i.words.items i.width i.target 0 i.path.items i.vertex _ c.args.i)))

pub returns-clause-refuted : goal.returns-clause-refuted
returns-clause-refuted c =
    let i = c.self.inside in
    let inside = rw (← c.self.view_is) at c.requires in
    rw (← c.self.view_is) (row_refuted i.pattern i.target i.budget i.path.items i.words.items i.width i.vertex i.count i.run i.all i.limit _ c.deref-2.result.now c.args.i
    (c.from-place.result * i.width) (c.from-place.result * i.width + i.width) c.self.invariant (omega arith) c.deref-2.ensures.value (rw c.from-place.ensures refl) refl)

pub returns-clause-others : goal.returns-clause-others
returns-clause-others c =
    let i = c.self.inside in
    let inside = rw (← c.self.view_is) at c.requires in
    rw (← c.self.view_is) (λ t past. row_padded i.pattern i.target i.budget i.path.items i.words.items i.width i.vertex i.count i.run i.all i.limit _ c.deref-2.result.now c.args.i
    (c.from-place.result * i.width) (c.from-place.result * i.width + i.width) t c.self.invariant (omega arith) c.deref-2.ensures.value (rw c.from-place.ensures refl) refl past)
