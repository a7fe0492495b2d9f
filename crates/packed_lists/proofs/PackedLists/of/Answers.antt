use Rattle.std.proofs.Common.{◌∷◌, length, get_or, ap, ◌∙◌, arith, refl}
use Rattle.std.proofs.lemmas.List.{get_or_read}
use Rattle.packed_lists.proofs.Packing.{written_long, written_at, within_at, found_at}
use Rattle.packed_lists.proofs.PackedLists.of.Goals as goal

pub start_of-start-requires : goal.start_of-start-requires
start_of-start-requires g c = omega (arith, c.requires, written_long c.self.inside.items.items c.self.inside.ends.items _ c.self.view_is, ap length c.deref.ensures.value)

pub index-end-requires : goal.index-end-requires
index-end-requires g c = omega (arith, c.requires, written_long c.self.inside.items.items c.self.inside.ends.items _ c.self.view_is)

pub offset_bounds-deref-start : goal.offset_bounds-deref-start
offset_bounds-deref-start g c =
    let w = within_at c.self.inside.items.items c.self.inside.ends.items _ c.args.a c.start_of-start.result c.index-end.result.now c.self.view_is c.self.invariant c.requires
    (c.start_of-start.ensures ∙ ap (λ es. get_or (0 ∷ es) c.args.a 0) c.deref.ensures.value)
    (get_or_read c.self.inside.ends.items c.args.a c.index-end.result.now (omega (arith, c.requires, written_long c.self.inside.items.items c.self.inside.ends.items _ c.self.view_is)) c.index-end.ensures 0) in
    omega (arith, w.0, w.1, ap length c.deref-2.ensures.value)

pub slice_bounds-result-count : goal.slice_bounds-result-count
slice_bounds-result-count g c =
    let w = within_at c.self.inside.items.items c.self.inside.ends.items _ c.args.a c.start_of-start.result c.index-end.result.now c.self.view_is c.self.invariant c.requires
    (c.start_of-start.ensures ∙ ap (λ es. get_or (0 ∷ es) c.args.a 0) c.deref.ensures.value)
    (get_or_read c.self.inside.ends.items c.args.a c.index-end.result.now (omega (arith, c.requires, written_long c.self.inside.items.items c.self.inside.ends.items _ c.self.view_is)) c.index-end.ensures 0) in
    omega (arith, w.0)

pub slice_bounds-result-start : goal.slice_bounds-result-start
slice_bounds-result-start g c =
    let w = within_at c.self.inside.items.items c.self.inside.ends.items _ c.args.a c.start_of-start.result c.index-end.result.now c.self.view_is c.self.invariant c.requires
    (c.start_of-start.ensures ∙ ap (λ es. get_or (0 ∷ es) c.args.a 0) c.deref.ensures.value)
    (get_or_read c.self.inside.ends.items c.args.a c.index-end.result.now (omega (arith, c.requires, written_long c.self.inside.items.items c.self.inside.ends.items _ c.self.view_is)) c.index-end.ensures 0) in
    omega (arith, w.0)

pub slice_bounds-result-end : goal.slice_bounds-result-end
slice_bounds-result-end g c =
    let w = within_at c.self.inside.items.items c.self.inside.ends.items _ c.args.a c.start_of-start.result c.index-end.result.now c.self.view_is c.self.invariant c.requires
    (c.start_of-start.ensures ∙ ap (λ es. get_or (0 ∷ es) c.args.a 0) c.deref.ensures.value)
    (get_or_read c.self.inside.ends.items c.args.a c.index-end.result.now (omega (arith, c.requires, written_long c.self.inside.items.items c.self.inside.ends.items _ c.self.view_is)) c.index-end.ensures 0) in
    omega (arith, w.0, w.1, ap length c.deref-2.ensures.value)

pub returns-clause-some : goal.returns-clause-some
returns-clause-some g c =
    rw c.deref-2.ensures.value
    (written_at c.self.inside.items.items _ c.self.inside.ends.items _ c.args.a c.start_of-start.result c.index-end.result.now c.self.view_is (omega (arith, c.requires, written_long c.self.inside.items.items c.self.inside.ends.items _ c.self.view_is))
    (c.start_of-start.ensures ∙ ap (λ es. get_or (0 ∷ es) c.args.a 0) c.deref.ensures.value)
    (get_or_read c.self.inside.ends.items c.args.a c.index-end.result.now (omega (arith, c.requires, written_long c.self.inside.items.items c.self.inside.ends.items _ c.self.view_is)) c.index-end.ensures 0)
    refl)

pub returns-clause-list : goal.returns-clause-list
returns-clause-list g c =
    found_at c.args.self.now.lists c.args.a _ (rw c.deref-2.ensures.value
    (written_at c.self.inside.items.items _ c.self.inside.ends.items _ c.args.a c.start_of-start.result c.index-end.result.now c.self.view_is (omega (arith, c.requires, written_long c.self.inside.items.items c.self.inside.ends.items _ c.self.view_is))
    (c.start_of-start.ensures ∙ ap (λ es. get_or (0 ∷ es) c.args.a 0) c.deref.ensures.value)
    (get_or_read c.self.inside.ends.items c.args.a c.index-end.result.now (omega (arith, c.requires, written_long c.self.inside.items.items c.self.inside.ends.items _ c.self.view_is)) c.index-end.ensures 0)
    refl))
