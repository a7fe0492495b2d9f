use Rattle.std.proofs.Common.{◌≡◌, ◌<◌, true, length, refl, sym, ◌∙◌, arith}
use Rattle.sparse_set.specs.Removals.{has}
use Rattle.sparse_set.proofs.Places.{member_parts, read_at, held_written, state_written}
use Rattle.sparse_set.proofs.SparseSet.remove.Goals as goal

pub index-first-requires : goal.index-first-requires
index-first-requires c =
    let f = c.self.inside in
    let present : has c.args.self.now c.args.p ≡ true = sym c.has.ensures ∙ c.if-not-has.false in
    let here = rw (← c.self.view_is) at present in
    let parts = member_parts f.items.items f.places.items f.gone c.args.p c.self.invariant here in
    let gone_in : f.gone < length f.items.items = omega (arith, parts.0, parts.1, c.self.invariant.place c.args.p parts.0) in
    omega (arith, gone_in, f.items.ok.0)

pub index_mut-requires-2 : goal.index_mut-requires-2
index_mut-requires-2 c =
    let f = c.self.inside in
    let present : has c.args.self.now c.args.p ≡ true = sym c.has.ensures ∙ c.if-not-has.false in
    let here = rw (← c.self.view_is) at present in
    let parts = member_parts f.items.items f.places.items f.gone c.args.p c.self.invariant here in
    let gone_in : f.gone < length f.items.items = omega (arith, parts.0, parts.1, c.self.invariant.place c.args.p parts.0) in
    omega (arith, gone_in, f.items.ok.0)

pub index_mut-requires-3 : goal.index_mut-requires-3
index_mut-requires-3 c =
    let f = c.self.inside in
    let present : has c.args.self.now c.args.p ≡ true = sym c.has.ensures ∙ c.if-not-has.false in
    let here = rw (← c.self.view_is) at present in
    let parts = member_parts f.items.items f.places.items f.gone c.args.p c.self.invariant here in
    let gone_in : f.gone < length f.items.items = omega (arith, parts.0, parts.1, c.self.invariant.place c.args.p parts.0) in
    let first_is = read_at f.items.items f.gone f.gone c.index-first.result.now refl gone_in c.index-first.ensures in
    omega (arith, c.from-3.ensures, first_is, c.self.invariant.item f.gone gone_in, c.self.invariant.long, f.places.ok.0)

pub overflow_cast-self-inside : goal.overflow_cast-self-inside
overflow_cast-self-inside c =
    let f = c.self.inside in
    let present : has c.args.self.now c.args.p ≡ true = sym c.has.ensures ∙ c.if-not-has.false in
    let here = rw (← c.self.view_is) at present in
    let parts = member_parts f.items.items f.places.items f.gone c.args.p c.self.invariant here in
    let place_is = read_at f.places.items c.from.result c.args.p c.index-place.result.now c.from.ensures (omega (arith, parts.0, c.self.invariant.long)) c.index-place.ensures in
    omega (arith, parts.1, place_is, c.type_inv.place)

pub invariant_of-self : goal.invariant_of-self
invariant_of-self c =
    let f = c.self.inside in
    let present : has c.args.self.now c.args.p ≡ true = sym c.has.ensures ∙ c.if-not-has.false in
    let here = rw (← c.self.view_is) at present in
    let parts = member_parts f.items.items f.places.items f.gone c.args.p c.self.invariant here in
    let place_is = read_at f.places.items c.from.result c.args.p c.index-place.result.now c.from.ensures (omega (arith, parts.0, c.self.invariant.long)) c.index-place.ensures in
    let gone_in : f.gone < length f.items.items = omega (arith, parts.0, parts.1, c.self.invariant.place c.args.p parts.0) in
    let first_is = read_at f.items.items f.gone f.gone c.index-first.result.now refl gone_in c.index-first.ensures in
    held_written f.items.items f.places.items f.gone c.args.p _ _ _ _ _ c.self.invariant parts.0 parts.1 place_is first_is c.from-2.ensures c.from-3.ensures c.from-4.ensures

pub returns-clause-after : goal.returns-clause-after
returns-clause-after c =
    let f = c.self.inside in
    let present : has c.args.self.now c.args.p ≡ true = sym c.has.ensures ∙ c.if-not-has.false in
    let here = rw (← c.self.view_is) at present in
    let parts = member_parts f.items.items f.places.items f.gone c.args.p c.self.invariant here in
    let place_is = read_at f.places.items c.from.result c.args.p c.index-place.result.now c.from.ensures (omega (arith, parts.0, c.self.invariant.long)) c.index-place.ensures in
    rw (← c.self.view_is) (state_written f.items.items f.places.items f.gone c.args.p _ c.index-first.result.now _ c.self.invariant parts.0 parts.1 place_is c.from-2.ensures)
