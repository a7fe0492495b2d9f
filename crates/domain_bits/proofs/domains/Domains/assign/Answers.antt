use Rattle.std.proofs.Common.{◌≡◌, ◌-◌, ◌<◌, length, set, get_or, refl, ap, ◌∙◌, arith}
use Rattle.std.specs.Prelude.{◌==◌}
use Rattle.std.proofs.lemmas.List.{length-set}
use Rattle.domain_bits.proofs.Keeping.{row_starts}
use Rattle.domain_bits.proofs.Cutting.{Cut, part_is, part_room, part_enough, part_length, cut_all, rows_after, sizes_after}
use Rattle.domain_bits.proofs.domains.Domains.assign.Goals as goal
use Rattle.domain_bits.proofs.Cutting.{kept_single}
use Rattle.domain_bits.proofs.Noting.{noted_change}

pub filter_value-gone-requires-clause-room : goal.filter_value-gone-requires-clause-room
filter_value-gone-requires-clause-room g c =
    let f = c.self.inside in
    let in-range : c.args.p < f.vertices = rw (← c.self.view_is) at c.requires.p_in in
    part_room f.vertices f.values f.words _ f.rows.items f.sizes.items _ _ c.args.p c.self.invariant.kept in-range
    (part_is c.args.p c.from.result f.words f.rows.items c.deref_mut.result.now c.from.ensures c.deref_mut.ensures.value)

pub lower-requires-clause-enough : goal.lower-requires-clause-enough
lower-requires-clause-enough g c =
    let f = c.self.inside in
    let in-range : c.args.p < f.vertices = rw (← c.self.view_is) at c.requires.p_in in
    rw (c.deref_mut-2.ensures.value, c.from-2.ensures)
    (part_enough f.vertices f.values f.words _ f.rows.items f.sizes.items _ _ c.args.p c.filter_value-gone.result (λ u. u == c.args.t) c.self.invariant.kept in-range
    (part_is c.args.p c.from.result f.words f.rows.items c.deref_mut.result.now c.from.ensures c.deref_mut.ensures.value) c.filter_value-gone.ensures.count)

cut : (g : _) (c : goal.After-self-3-1 g) → let f = c.self.inside in
    Cut f.vertices f.values f.words (g.T.Trail.removed f.trail) (g.T.Trail.removed c.filter_value-gone.new.trail) f.rows.items f.sizes.items c.filter_value-gone.new.domain (g.T.Trail.capacity c.filter_value-gone.new.trail) c.args.p c.filter_value-gone.result (λ u. u == c.args.t)
cut g c =
    let f = c.self.inside in
    let in-range : c.args.p < f.vertices = rw (← c.self.view_is) at c.requires.p_in in
    cut_all f.vertices f.values f.words _ _ f.rows.items f.sizes.items _ c.filter_value-gone.new.domain _ _ c.args.p c.filter_value-gone.result (λ u. u == c.args.t) c.self.invariant.kept in-range
    (part_is c.args.p c.from.result f.words f.rows.items c.deref_mut.result.now c.from.ensures c.deref_mut.ensures.value)
    c.filter_value-gone.auto.domain c.filter_value-gone.ensures.row c.filter_value-gone.ensures.count c.filter_value-gone.ensures.trail c.filter_value-gone.ensures.room

pub invariant_of-self : goal.invariant_of-self
invariant_of-self g c =
    let f = c.self.inside in
    let in-range : c.args.p < f.vertices = rw (← c.self.view_is) at c.requires.p_in in
    let part = part_is c.args.p c.from.result f.words f.rows.items c.deref_mut.result.now c.from.ensures c.deref_mut.ensures.value in
    let long = c.filter_value-gone.auto.domain ∙ part_length f.vertices f.values f.words _ f.rows.items f.sizes.items _ _ c.args.p c.self.invariant.kept in-range part in
    let sizes : c.lower.new.sizes ≡ set f.sizes.items c.args.p (get_or f.sizes.items c.args.p 0 - c.filter_value-gone.result) = c.lower.ensures ∙ rw (c.deref_mut-2.ensures.value, c.from-2.ensures) refl in
    let singles : c.note.new.singles ≡ set f.singles.items c.args.p c.args.t = c.note.ensures ∙ rw (c.deref_mut-3.ensures.value, c.from-3.ensures) refl in
    rw (
      rows_after c.args.p c.from.result f.words f.rows.len f.rows.items c.deref_mut.result.now c.filter_value-gone.new.domain c.from.ensures c.deref_mut.ensures.value (omega (arith, f.rows.ok))
          (row_starts f.vertices f.values f.words _ f.rows.items f.sizes.items _ c.args.p c.self.invariant.kept in-range) long,
      sizes_after f.sizes.len f.sizes.items c.lower.new.sizes (omega (arith, f.sizes.ok)) (ap length sizes ∙ length-set f.sizes.items c.args.p _),
      sizes_after f.singles.len f.singles.items c.note.new.singles (omega (arith, f.singles.ok)) (ap length singles ∙ length-set f.singles.items c.args.p _),
      sizes,
    )
    (record {
      kept = (cut g c).kept;
      noted = noted_change f.vertices f.values (g.T.Trail.removed f.trail) (g.T.Trail.removed c.filter_value-gone.new.trail) f.singles.items c.note.new.singles c.args.p c.args.t
          c.self.invariant.noted in-range singles (cut g c).keeps-those.shrinks.others
          (λ one. (kept_single _ _ c.args.p c.args.t (cut g c).keeps-those (rw (← c.self.view_is) at c.requires.t_in)).here);
    })

pub returns-clause-after : goal.returns-clause-after
returns-clause-after g c = rw (← c.self.view_is) (cut g c).after

pub returns-clause-keeps : goal.returns-clause-keeps
returns-clause-keeps g c = rw (← c.self.view_is) (cut g c).keeps-those

pub returns-clause-single : goal.returns-clause-single
returns-clause-single g c = kept_single c.args.self.now _ c.args.p c.args.t (returns-clause-keeps g c) c.requires.t_in

pub returns-clause-vertices : goal.returns-clause-vertices
returns-clause-vertices g c = (returns-clause-keeps g c).shrinks.vertices_same

pub returns-clause-values : goal.returns-clause-values
returns-clause-values g c = (returns-clause-keeps g c).shrinks.values_same
