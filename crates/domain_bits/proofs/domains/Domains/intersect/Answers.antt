use Rattle.std.proofs.Common.{◌≡◌, ◌-◌, ◌<◌, length, set, get_or, refl, ap, ◌∙◌, arith}
use Rattle.std.proofs.lemmas.List.{length-set}
use Rattle.bit_rows.specs.BitRows.{has}
use Rattle.domain_bits.proofs.Keeping.{row_starts}
use Rattle.domain_bits.proofs.Cutting.{Cut, part_is, part_room, part_enough, part_length, cut_all, rows_after, sizes_after}
use Rattle.domain_bits.proofs.Noting.{noted_cut, noted_uncut}
use Rattle.domain_bits.proofs.domains.Domains.intersect.Goals as goal
use Rattle.domain_bits.proofs.domains.Domains.intersect.Goals.{After-from-2}

pub filter_row-gone-requires-clause-room : goal.filter_row-gone-requires-clause-room
filter_row-gone-requires-clause-room g c =
    let f = c.self.inside in
    let in-range : c.args.p < f.vertices = rw (← c.self.view_is) at c.requires.p_in in
    part_room f.vertices f.values f.words _ f.rows.items f.sizes.items _ _ c.args.p c.self.invariant.kept in-range
    (part_is c.args.p c.from.result f.words f.rows.items c.deref_mut.result.now c.from.ensures c.deref_mut.ensures.value)

pub lower_noting-requires-clause-enough : goal.lower_noting-requires-clause-enough
lower_noting-requires-clause-enough g c =
    let f = c.self.inside in
    let in-range : c.args.p < f.vertices = rw (← c.self.view_is) at c.requires.p_in in
    rw (c.deref_mut-2.ensures.value, c.from-2.ensures)
    (part_enough f.vertices f.values f.words _ f.rows.items f.sizes.items _ _ c.args.p c.filter_row-gone.result (has c.args.row.now) c.self.invariant.kept in-range
    (part_is c.args.p c.from.result f.words f.rows.items c.deref_mut.result.now c.from.ensures c.deref_mut.ensures.value) c.filter_row-gone.ensures.count)

cut : (g : _) (c : After-from-2 g) → let f = c.self.inside in
    Cut f.vertices f.values f.words (g.T.Trail.removed f.trail) (g.T.Trail.removed c.filter_row-gone.new.trail) f.rows.items f.sizes.items c.filter_row-gone.new.domain (g.T.Trail.capacity c.filter_row-gone.new.trail) c.args.p c.filter_row-gone.result (has c.args.row.now)
cut g c =
    let f = c.self.inside in
    let in-range : c.args.p < f.vertices = rw (← c.self.view_is) at c.requires.p_in in
    cut_all f.vertices f.values f.words _ _ f.rows.items f.sizes.items _ c.filter_row-gone.new.domain _ _ c.args.p c.filter_row-gone.result (has c.args.row.now) c.self.invariant.kept in-range
    (part_is c.args.p c.from.result f.words f.rows.items c.deref_mut.result.now c.from.ensures c.deref_mut.ensures.value)
    c.filter_row-gone.auto.domain c.filter_row-gone.ensures.row c.filter_row-gone.ensures.count c.filter_row-gone.ensures.trail c.filter_row-gone.ensures.room

pub lower_noting-requires-clause-left : goal.lower_noting-requires-clause-left
lower_noting-requires-clause-left g c = rw (c.deref_mut-2.ensures.value, c.from-2.ensures) (cut g c).left

pub lower_noting-requires-clause-unchanged : goal.lower_noting-requires-clause-unchanged
lower_noting-requires-clause-unchanged g c none =
    let f = c.self.inside in
    let in-range : c.args.p < f.vertices = rw (← c.self.view_is) at c.requires.p_in in
    rw (c.deref_mut-2.ensures.value, c.deref_mut-3.ensures.value, c.from-2.ensures)
    (noted_uncut f.vertices f.values f.words _ _ f.rows.items f.sizes.items c.filter_row-gone.new.domain f.singles.items _ _ c.args.p c.filter_row-gone.result (has c.args.row.now)
    c.self.invariant.kept c.self.invariant.noted in-range (cut g c) none)

pub invariant_of-self : goal.invariant_of-self
invariant_of-self g c =
    let f = c.self.inside in
    let in-range : c.args.p < f.vertices = rw (← c.self.view_is) at c.requires.p_in in
    let part = part_is c.args.p c.from.result f.words f.rows.items c.deref_mut.result.now c.from.ensures c.deref_mut.ensures.value in
    let long = c.filter_row-gone.auto.domain ∙ part_length f.vertices f.values f.words _ f.rows.items f.sizes.items _ _ c.args.p c.self.invariant.kept in-range part in
    let sizes : c.lower_noting.new.sizes ≡ set f.sizes.items c.args.p (get_or f.sizes.items c.args.p 0 - c.filter_row-gone.result) = c.lower_noting.ensures.sizes ∙ rw (c.deref_mut-2.ensures.value, c.from-2.ensures) refl in
    let singles : c.lower_noting.new.singles ≡ set f.singles.items c.args.p (get_or c.lower_noting.new.singles c.args.p 0) = c.lower_noting.ensures.others ∙ rw (c.deref_mut-3.ensures.value, c.from-2.ensures) refl in
    rw (
      rows_after c.args.p c.from.result f.words f.rows.len f.rows.items c.deref_mut.result.now c.filter_row-gone.new.domain c.from.ensures c.deref_mut.ensures.value (omega (arith, f.rows.ok))
          (row_starts f.vertices f.values f.words _ f.rows.items f.sizes.items _ c.args.p c.self.invariant.kept in-range) long,
      sizes_after f.sizes.len f.sizes.items c.lower_noting.new.sizes (omega (arith, f.sizes.ok)) (ap length sizes ∙ length-set f.sizes.items c.args.p _),
      sizes_after f.singles.len f.singles.items c.lower_noting.new.singles (omega (arith, f.singles.ok)) (ap length singles ∙ length-set f.singles.items c.args.p _),
      sizes,
    )
    (record {
      kept = (cut g (goal.at.invariant_of-self g c).After-from-2).kept;
      noted = noted_cut f.vertices f.values f.words _ _ f.rows.items f.sizes.items c.filter_row-gone.new.domain f.singles.items c.lower_noting.new.singles _ c.args.p c.filter_row-gone.result (has c.args.row.now)
          c.self.invariant.noted in-range (cut g (goal.at.invariant_of-self g c).After-from-2) singles (rw (c.deref_mut-2.ensures.value, c.from-2.ensures) at c.lower_noting.ensures.single);
    })

pub returns-clause-after : goal.returns-clause-after
returns-clause-after g c = rw (← c.self.view_is) (cut g (goal.at.returns-clause-after g c).After-from-2).after

pub returns-clause-keeps : goal.returns-clause-keeps
returns-clause-keeps g c = rw (← c.self.view_is) (cut g (goal.at.returns-clause-keeps g c).After-from-2).keeps-those

pub returns-clause-vertices : goal.returns-clause-vertices
returns-clause-vertices g c = (returns-clause-keeps g c).shrinks.vertices_same

pub returns-clause-values : goal.returns-clause-values
returns-clause-values g c = (returns-clause-keeps g c).shrinks.values_same
