use Rattle.std.proofs.Common.{◌≡◌, ℕ, ◌+◌, ◌*◌, ◌-◌, ◌<◌, ◌≤◌, true, not, List, ◌++◌, length, take, drop, set, get_or, refl, sym, ap, ◌∙◌, arith}
use Rattle.std.specs.Prelude.{◌==◌}
use Rattle.std.proofs.lemmas.List.{length-set}
use Rattle.bit_rows.specs.BitRows.{has}
use Rattle.domain_bits.specs.Removals.{in_domain, at_vertex}
use Rattle.domain_bits.specs.Inside.{Kept}
use Rattle.domain_bits.proofs.Keeping.{state, row_starts, start_bits, one_size, values_fit}
use Rattle.domain_bits.proofs.Sizes.{count_some, in_below}
use Rattle.domain_bits.proofs.Cutting.{Cut, part_is, part_length, cut_all, rows_after, sizes_after, one_leaves, one_left}
use Rattle.domain_bits.proofs.Noting.{noted_cut}
use Rattle.domain_bits.proofs.domains.Domains.remove.Goals as goal
use Rattle.domain_bits.proofs.domains.Domains.remove.Goals.{After-from-2}

-- the size of a domain that has a value
some_size : (v n words : ℕ) (removed : List (ℕ × ℕ)) (rows sizes : List ℕ) (cap p t : ℕ)
    → Kept (state v n removed) words rows sizes cap → p < v → in_domain (state v n removed) p t ≡ true → (1 ≤ get_or sizes p 0) × (length removed < v * n) × (length removed < cap)
some_size v n words removed rows sizes cap p t k h here =
    let one : 1 ≤ get_or sizes p 0 = omega (arith, k.counts p h, count_some (in_domain (state v n removed) p) n t (in_below (state v n removed) p t here) here) in
    let all = one_size sizes p (omega (arith, k.sized)) in
    (one, omega (arith, k.all), omega (arith, k.all, k.room))

pub take_value-requires-clause-room : goal.take_value-requires-clause-room
take_value-requires-clause-room g c =
    let f = c.self.inside in
    let in-range : c.args.p < f.vertices = rw (← c.self.view_is) at c.requires.p_in in
    let present : in_domain c.args.self.now c.args.p c.args.t ≡ true = sym c.has.ensures ∙ c.if-not-has.false in
    let here = rw (← c.self.view_is) at present in
    (some_size f.vertices f.values f.words _ f.rows.items f.sizes.items _ c.args.p c.args.t c.self.invariant.kept in-range here).2

pub lower_noting-requires-clause-enough : goal.lower_noting-requires-clause-enough
lower_noting-requires-clause-enough g c =
    let f = c.self.inside in
    let in-range : c.args.p < f.vertices = rw (← c.self.view_is) at c.requires.p_in in
    let present : in_domain c.args.self.now c.args.p c.args.t ≡ true = sym c.has.ensures ∙ c.if-not-has.false in
    let here = rw (← c.self.view_is) at present in
    rw (c.deref_mut-2.ensures.value, c.from-2.ensures)
    (some_size f.vertices f.values f.words _ f.rows.items f.sizes.items _ c.args.p c.args.t c.self.invariant.kept in-range here).0

cut : (g : _) (c : After-from-2 g) → let f = c.self.inside in
    Cut f.vertices f.values f.words (g.T.Trail.removed f.trail) (g.T.Trail.removed c.take_value.new.trail) f.rows.items f.sizes.items c.take_value.new.domain (g.T.Trail.capacity c.take_value.new.trail) c.args.p 1 (λ u. not (u == c.args.t))
cut g c =
    let f = c.self.inside in
    let in-range : c.args.p < f.vertices = rw (← c.self.view_is) at c.requires.p_in in
    let present : in_domain c.args.self.now c.args.p c.args.t ≡ true = sym c.has.ensures ∙ c.if-not-has.false in
    let here = rw (← c.self.view_is) at present in
    let part = part_is c.args.p c.from.result f.words f.rows.items c.deref_mut.result.now c.from.ensures c.deref_mut.ensures.value in
    let start = take (c.from.result * f.words + f.words - c.from.result * f.words) (drop (c.from.result * f.words) c.deref_mut.result.now) in
    let here-part : has start c.args.t ≡ true = ap (λ s. has s c.args.t) part ∙ start_bits f.vertices f.values f.words _ f.rows.items f.sizes.items _ c.args.p c.self.invariant.kept in-range c.args.t ∙ here in
    let inside : c.args.t < 64 * length start =
    omega (
      arith,
      part_length f.vertices f.values f.words _ f.rows.items f.sizes.items start _ c.args.p c.self.invariant.kept in-range part,
      (values_fit f.vertices f.values f.words _ f.rows.items f.sizes.items _ c.self.invariant.kept).0,
      in_below (state f.vertices f.values (g.T.Trail.removed f.trail)) c.args.p c.args.t here,
    ) in
    cut_all f.vertices f.values f.words _ _ f.rows.items f.sizes.items start c.take_value.new.domain _ _ c.args.p 1 (λ u. not (u == c.args.t)) c.self.invariant.kept in-range part
    c.take_value.auto.domain c.take_value.ensures.row (one_left start c.args.t inside here-part)
    (c.take_value.ensures.trail ∙ ap (λ us. g.T.Trail.removed f.trail ++ at_vertex c.args.p us) (sym (one_leaves start c.args.t inside here-part))) c.take_value.ensures.room

pub lower_noting-requires-clause-left : goal.lower_noting-requires-clause-left
lower_noting-requires-clause-left g c = rw (c.deref_mut-2.ensures.value, c.from-2.ensures) (cut g c).left

pub invariant_of-self : goal.invariant_of-self
invariant_of-self g c =
    let f = c.self.inside in
    let in-range : c.args.p < f.vertices = rw (← c.self.view_is) at c.requires.p_in in
    let part = part_is c.args.p c.from.result f.words f.rows.items c.deref_mut.result.now c.from.ensures c.deref_mut.ensures.value in
    let long = c.take_value.auto.domain ∙ part_length f.vertices f.values f.words _ f.rows.items f.sizes.items _ _ c.args.p c.self.invariant.kept in-range part in
    let sizes : c.lower_noting.new.sizes ≡ set f.sizes.items c.args.p (get_or f.sizes.items c.args.p 0 - 1) = c.lower_noting.ensures.sizes ∙ rw (c.deref_mut-2.ensures.value, c.from-2.ensures) refl in
    let singles : c.lower_noting.new.singles ≡ set f.singles.items c.args.p (get_or c.lower_noting.new.singles c.args.p 0) = c.lower_noting.ensures.others ∙ rw (c.deref_mut-3.ensures.value, c.from-2.ensures) refl in
    rw (
      rows_after c.args.p c.from.result f.words f.rows.len f.rows.items c.deref_mut.result.now c.take_value.new.domain c.from.ensures c.deref_mut.ensures.value (omega (arith, f.rows.ok))
          (row_starts f.vertices f.values f.words _ f.rows.items f.sizes.items _ c.args.p c.self.invariant.kept in-range) long,
      sizes_after f.sizes.len f.sizes.items c.lower_noting.new.sizes (omega (arith, f.sizes.ok)) (ap length sizes ∙ length-set f.sizes.items c.args.p _),
      sizes_after f.singles.len f.singles.items c.lower_noting.new.singles (omega (arith, f.singles.ok)) (ap length singles ∙ length-set f.singles.items c.args.p _),
      sizes,
    )
    (record {
      kept = (cut g (goal.at.invariant_of-self g c).After-from-2).kept;
      noted = noted_cut f.vertices f.values f.words _ _ f.rows.items f.sizes.items c.take_value.new.domain f.singles.items c.lower_noting.new.singles _ c.args.p 1 (λ u. not (u == c.args.t))
          c.self.invariant.noted in-range (cut g (goal.at.invariant_of-self g c).After-from-2) singles (rw (c.deref_mut-2.ensures.value, c.from-2.ensures) at c.lower_noting.ensures.single);
    })

pub returns-clause-keeps : goal.returns-clause-keeps
returns-clause-keeps g c = rw (← c.self.view_is) (cut g (goal.at.returns-clause-keeps g c).After-from-2).keeps-those

pub returns-clause-within : goal.returns-clause-within
returns-clause-within g c =
    let f = c.self.inside in
    let in-range : c.args.p < f.vertices = rw (← c.self.view_is) at c.requires.p_in in
    let present : in_domain c.args.self.now c.args.p c.args.t ≡ true = sym c.has.ensures ∙ c.if-not-has.false in
    let here = rw (← c.self.view_is) at present in
    rw (← c.self.view_is) (some_size f.vertices f.values f.words _ f.rows.items f.sizes.items _ c.args.p c.args.t c.self.invariant.kept in-range here).1

pub returns-clause-vertices : goal.returns-clause-vertices
returns-clause-vertices g c = (returns-clause-keeps g c).shrinks.vertices_same

pub returns-clause-values : goal.returns-clause-values
returns-clause-values g c = (returns-clause-keeps g c).shrinks.values_same
