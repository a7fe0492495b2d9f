use Rattle.std.proofs.Common.{◌≡◌, ◌<◌, ◌+◌, ◌-◌, ◌*◌, arith, length, take, drop, ap, subst, sym, true, false}
use Rattle.std.specs.Prelude.{slice_index_or}
use Rattle.graph_theory.specs.Graph.{size}
use Rattle.pair_supports.specs.Rows.{Rows}
use Rattle.pair_supports.specs.Shape.{Shape}
use Rattle.pair_supports.specs.Held.{made_in, Held, HeldAt}
use Rattle.pair_supports.proofs.Blocks.{block_ends, at_read, words_few, own_ends, own_few_seen, block_few_seen, start_before}
use Rattle.pair_supports.proofs.rows.PairSupports.at.Goals as goal

pub slice_bounds-result-end-2 : goal.slice_bounds-result-end-2
slice_bounds-result-end-2 c =
    let f = c.self.inside in
    let k = c.kinds.inside in
    let held = subst (λ (x : Shape). Held x.problem x.vertices x.width x.kinds x.places f.most f.block_of.items f.owners.items f.counts.items f.in_counts.items f.pool.items x.both_ways) (sym c.kinds.view_is) c.self.invariant in
    let t_at : c.args.t < size f.kinds.now.problem.target = subst (λ (x : Rows). c.args.t < size x.problem.target) (sym c.self.view_is) c.requires.t_in in
    let t_in : c.args.t < size k.problem.now.target = subst (λ (x : Shape). c.args.t < size x.problem.target) (sym c.kinds.view_is) t_at in
    let long : c.len.result ≡ length k.kinds.items = omega (arith, c.len.ensures, k.kinds.ok) in
    block_ends k.problem.now k.vertices k.width k.kinds.items k.places.items f.most f.block_of.items f.owners.items f.counts.items f.in_counts.items f.pool.items k.both_ways held
    c.args.t c.from-2.result c.index.result.now (c.len.result * k.width) c.deref-2.result.now t_in c.from-2.ensures c.index.ensures (ap (λ n. n * k.width) long) c.deref-2.ensures.value

pub slice_bounds-result-start : goal.slice_bounds-result-start
slice_bounds-result-start c = start_before _ _

pub overflow_mul-from : goal.overflow_mul-from
overflow_mul-from c =
    let p_in : c.args.p < size c.self.inside.kinds.now.problem.pattern = subst (λ (x : Rows). c.args.p < size x.problem.pattern) (sym c.self.view_is) c.requires.p_in in
    let few = own_few_seen _ _ _ _ _ _ _ _ c.kinds.view_is c.self.invariant c.args.p c.from.result p_in c.from.ensures in
    omega (arith, few)

pub overflow_mul-words : goal.overflow_mul-words
overflow_mul-words c =
    let f = c.self.inside in
    let k = c.kinds.inside in
    let held = subst (λ (x : Shape). Held x.problem x.vertices x.width x.kinds x.places f.most f.block_of.items f.owners.items f.counts.items f.in_counts.items f.pool.items x.both_ways) (sym c.kinds.view_is) c.self.invariant in
    let long : c.len.result ≡ length k.kinds.items = omega (arith, c.len.ensures, k.kinds.ok) in
    let few = words_few k.problem.now k.vertices k.width k.kinds.items k.places.items f.most f.block_of.items f.owners.items f.counts.items f.in_counts.items f.pool.items k.both_ways held (c.len.result * k.width) (ap (λ n. n * k.width) long) in
    omega (arith, few)

pub overflow_add-result : goal.overflow_add-result
overflow_add-result c =
    let p_in : c.args.p < size c.self.inside.kinds.now.problem.pattern = subst (λ (x : Rows). c.args.p < size x.problem.pattern) (sym c.self.view_is) c.requires.p_in in
    let few = own_few_seen _ _ _ _ _ _ _ _ c.kinds.view_is c.self.invariant c.args.p c.from.result p_in c.from.ensures in
    omega (arith, few)

pub overflow_mul-block : goal.overflow_mul-block
overflow_mul-block c =
    let t_in : c.args.t < size c.self.inside.kinds.now.problem.target = subst (λ (x : Rows). c.args.t < size x.problem.target) (sym c.self.view_is) c.requires.t_in in
    let long : c.len.result ≡ length c.kinds.inside.kinds.items = omega (arith, c.len.ensures, c.kinds.inside.kinds.ok) in
    let few = block_few_seen _ _ _ _ _ _ _ _ c.kinds.view_is c.self.invariant c.args.t c.from-2.result c.index.result.now (c.len.result * c.kinds.inside.width) t_in c.from-2.ensures c.index.ensures (ap (λ n. n * c.kinds.inside.width) long) in
    omega (arith, few)

pub slice_bounds-result-end : goal.slice_bounds-result-end
slice_bounds-result-end c =
    let f = c.self.inside in
    let k = c.kinds.inside in
    let held = subst (λ (x : Shape). Held x.problem x.vertices x.width x.kinds x.places f.most f.block_of.items f.owners.items f.counts.items f.in_counts.items f.pool.items x.both_ways) (sym c.kinds.view_is) c.self.invariant in
    let p_at : c.args.p < size f.kinds.now.problem.pattern = subst (λ (x : Rows). c.args.p < size x.problem.pattern) (sym c.self.view_is) c.requires.p_in in
    let p_in : c.args.p < size k.problem.now.pattern = subst (λ (x : Shape). c.args.p < size x.problem.pattern) (sym c.kinds.view_is) p_at in
    own_ends k.problem.now k.vertices k.width k.kinds.items k.places.items f.most f.block_of.items f.owners.items f.counts.items f.in_counts.items f.pool.items k.both_ways held
    c.args.p c.from.result c.deref.result.now p_in c.from.ensures c.deref.ensures.value

pub overflow_add-result-2 : goal.overflow_add-result-2
overflow_add-result-2 c =
    let t_in : c.args.t < size c.self.inside.kinds.now.problem.target = subst (λ (x : Rows). c.args.t < size x.problem.target) (sym c.self.view_is) c.requires.t_in in
    let long : c.len.result ≡ length c.kinds.inside.kinds.items = omega (arith, c.len.ensures, c.kinds.inside.kinds.ok) in
    let few = block_few_seen _ _ _ _ _ _ _ _ c.kinds.view_is c.self.invariant c.args.t c.from-2.result c.index.result.now (c.len.result * c.kinds.inside.width) t_in c.from-2.ensures c.index.ensures (ap (λ n. n * c.kinds.inside.width) long) in
    omega (arith, few)

pub slice_bounds-result-start-2 : goal.slice_bounds-result-start-2
slice_bounds-result-start-2 c = start_before _ _

pub offset_bounds-deref-from : goal.offset_bounds-deref-from
offset_bounds-deref-from c =
    let p_in : c.args.p < size c.self.inside.kinds.now.problem.pattern = subst (λ (x : Rows). c.args.p < size x.problem.pattern) (sym c.self.view_is) c.requires.p_in in
    let few = own_few_seen _ _ _ _ _ _ _ _ c.kinds.view_is c.self.invariant c.args.p c.from.result p_in c.from.ensures in
    omega (arith, few)

pub invariant_of-result : goal.invariant_of-result
invariant_of-result c =
    let f = c.self.inside in
    let k = c.kinds.inside in
    let held = subst (λ (x : Shape). Held x.problem x.vertices x.width x.kinds x.places f.most f.block_of.items f.owners.items f.counts.items f.in_counts.items f.pool.items x.both_ways) (sym c.kinds.view_is) c.self.invariant in
    let p_at : c.args.p < size f.kinds.now.problem.pattern = subst (λ (x : Rows). c.args.p < size x.problem.pattern) (sym c.self.view_is) c.requires.p_in in
    let p_in : c.args.p < size k.problem.now.pattern = subst (λ (x : Shape). c.args.p < size x.problem.pattern) (sym c.kinds.view_is) p_at in
    let t_at : c.args.t < size f.kinds.now.problem.target = subst (λ (x : Rows). c.args.t < size x.problem.target) (sym c.self.view_is) c.requires.t_in in
    let t_in : c.args.t < size k.problem.now.target = subst (λ (x : Shape). c.args.t < size x.problem.target) (sym c.kinds.view_is) t_at in
    let made : slice_index_or (made_in f.block_of.items f.owners.items) c.args.t false ≡ true = subst (λ (x : Rows). slice_index_or x.made c.args.t false ≡ true) (sym c.self.view_is) c.requires.made in
    let long : c.len.result ≡ length k.kinds.items = omega (arith, c.len.ensures, k.kinds.ok) in
    subst (λ (x : Shape). HeldAt x.problem x.width x.kinds c.args.p c.args.t
    (take (c.from.result * k.vertices + k.vertices - c.from.result * k.vertices) (drop (c.from.result * k.vertices) c.deref.result.now))
    (take (c.index.result.now * (c.len.result * k.width) + c.len.result * k.width - c.index.result.now * (c.len.result * k.width)) (drop (c.index.result.now * (c.len.result * k.width)) c.deref-2.result.now))) c.kinds.view_is
    (at_read k.problem.now k.vertices k.width k.kinds.items k.places.items f.most f.block_of.items f.owners.items f.counts.items f.in_counts.items f.pool.items k.both_ways held
    c.args.p c.args.t p_in t_in made c.from.result c.from-2.result c.index.result.now (c.len.result * k.width) c.deref.result.now c.deref-2.result.now
    c.from.ensures c.from-2.ensures c.index.ensures (ap (λ n. n * k.width) long) c.deref.ensures.value c.deref-2.ensures.value)

pub offset_bounds-deref-block : goal.offset_bounds-deref-block
offset_bounds-deref-block c =
    let t_in : c.args.t < size c.self.inside.kinds.now.problem.target = subst (λ (x : Rows). c.args.t < size x.problem.target) (sym c.self.view_is) c.requires.t_in in
    let long : c.len.result ≡ length c.kinds.inside.kinds.items = omega (arith, c.len.ensures, c.kinds.inside.kinds.ok) in
    let few = block_few_seen _ _ _ _ _ _ _ _ c.kinds.view_is c.self.invariant c.args.t c.from-2.result c.index.result.now (c.len.result * c.kinds.inside.width) t_in c.from-2.ensures c.index.ensures (ap (λ n. n * c.kinds.inside.width) long) in
    omega (arith, few)
