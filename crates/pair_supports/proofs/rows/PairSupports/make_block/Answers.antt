use Rattle.std.proofs.Common.{◌≡◌, ◌<◌, ◌≤◌, ℕ, ◌*◌, List, arith, length, ◌∙◌, sym, subst, ap, set}
use Rattle.std.specs.Prelude.{slice_index}
use Rattle.graph_theory.specs.Graph.{size}
use Rattle.pair_supports.specs.Rows.{Rows}
use Rattle.pair_supports.specs.Held.{Held}
use Rattle.pair_supports.specs.Kinds.{ServeAll}
use Rattle.pair_supports.specs.declared.kinds.PairKind.{PairKind}
use Rattle.pair_supports.specs.Shape.{Shape}
use Rattle.pair_supports.proofs.Blocks.{whole_after, held_added, held_more, row_named, stay_named, made_taken, kinds_few, words_few, first_few, room_of}
use Rattle.pair_supports.proofs.rows.PairSupports.make_block.Goals as goal

pub invariant_of-self : goal.invariant_of-self
invariant_of-self c =
    let f = c.self.inside in
    let k = c.kinds.inside in
    let b = c.take_block-block in
    let held = subst (λ (x : Shape). Held x.problem x.vertices x.width x.kinds x.places f.most f.block_of.items f.owners.items f.counts.items f.in_counts.items f.pool.items x.both_ways) (sym c.kinds.view_is) c.self.invariant in
    let long : c.len.result ≡ length k.kinds.items = omega (arith, c.len.ensures, k.kinds.ok) in
    let added = held_added k.problem.now k.vertices k.width k.kinds.items k.places.items f.most f.block_of.items f.owners.items f.counts.items f.in_counts.items f.pool.items k.both_ways held
    b.new.owners.items b.new.pool.items b.ensures.more (b.ensures.few held.owners_few) (c.len.result * k.width) (ap (λ n. n * k.width) long) b.ensures.room in
    let t_at : c.args.t < size f.kinds.now.problem.target = subst (λ (x : Rows). c.args.t < size x.problem.target) (sym c.self.view_is) c.requires.t_in in
    let t_in : c.args.t < size k.problem.now.target = subst (λ (x : Shape). c.args.t < size x.problem.target) (sym c.kinds.view_is) t_at in
    let counts_long : length c.count_shared.new.counts ≡ length f.counts.items = c.count_shared.auto.counts ∙ ap length c.deref_mut.ensures.value in
    let in_counts_long : length c.count_shared.new.in_counts ≡ length f.in_counts.items = c.count_shared.auto.in_counts ∙ ap length c.deref_mut-2.ensures.value in
    let pool_long : length c.fill_block.new.pool ≡ length b.new.pool.items = c.fill_block.auto.pool ∙ ap length c.deref_mut-3.ensures.value in
    let len_is : c.len-2.result ≡ length k.kinds.items = omega (arith, c.len-2.ensures, k.kinds.ok) in
    rw (
      c.from.ensures,
      whole_after f.counts.len f.counts.items c.count_shared.new.counts (omega (arith, f.counts.ok)) counts_long,
      whole_after f.in_counts.len f.in_counts.items c.count_shared.new.in_counts (omega (arith, f.in_counts.ok)) in_counts_long,
      whole_after b.new.pool.len b.new.pool.items c.fill_block.new.pool (omega (arith, b.new.pool.ok)) pool_long,
    )
    (subst (λ (x : Shape). Held x.problem x.vertices x.width x.kinds x.places f.most (set f.block_of.items c.args.t b.result) (set b.new.owners.items b.result c.args.t)
    c.count_shared.new.counts c.count_shared.new.in_counts c.fill_block.new.pool x.both_ways) c.kinds.view_is
    (held_more k.problem.now k.vertices k.width k.kinds.items k.places.items f.most f.block_of.items b.new.owners.items f.counts.items f.in_counts.items b.new.pool.items k.both_ways added c.args.t
    b.result c.count_shared.new.counts c.count_shared.new.in_counts c.fill_block.new.pool t_in b.ensures.within counts_long in_counts_long pool_long
    (λ i. row_named k.problem.now k.width c.args.t i b.result c.len-2.result c.deref-3.result.now k.kinds.items c.fill_block.new.pool c.deref-3.ensures.value len_is
    (c.fill_block.ensures.rows i))
    (stay_named k.width b.result c.len-2.result c.deref-3.result.now k.kinds.items c.deref_mut-3.result.now b.new.pool.items c.fill_block.new.pool c.deref-3.ensures.value len_is
    c.deref_mut-3.ensures.value c.fill_block.ensures.others)))

pub returns-clause-made : goal.returns-clause-made
returns-clause-made c =
    let f = c.self.inside in
    let b = c.take_block-block in
    let t_in : c.args.t < size f.kinds.now.problem.target = subst (λ (x : Rows). c.args.t < size x.problem.target) (sym c.self.view_is) c.requires.t_in in
    made_taken f.block_of.items b.new.owners.items c.from.result c.args.t b.result c.from.ensures (omega (arith, t_in, c.self.invariant.block_of_are)) b.ensures.within

pub overflow_mul-len : goal.overflow_mul-len
overflow_mul-len c =
    let f = c.self.inside in
    let k = c.kinds.inside in
    let held = subst (λ (x : Shape). Held x.problem x.vertices x.width x.kinds x.places f.most f.block_of.items f.owners.items f.counts.items f.in_counts.items f.pool.items x.both_ways) (sym c.kinds.view_is) c.self.invariant in
    let long : c.len.result ≡ length k.kinds.items = omega (arith, c.len.ensures, k.kinds.ok) in
    omega (
      arith,
      words_few k.problem.now k.vertices k.width k.kinds.items k.places.items f.most f.block_of.items f.owners.items f.counts.items f.in_counts.items f.pool.items k.both_ways held
          (c.len.result * k.width) (ap (λ n. n * k.width) long),
    )

pub take_block-block-requires-clause-room : goal.take_block-block-requires-clause-room
take_block-block-requires-clause-room c =
    let f = c.self.inside in
    let k = c.kinds.inside in
    let held = subst (λ (x : Shape). Held x.problem x.vertices x.width x.kinds x.places f.most f.block_of.items f.owners.items f.counts.items f.in_counts.items f.pool.items x.both_ways) (sym c.kinds.view_is) c.self.invariant in
    let long : c.len.result ≡ length k.kinds.items = omega (arith, c.len.ensures, k.kinds.ok) in
    subst (λ (n : ℕ). length f.owners.items * (n * k.width) ≤ length f.pool.items) (sym long) held.pool_is

pub fill_block-requires-clause-room : goal.fill_block-requires-clause-room
fill_block-requires-clause-room c =
    let k = c.kinds.inside in
    let b = c.take_block-block in
    let lent : length c.deref-3.result.now ≡ length k.kinds.items = ap length c.deref-3.ensures.value in
    let long : c.len.result ≡ length k.kinds.items = omega (arith, c.len.ensures, k.kinds.ok) in
    let len_is : c.len-2.result ≡ length k.kinds.items = omega (arith, c.len-2.ensures, k.kinds.ok) in
    room_of b.result (length b.new.owners.items) c.len-2.result (length c.deref-3.result.now) k.width (c.len.result * k.width) (length c.deref_mut-3.result.now) b.ensures.within (len_is ∙ sym lent)
    (ap (λ n. n * k.width) (long ∙ sym lent)) (subst (λ (xs : List ℕ). length b.new.owners.items * (c.len.result * k.width) ≤ length xs) (sym c.deref_mut-3.ensures.value) b.ensures.room)

pub overflow_mul-block : goal.overflow_mul-block
overflow_mul-block c =
    let f = c.self.inside in
    let k = c.kinds.inside in
    let held = subst (λ (x : Shape). Held x.problem x.vertices x.width x.kinds x.places f.most f.block_of.items f.owners.items f.counts.items f.in_counts.items f.pool.items x.both_ways) (sym c.kinds.view_is) c.self.invariant in
    let b = c.take_block-block in
    let few : length b.new.owners.items ≤ 8192 = omega (arith, b.ensures.few held.owners_few, held.most_few, held.few_target) in
    let len_is : c.len-2.result ≡ length k.kinds.items = omega (arith, c.len-2.ensures, k.kinds.ok) in
    let kinds : c.len-2.result ≤ 1048576 = subst (λ (n : ℕ). n ≤ 1048576) (sym len_is) (kinds_few k.problem.now k.kinds.items k.places.items held.few_pattern held.classed) in
    omega (arith, first_few b.result (length b.new.owners.items) c.len-2.result b.ensures.within few kinds)

pub overflow_cast-block : goal.overflow_cast-block
overflow_cast-block c =
    let f = c.self.inside in
    let k = c.kinds.inside in
    let held = subst (λ (x : Shape). Held x.problem x.vertices x.width x.kinds x.places f.most f.block_of.items f.owners.items f.counts.items f.in_counts.items f.pool.items x.both_ways) (sym c.kinds.view_is) c.self.invariant in
    let b = c.take_block-block in
    let few : length b.new.owners.items ≤ 8192 = omega (arith, b.ensures.few held.owners_few, held.most_few, held.few_target) in
    omega (arith, b.ensures.within, few)

pub overflow_add-self : goal.overflow_add-self
overflow_add-self c =
    let f = c.self.inside in
    let k = c.kinds.inside in
    let held = subst (λ (x : Shape). Held x.problem x.vertices x.width x.kinds x.places f.most f.block_of.items f.owners.items f.counts.items f.in_counts.items f.pool.items x.both_ways) (sym c.kinds.view_is) c.self.invariant in
    let b = c.take_block-block in
    let few : length b.new.owners.items ≤ 8192 = omega (arith, b.ensures.few held.owners_few, held.most_few, held.few_target) in
    omega (arith, b.ensures.within, few)

pub fill_block-requires-clause-width_is : goal.fill_block-requires-clause-width_is
fill_block-requires-clause-width_is c =
    let f = c.self.inside in
    let k = c.kinds.inside in
    let held = subst (λ (x : Shape). Held x.problem x.vertices x.width x.kinds x.places f.most f.block_of.items f.owners.items f.counts.items f.in_counts.items f.pool.items x.both_ways) (sym c.kinds.view_is) c.self.invariant in
    held.width_is

pub fill_block-requires-clause-few : goal.fill_block-requires-clause-few
fill_block-requires-clause-few c =
    let f = c.self.inside in
    let k = c.kinds.inside in
    let held = subst (λ (x : Shape). Held x.problem x.vertices x.width x.kinds x.places f.most f.block_of.items f.owners.items f.counts.items f.in_counts.items f.pool.items x.both_ways) (sym c.kinds.view_is) c.self.invariant in
    held.few_target

pub take_block-block-requires-clause-some : goal.take_block-block-requires-clause-some
take_block-block-requires-clause-some c =
    let f = c.self.inside in
    let k = c.kinds.inside in
    let held = subst (λ (x : Shape). Held x.problem x.vertices x.width x.kinds x.places f.most f.block_of.items f.owners.items f.counts.items f.in_counts.items f.pool.items x.both_ways) (sym c.kinds.view_is) c.self.invariant in
    let t_at : c.args.t < size f.kinds.now.problem.target = subst (λ (x : Rows). c.args.t < size x.problem.target) (sym c.self.view_is) c.requires.t_in in
    let t_in : c.args.t < size k.problem.now.target = subst (λ (x : Shape). c.args.t < size x.problem.target) (sym c.kinds.view_is) t_at in
    held.owners_some (omega (arith, t_in))

pub count_shared-requires-clause-t_in : goal.count_shared-requires-clause-t_in
count_shared-requires-clause-t_in c =
    let f = c.self.inside in
    subst (λ (x : Rows). c.args.t < size x.problem.target) (sym c.self.view_is) c.requires.t_in

pub count_shared-requires-clause-long : goal.count_shared-requires-clause-long
count_shared-requires-clause-long c =
    ap length c.deref_mut.ensures.value ∙ c.self.invariant.counts_are

pub count_shared-requires-clause-in_long : goal.count_shared-requires-clause-in_long
count_shared-requires-clause-in_long c =
    λ told. ap length c.deref_mut-2.ensures.value ∙ c.self.invariant.in_counts_are told

pub shared_counts-counts-requires-clause-t_in : goal.shared_counts-counts-requires-clause-t_in
shared_counts-counts-requires-clause-t_in c =
    let f = c.self.inside in
    subst (λ (x : Rows). c.args.t < size x.problem.target) (sym c.self.view_is) c.requires.t_in

pub shared_counts-counts-requires-clause-long : goal.shared_counts-counts-requires-clause-long
shared_counts-counts-requires-clause-long c =
    let f = c.self.inside in
    let are : c.deref.result.now ≡ c.count_shared.new.counts =
    c.deref.ensures.value ∙ whole_after f.counts.len f.counts.items c.count_shared.new.counts (omega (arith, f.counts.ok)) (c.count_shared.auto.counts ∙ ap length c.deref_mut.ensures.value) in
    ap length are ∙ c.count_shared.auto.counts ∙ ap length c.deref_mut.ensures.value ∙ c.self.invariant.counts_are

pub shared_counts-counts-requires-clause-in_long : goal.shared_counts-counts-requires-clause-in_long
shared_counts-counts-requires-clause-in_long c =
    let f = c.self.inside in
    let are : c.deref-2.result.now ≡ c.count_shared.new.in_counts =
    c.deref-2.ensures.value ∙ whole_after f.in_counts.len f.in_counts.items c.count_shared.new.in_counts (omega (arith, f.in_counts.ok)) (c.count_shared.auto.in_counts ∙ ap length c.deref_mut-2.ensures.value) in
    λ told. ap length are ∙ c.count_shared.auto.in_counts ∙ ap length c.deref_mut-2.ensures.value ∙ c.self.invariant.in_counts_are told

pub shared_counts-counts-requires-clause-counted : goal.shared_counts-counts-requires-clause-counted
shared_counts-counts-requires-clause-counted c =
    let f = c.self.inside in
    let are : c.deref.result.now ≡ c.count_shared.new.counts =
    c.deref.ensures.value ∙ whole_after f.counts.len f.counts.items c.count_shared.new.counts (omega (arith, f.counts.ok)) (c.count_shared.auto.counts ∙ ap length c.deref_mut.ensures.value) in
    λ asked u u_in apart. ap (λ (xs : List ℕ). slice_index xs u) are ∙ c.count_shared.ensures.counted asked u u_in apart

pub shared_counts-counts-requires-clause-in_counted : goal.shared_counts-counts-requires-clause-in_counted
shared_counts-counts-requires-clause-in_counted c =
    let f = c.self.inside in
    let are : c.deref-2.result.now ≡ c.count_shared.new.in_counts =
    c.deref-2.ensures.value ∙ whole_after f.in_counts.len f.in_counts.items c.count_shared.new.in_counts (omega (arith, f.in_counts.ok)) (c.count_shared.auto.in_counts ∙ ap length c.deref_mut-2.ensures.value) in
    λ told asked u u_in apart. ap (λ (xs : List ℕ). slice_index xs u) are ∙ c.count_shared.ensures.in_counted told asked u u_in apart

pub fill_block-requires-clause-t_in : goal.fill_block-requires-clause-t_in
fill_block-requires-clause-t_in c =
    let f = c.self.inside in
    let k = c.kinds.inside in
    let t_at : c.args.t < size f.kinds.now.problem.target = subst (λ (x : Rows). c.args.t < size x.problem.target) (sym c.self.view_is) c.requires.t_in in
    subst (λ (x : Shape). c.args.t < size x.problem.target) (sym c.kinds.view_is) t_at

pub fill_block-requires-clause-counted : goal.fill_block-requires-clause-counted
fill_block-requires-clause-counted c =
    let k = c.kinds.inside in
    let counts = c.shared_counts-counts in
    subst (λ (ks : List PairKind). ServeAll k.problem.now ks c.args.t counts.result.out.now counts.result.back.now counts.result.both_ways) (sym c.deref-3.ensures.value)
    (subst (λ (x : Shape). ServeAll x.problem x.kinds c.args.t counts.result.out.now counts.result.back.now counts.result.both_ways) (sym c.kinds.view_is) counts.ensures)

pub index_mut-requires : goal.index_mut-requires
index_mut-requires c =
    let b = c.take_block-block in
    subst (λ (n : ℕ). b.result < n) (sym b.new.owners.ok.0) b.ensures.within
