use Rattle.std.proofs.Common.{◌*◌, subst, rules}
use Rattle.pair_supports.specs.Shape.{Shape}
use Rattle.pair_supports.specs.Held.{Held}
use Rattle.pair_supports.proofs.Blocks.{held_none}
use Rattle.pair_supports.proofs.rows.PairSupports.new.Goals as goal

pub invariant_of-result : goal.invariant_of-result
invariant_of-result c =
    let k = c.kinds.inside in
    let held = held_none k.problem.now k.vertices k.width k.kinds.items k.places.items k.sharing k.in_sharing k.both_ways c.kinds.invariant.0 c.from-size.result c.blocks_for-most.result
    (c.len.result * k.width) c.in_ok-block_of.block_of.items c.in_ok-owners.owners.items c.in_ok-counts.counts.items c.in_ok-in_counts.in_counts.items c.in_ok-owners.pool.items
    (search rules) (search rules) (search rules) (search rules) (search rules) (search rules) (search rules) (search rules) (search rules) (search rules) (search rules) in
    subst (λ (x : Shape). Held x.problem x.vertices x.width x.kinds x.places c.blocks_for-most.result c.in_ok-block_of.block_of.items c.in_ok-owners.owners.items c.in_ok-counts.counts.items c.in_ok-in_counts.in_counts.items c.in_ok-owners.pool.items x.both_ways) c.kinds.view_is held
