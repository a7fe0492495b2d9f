use Rattle.std.proofs.Common.{refl, sym}
use Rattle.propagation.proofs.Pruning.{decided_apart}
use Rattle.propagation.proofs.BlockCounts.{balanced_any}
use Rattle.propagation.proofs.blocks.count_domains.Goals as goal

pub prune-requires-clause-injective : goal.prune-requires-clause-injective
prune-requires-clause-injective g c = sym c.in-Injective.ensures.maps

pub prune-requires-clause-apart : goal.prune-requires-clause-apart
prune-requires-clause-apart g c = decided_apart _ _ c.requires.is_of (sym c.in-Injective.ensures.maps) c.requires.quiet

pub prune_blocks-requires-clause-local : goal.prune_blocks-requires-clause-local
prune_blocks-requires-clause-local g c = sym c.in-Local.ensures.maps

pub returns-in-Any-clause-counts : goal.returns-in-Any-clause-counts
returns-in-Any-clause-counts g c = (refl, balanced_any c.args.q.now c.args.d.now (sym c.in-Any.ensures.maps))
