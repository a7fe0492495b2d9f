use Rattle.std.proofs.Common.{refl, arith}
use Rattle.propagation.proofs.BlockCounts.{near_block, near_no_block, counts_as}
use Rattle.propagation.proofs.blocks.prune_near.Goals as goal

pub prune_block-requires-clause-block : goal.prune_block-requires-clause-block
prune_block-requires-clause-block g c = near_block c.args.q.now c.args.c c.args.members.now c.requires.local c.requires.c_in c.requires.members (omega (arith, c.if-members-lt2.false))

pub returns-clause-counts : goal.returns-clause-counts
returns-clause-counts g c = counts_as _ _ (λ d has there. has) c.prune_block.result c.args.q.now c.args.d.now c.prune_block.new.d c.prune_block.ensures.counts

pub returns-then-members-lt2-clause-counts : goal.returns-then-members-lt2-clause-counts
returns-then-members-lt2-clause-counts g c =
    (refl, λ there. absurd (near_no_block c.args.q.now c.args.c c.args.members.now c.requires.local c.requires.members (omega (arith, c.if-members-lt2.true)) there))
