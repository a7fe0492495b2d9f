use Rattle.std.proofs.Common.{set, None}
use Rattle.pb_propagation.proofs.SharedRows.{changed}
use Rattle.pb_propagation.proofs.table.clear_at.Goals as goal

pub returns : goal.returns
returns c =
    changed (λ v. v.items) (λ fs. set fs c.args.index None) c.args.lists.now.items c.args.owner c.index_mut.result.now c.clear_slot.new.slots c.requires.owner c.index_mut.ensures.value c.clear_slot.ensures
