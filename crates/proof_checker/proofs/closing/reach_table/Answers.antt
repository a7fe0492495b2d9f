use Rattle.std.proofs.Common.{arith}
use Rattle.proof_checker.proofs.Passing.{table_reach}
use Rattle.proof_checker.proofs.closing.reach_table.Goals as goal

pub returns-clause-reach : goal.returns-clause-reach
returns-clause-reach c =
    let m = c.max.ensures in
    let n = c.max-2.ensures in
    table_reach c.max-2.result c.reach_all.result c.reach_lists.result c.reach_slots.result c.args.model.now c.args.table.now _ _ c.lists.ensures c.shared.ensures (omega arith) (omega arith) (omega arith)
    c.reach_all.ensures.reach c.reach_lists.ensures.reach c.reach_slots.ensures.reach
