use Rattle.std.proofs.Common.{get_or}
use Rattle.small_search.proofs.Words.{in_first}
use Rattle.small_search.proofs.Tables.{table_of, not_looked_at}
use Rattle.small_search.proofs.placing.looked_at.Goals as goal

pub returns-then-table-clause-placed : goal.returns-then-table-clause-placed
returns-then-table-clause-placed c = λ r h. in_first c.args.placed (get_or c.table.inside.near.now c.from.result 0) r h

pub returns-then-table-clause-others : goal.returns-then-table-clause-others
returns-then-table-clause-others c = rw c.from.ensures (λ r on r_in off. not_looked_at c.args.table.now c.table.inside.values.now c.table.inside.near.now c.table.inside.all c.table.inside.injective c.table.inside.by_edges c.args.p c.args.placed r (table_of _ _ _ _ _ _ _ c.table.view_is c.table.invariant) c.requires c.if-table.true on r_in off)
