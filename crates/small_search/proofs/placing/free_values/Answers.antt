use Rattle.std.proofs.Math.Facts.{Fits-lt-pow}
use Rattle.small_search.proofs.Tables.{table_of, free_right, free_complete}
use Rattle.small_search.proofs.placing.free_values.Goals as goal

pub returns-then-table-clause-right : goal.returns-then-table-clause-right
returns-then-table-clause-right c = rw c.from.ensures (λ t h. free_right c.args.table.now c.table.inside.values.now c.table.inside.near.now c.table.inside.all c.table.inside.injective c.table.inside.by_edges c.args.p c.args.used t (table_of _ _ _ _ _ _ _ c.table.view_is c.table.invariant) c.requires (Fits-lt-pow c.ranges.used) h)

pub returns-then-table-clause-complete : goal.returns-then-table-clause-complete
returns-then-table-clause-complete c = rw c.from.ensures (λ m e free. free_complete c.args.table.now c.table.inside.values.now c.table.inside.near.now c.table.inside.all c.table.inside.injective c.table.inside.by_edges c.args.p c.args.used m (table_of _ _ _ _ _ _ _ c.table.view_is c.table.invariant) c.requires (Fits-lt-pow c.ranges.used) c.if-table.true e free)
