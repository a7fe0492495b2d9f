use Rattle.std.proofs.Math.Facts.{Fits-lt-pow}
use Rattle.std.proofs.Common.{bit_and, w64}
use Rattle.std.specs.Int.{bit_not}
use Rattle.small_search.proofs.Words.{in_first}
use Rattle.small_search.proofs.Tables.{table_of, open_vertex, all_placed}
use Rattle.small_search.proofs.placing.next_vertex.Goals as goal

pub returns-then-left-eq0-clause-none : goal.returns-then-left-eq0-clause-none
returns-then-left-eq0-clause-none c = λ p p_in. all_placed c.args.table.now c.table.inside.values.now c.table.inside.near.now c.table.inside.all c.table.inside.injective c.table.inside.by_edges c.args.placed p (table_of _ _ _ _ _ _ _ c.table.view_is c.table.invariant) (Fits-lt-pow c.ranges.placed) c.if-left-eq0.true p_in

pub returns-then-close-eq0-clause-vertex : goal.returns-then-close-eq0-clause-vertex
returns-then-close-eq0-clause-vertex c = (open_vertex c.args.table.now c.table.inside.values.now c.table.inside.near.now c.table.inside.all c.table.inside.injective c.table.inside.by_edges c.args.placed c.best_of.result (table_of _ _ _ _ _ _ _ c.table.view_is c.table.invariant) (Fits-lt-pow c.ranges.placed) c.best_of.ensures).0

pub returns-then-close-eq0-clause-open : goal.returns-then-close-eq0-clause-open
returns-then-close-eq0-clause-open c = (open_vertex c.args.table.now c.table.inside.values.now c.table.inside.near.now c.table.inside.all c.table.inside.injective c.table.inside.by_edges c.args.placed c.best_of.result (table_of _ _ _ _ _ _ _ c.table.view_is c.table.invariant) (Fits-lt-pow c.ranges.placed) c.best_of.ensures).1

pub returns-else-close-eq0-clause-vertex : goal.returns-else-close-eq0-clause-vertex
returns-else-close-eq0-clause-vertex c = (open_vertex c.args.table.now c.table.inside.values.now c.table.inside.near.now c.table.inside.all c.table.inside.injective c.table.inside.by_edges c.args.placed c.best_of-else-close-eq0.result (table_of _ _ _ _ _ _ _ c.table.view_is c.table.invariant) (Fits-lt-pow c.ranges.placed) (in_first (bit_and c.table.inside.all (bit_not w64 c.args.placed)) c.args.beside c.best_of-else-close-eq0.result c.best_of-else-close-eq0.ensures)).0

pub returns-else-close-eq0-clause-open : goal.returns-else-close-eq0-clause-open
returns-else-close-eq0-clause-open c = (open_vertex c.args.table.now c.table.inside.values.now c.table.inside.near.now c.table.inside.all c.table.inside.injective c.table.inside.by_edges c.args.placed c.best_of-else-close-eq0.result (table_of _ _ _ _ _ _ _ c.table.view_is c.table.invariant) (Fits-lt-pow c.ranges.placed) (in_first (bit_and c.table.inside.all (bit_not w64 c.args.placed)) c.args.beside c.best_of-else-close-eq0.result c.best_of-else-close-eq0.ensures)).1
