use Rattle.std.proofs.Common.{◌≡◌, [], map, replicate}
use Rattle.pb_propagation.proofs.table.no_lists.Given as goal

abbrev pub invariant-loop : goal.invariant-loop
invariant-loop l = map (λ v. v.items) l.made.items ≡ replicate l.counter []
