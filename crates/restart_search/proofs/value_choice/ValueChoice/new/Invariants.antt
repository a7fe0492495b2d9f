use Rattle.std.proofs.Common.{◌≡◌, length}
use Rattle.restart_search.proofs.value_choice.ValueChoice.new.Given as goal

abbrev pub invariant-loop-t : goal.invariant-loop-t
invariant-loop-t l = length l.degrees.items ≡ l.t
