use Rattle.std.proofs.Common.{◌≡◌, ℕ, ◌<◌}
use Rattle.std.specs.Prelude.{slice_get, Some}
use Rattle.pair_supports.specs.declared.kinds.PairKind.{PairKind}
use Rattle.pair_supports.proofs.pair_kinds.ask_for_shared.Given as goal

abbrev pub invariant-loop-i : goal.invariant-loop-i
invariant-loop-i l = (i : ℕ) (k : PairKind) → i < l.i → slice_get l.kinds i ≡ Some k → k.shared ≡ 0
