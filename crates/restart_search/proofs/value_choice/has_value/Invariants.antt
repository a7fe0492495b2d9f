use Rattle.std.proofs.Common.{◌≡◌, ℕ, ◌*◌, ◌<◌, false}
use Rattle.bit_rows.specs.BitRows.{has}
use Rattle.restart_search.proofs.value_choice.has_value.Given as goal

abbrev pub invariant-loop-place : goal.invariant-loop-place
invariant-loop-place l = (t : ℕ) → t < 64 * l.place → has l.row t ≡ false
