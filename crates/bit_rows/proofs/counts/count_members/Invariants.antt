use Rattle.std.proofs.Common.{◌≡◌, ℕ, ◌+◌, get_or}
use Rattle.std.specs.Int.{from_bool}
use Rattle.bit_rows.proofs.Counting.{in_first}
use Rattle.bit_rows.proofs.counts.count_members.Given as goal

abbrev pub invariant-loop-place : goal.invariant-loop-place
invariant-loop-place l = (v : ℕ) → get_or l.counts v 0 ≡ get_or l.fn.counts v 0 + from_bool (in_first l.row l.place v)
