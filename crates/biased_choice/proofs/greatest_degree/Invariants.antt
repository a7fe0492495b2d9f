use Rattle.std.proofs.Common.{◌≡◌, ◌*◌, get_or}
use Rattle.bit_rows.specs.BitRows.{has}
use Rattle.biased_choice.specs.Bias.{greatest}
use Rattle.biased_choice.proofs.greatest_degree.Given as goal

abbrev pub invariant-loop-place : goal.invariant-loop-place
invariant-loop-place l = l.top ≡ greatest (has l.row) (λ v. get_or l.degrees v 0) (64 * l.place)
