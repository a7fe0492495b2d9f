use Rattle.std.proofs.Common.{◌≡◌, get_or}
use Rattle.bit_rows.specs.BitRows.{has}
use Rattle.biased_choice.specs.Bias.{greatest}
use Rattle.biased_choice.proofs.Walk.{next, Walks}
use Rattle.biased_choice.proofs.greatest_in_word.Given as goal

abbrev pub invariant-loop-left : goal.invariant-loop-left
invariant-loop-left l = record {
  top : l.top ≡ greatest (has l.row) (λ v. get_or l.degrees v 0) (next l.place l.left);
  walks : Walks l.row l.place l.left;
}

abbrev pub decreases-loop-left : goal.decreases-loop-left
decreases-loop-left l = l.left
