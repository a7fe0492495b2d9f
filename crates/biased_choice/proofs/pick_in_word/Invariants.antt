use Rattle.std.proofs.Common.{◌≡◌, ◌+◌, ◌*◌}
use Rattle.biased_choice.specs.Bias.{below}
use Rattle.biased_choice.proofs.Walk.{next, Walks}
use Rattle.biased_choice.proofs.pick_in_word.Given as goal

abbrev pub invariant-loop-left : goal.invariant-loop-left
invariant-loop-left l = record {
  rest : l.rest + below l.row l.degrees (next l.place l.left) ≡ l.fn.rest + below l.row l.degrees (64 * l.place);
  walks : Walks l.row l.place l.left;
}

abbrev pub decreases-loop-left : goal.decreases-loop-left
decreases-loop-left l = l.left
