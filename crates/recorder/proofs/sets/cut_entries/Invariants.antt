use Rattle.std.proofs.Common.{◌≡◌, length}
use Rattle.recorder.specs.Recording.{AreLaid, changes_of, cut}
use Rattle.recorder.proofs.sets.cut_entries.Given as goal

abbrev pub invariant-loop-entry : goal.invariant-loop-entry
invariant-loop-entry l = record {
  laid : AreLaid l.entries.items l.numbers.items;
  cut_is : cut l.mark (changes_of l.numbers.items l.entries.items) ≡ cut l.mark (changes_of l.fn.numbers.items l.fn.entries.items);
}

abbrev pub decreases-loop-entry : goal.decreases-loop-entry
decreases-loop-entry l = length l.entries.items
