use Rattle.std.proofs.Common.{◌≡◌, ◌≤◌, ◌-◌, ◌+◌, List, length, map}
use Rattle.log_theory.specs.declared.step.Step.{Step}
use Rattle.proof_trim.specs.Lined.{AreAt}
use Rattle.proof_trim.specs.Ranks.{renamed, AreListed}
use Rattle.proof_trim.proofs.Advancing.{IsWrittenTo}
use Rattle.proof_trim.proofs.forward.put_kept.Given as goal

abbrev pub invariant-loop-place : goal.invariant-loop-place
invariant-loop-place l = record {
  put : (made : List Step) → AreAt l.lines.text.now l.lines.places.items made → IsWrittenTo (renamed l.renaming.index.now l.renaming.marks.now) l.renaming.marks.now made l.place l.initial.text.bytes l.text.bytes;
  listed : AreListed l.renaming.marks.now l.place (map (λ v. v.items) l.lists.items);
  long : length l.lists.items ≡ length l.lines.places.items + 2;
  within : l.place ≤ length l.lines.places.items;
}

abbrev pub decreases-loop-place : goal.decreases-loop-place
decreases-loop-place l = length l.lines.places.items - l.place
