use Rattle.std.proofs.Common.{◌≡◌, ◌+◌, ◌≤◌, length}
use Rattle.log_theory.specs.OpbText.{AreConstraints}
use Rattle.log_theory.specs.OpbReading.{later_lines, opb_lines}
use Rattle.opb_text.specs.Lines.{after_forms}
use Rattle.opb_text.proofs.reader.read_lines.Given as goal

abbrev pub invariant-loop-line : goal.invariant-loop-line
invariant-loop-line l = record {
  lines : later_lines l.variables 2 (opb_lines l.text) ≡ after_forms l.constraints.items (later_lines l.variables l.number (opb_lines l.rest));
  within : AreConstraints l.variables l.constraints.items;
  counted : l.number + length (opb_lines l.rest) ≡ length (opb_lines l.text) + 2;
  small : l.number + length l.rest ≤ length l.text + 2;
}

abbrev pub decreases-loop-line : goal.decreases-loop-line
decreases-loop-line l = length l.rest
