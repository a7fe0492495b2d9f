use Rattle.std.proofs.Common.{◌≡◌, length}
use Rattle.log_theory.specs.OpbText.{AreVariables}
use Rattle.log_theory.specs.OpbReading.{First, constraint_words}
use Rattle.opb_text.specs.Kinds.{kinds}
use Rattle.opb_text.specs.Parts.{after_terms, place_after}
use Rattle.opb_text.proofs.constraint_line.read_terms.Given as goal

abbrev pub invariant-loop-part : goal.invariant-loop-part
invariant-loop-part l = record {
  words : constraint_words l.variables First (kinds l.line) ≡ after_terms l.terms.items (constraint_words l.variables (place_after l.terms.items) (kinds l.rest));
  within : AreVariables l.variables l.terms.items;
}

abbrev pub decreases-loop-part : goal.decreases-loop-part
decreases-loop-part l = length l.rest
