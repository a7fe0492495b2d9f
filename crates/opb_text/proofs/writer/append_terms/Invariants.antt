use Rattle.std.proofs.Common.{◌≡◌, ◌++◌, take}
use Rattle.std.specs.List.{flat_map}
use Rattle.opb_text.specs.Pieces.{term_text}
use Rattle.opb_text.proofs.writer.append_terms.Given as goal

-- The terms so far were appended.
abbrev pub invariant-loop-variable : goal.invariant-loop-variable
invariant-loop-variable l = l.text.items ≡ l.fn.text.items ++ flat_map term_text (take l.variable-index l.terms)
