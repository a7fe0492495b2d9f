use Rattle.needed_values.specs.Sharers.{AreSharers}
use Rattle.needed_values.proofs.sharers.push_rows.Given as goal

abbrev pub invariant-loop-least : goal.invariant-loop-least
invariant-loop-least l = AreSharers l.target l.rows.items
