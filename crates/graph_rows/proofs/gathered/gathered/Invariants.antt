use Rattle.std.proofs.Common.{◌≡◌, take}
use Rattle.graph_theory.specs.Mapping.{yes_text}
use Rattle.graph_rows.proofs.gathered.gathered.Given as goal

-- the lines so far were appended
abbrev pub invariant-loop-p : goal.invariant-loop-p
invariant-loop-p l = l.text.items ≡ yes_text (take l.p l.map)
