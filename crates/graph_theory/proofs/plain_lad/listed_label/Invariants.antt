use Rattle.std.proofs.Common.{◌≡◌, drop}
use Rattle.graph_theory.specs.Lad.{listed_label}
use Rattle.graph_theory.proofs.plain_lad.listed_label.Given as goal

abbrev pub invariant-loop-entry : goal.invariant-loop-entry
invariant-loop-entry l = listed_label (drop l.entry-index l.listed) l.b ≡ listed_label l.listed l.b
