use Rattle.std.proofs.Common.{◌≡◌, ◌∷◌, []}
use Rattle.encoding_theory.specs.Variables.{collect, when}
use Rattle.explanation_theory.specs.Reasons.{not_there}
use Rattle.pair_line_theory.specs.Rows.{there, is_consistent}
use Rattle.pair_lines.proofs.both_ways.places.Given as goal

abbrev pub invariant-loop-u : goal.invariant-loop-u
invariant-loop-u l = l.lits.items ≡ not_there l.q (l.pair.p, l.pair.t) ∷ collect (λ u. when (is_consistent l.q l.pair.p l.pair.t l.pair.r u) (there l.q u l.pair.r ∷ [])) l.u
