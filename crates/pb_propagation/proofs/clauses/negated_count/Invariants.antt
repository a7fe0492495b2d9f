use Rattle.std.proofs.Common.{◌≡◌, ◌+◌, ◌≤◌, drop}
use Rattle.proof_theory.specs.Slack.{negated_count}
use Rattle.pb_propagation.proofs.clauses.negated_count.Given as goal

abbrev pub invariant-loop-literal : goal.invariant-loop-literal
invariant-loop-literal l = record {
  counted : l.count + negated_count (drop l.literal-index l.literals) ≡ negated_count l.literals;
  few : l.count ≤ l.literal-index;
}
