use Rattle.std.proofs.Common.{◌≡◌, ℕ, ◌≤◌, false}
use Rattle.domain_bits.specs.Removals.{in_domain}
use Rattle.propagation.proofs.order.past_last.Given as goal

abbrev pub invariant-loop-past : goal.invariant-loop-past
invariant-loop-past g l = record {
  within : l.past ≤ l.d.values;
  none : (u : ℕ) → l.past ≤ u → in_domain l.d l.p u ≡ false;
}

abbrev pub decreases-loop-past : goal.decreases-loop-past
decreases-loop-past g l = l.past
