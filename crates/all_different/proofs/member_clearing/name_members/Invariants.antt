use Rattle.std.proofs.Common.{◌≡◌, ℕ, ◌<◌, ◌≤◌, get_or}
use Rattle.all_different.proofs.member_clearing.name_members.Given as goal

abbrev pub invariant-loop-at : goal.invariant-loop-at
invariant-loop-at l = record {
  named : (k : ℕ) → k < l.at → get_or l.places k 0 ≡ get_or l.members (get_or l.fn.places k 0) 0;
  rest : (k : ℕ) → l.at ≤ k → get_or l.places k 0 ≡ get_or l.fn.places k 0;
}
