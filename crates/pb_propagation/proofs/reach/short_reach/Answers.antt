use Rattle.std.proofs.Common.{false, nat_eq, ◌≡◌, ◌+◌, ◌-◌, ℕ, length, arith}
use Rattle.std.proofs.lemmas.Bool.Decides.{nat_tests}
use Rattle.pb_propagation.proofs.Propagation.{reaches_last}
use Rattle.pb_propagation.proofs.reach.short_reach.Goals as goal

some_length : (n : ℕ) → false ≡ nat_eq n 0 → n ≡ n - 1 + 1
some_length n h = grind (arith, nat_tests)

pub returns-clause-reaches : goal.returns-clause-reaches
returns-clause-reaches c =
    rw c.from.ensures (reaches_last 0 c.args.terms.now (length c.args.terms.now - 1) c.requires (some_length _ c.if-is_empty.ensures))
