use Rattle.std.proofs.Common.{◌≡◌, ℕ, ◌≤◌, length}
use Rattle.bit_rows.specs.BitRows.{has, words_for}
use Rattle.all_different.specs.Prefixes.{in_union, Tight}
use Rattle.all_different.proofs.finding.first_tight.Given as goal

abbrev pub invariant-loop-n : goal.invariant-loop-n
invariant-loop-n g l = record {
  long : length l.union ≡ words_for (g.F.Family.state l.d).values;
  union : (t : ℕ) → has l.union t ≡ in_union (g.F.Family.state l.d) l.n t;
  none : (m : ℕ) → m ≤ l.n → Tight (g.F.Family.state l.d) m → ⊥;
}
