use Rattle.std.proofs.Common.{◌≡◌, ℕ, ◌||◌, length, take}
use Rattle.bit_rows.specs.BitRows.{has, words_for}
use Rattle.all_different.specs.Pruning.{in_one_of}
use Rattle.all_different.proofs.uniting.add_domains.Given as goal

abbrev pub invariant-loop-k : goal.invariant-loop-k
invariant-loop-k g l = record {
  long : length l.row ≡ words_for (g.F.Family.state l.d).values;
  union : (t : ℕ) → has l.row t ≡ (has l.fn.row t || in_one_of (g.F.Family.state l.d) (take l.k l.list) t);
}
