use Rattle.std.proofs.Common.{◌≡◌, ◌*◌, ◌++◌}
use Rattle.pb_encoding.proofs.RowTerms.{row_terms}
use Rattle.pb_encoding.proofs.terms.push_members.Given as goal

abbrev pub invariant-loop-place : goal.invariant-loop-place
invariant-loop-place l = l.out.items ≡ l.fn.out.items ++ row_terms l.row l.first (64 * l.place)
