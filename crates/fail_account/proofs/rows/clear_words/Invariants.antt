use Rattle.fail_account.specs.Rows.{Clears}
use Rattle.fail_account.proofs.rows.clear_words.Given as goal

abbrev pub invariant-loop-place : goal.invariant-loop-place
invariant-loop-place l = Clears l.fn.words l.words l.from l.place
