use Rattle.std.proofs.Common.{arith}
use Rattle.fail_account.proofs.Clearing.{clears_none, clears_more}
use Rattle.fail_account.proofs.rows.clear_words.Goals as goal

pub loop-place-init : goal.loop-place-init
loop-place-init c = clears_none _ _

pub loop-place-preserved : goal.loop-place-preserved
loop-place-preserved c = clears_more _ _ _ _ (omega arith) (omega arith) c.loop-place.invariant
