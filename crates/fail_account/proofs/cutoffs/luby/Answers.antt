use Rattle.std.proofs.Common.{◌∙◌, arith}
use Rattle.fail_account.proofs.LubySteps.{luby_at_end, luby_before_end}
use Rattle.fail_account.proofs.cutoffs.luby.Goals as goal

pub returns-then-rest-power : goal.returns-then-rest-power
returns-then-rest-power c = luby_at_end _ _ c.power_within-power.ensures c.if-rest-power.true ∙ c.loop-rest.invariant.1

pub loop-rest-preserved : goal.loop-rest-preserved
loop-rest-preserved c = (omega arith, luby_before_end _ _ c.power_within-power.ensures c.if-rest-power.false ∙ c.loop-rest.invariant.1)
