use Rattle.std.proofs.Common.{arith}
use Rattle.pair_supports.proofs.Nearing.{pushed_other}
use Rattle.pair_supports.proofs.near.push_other.Goals as goal

pub returns-in_ok-push : goal.returns-in_ok-push
returns-in_ok-push c = pushed_other c.args.list.now.items _ c.args.a c.args.u (λ e. omega arith) c.in_ok-push.ensures.items
