use Rattle.std.proofs.Common.{arith, ◌<◌, length}
use Rattle.fail_account.proofs.Levels.{vertex_within, vertex_at_end, vertex_past}
use Rattle.fail_account.proofs.account.level_vertex.Goals as goal

pub returns-then-i-path : goal.returns-then-i-path
returns-then-i-path c = vertex_within c.args.path.now c.args.after c.args.i (0, 0) c.if-i-path.true

pub returns-then-i-path-2 : goal.returns-then-i-path-2
returns-then-i-path-2 c = vertex_at_end c.args.path.now c.args.after c.args.i c.if-i-path-2.true

pub returns : goal.returns
returns c = let past : length c.args.path.now < c.args.i = omega (arith, c.if-i-path.false, c.if-i-path-2.false) in vertex_past c.args.path.now c.args.after c.args.i past
