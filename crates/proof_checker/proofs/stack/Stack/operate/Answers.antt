use Rattle.log_theory.specs.Tables.{find}
use Rattle.proof_checker.proofs.stack.Stack.operate.Goals as goal

pub returns-in-Add : goal.returns-in-Add
returns-in-Add c = rw c.in-Add.is (c.add.ensures (find c.args.model.now c.args.table.now))

pub returns-in-Times : goal.returns-in-Times
returns-in-Times c = rw c.in-Times.is (c.times.ensures (find c.args.model.now c.args.table.now))

pub returns-in-Divide : goal.returns-in-Divide
returns-in-Divide c = rw c.in-Divide.is (c.divide.ensures (find c.args.model.now c.args.table.now))

pub returns-in-Saturate : goal.returns-in-Saturate
returns-in-Saturate c = rw c.in-Saturate.is (c.saturate.ensures (find c.args.model.now c.args.table.now))
