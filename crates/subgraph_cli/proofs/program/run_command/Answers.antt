-- What the run of each command says.

use Rattle.std.specs.Prelude.{refl}
use Rattle.subgraph_cli.proofs.program.run_command.Goals as goal

pub returns-in-Verify-clause-ran : goal.returns-in-Verify-clause-ran
returns-in-Verify-clause-ran g c = rw c.in-Verify.is (c.run_verify.ensures.ran c.args.spent.now.items)

pub returns-in-Encode-clause-ran : goal.returns-in-Encode-clause-ran
returns-in-Encode-clause-ran g c = rw c.in-Encode.is (c.run_encode.ensures.ran c.args.spent.now.items)

pub returns-in-Check-clause-ran : goal.returns-in-Check-clause-ran
returns-in-Check-clause-ran g c = rw c.in-Check.is (c.run_check.ensures.ran c.args.spent.now.items)

pub returns-in-Trim-clause-ran : goal.returns-in-Trim-clause-ran
returns-in-Trim-clause-ran g c = rw c.in-Trim.is (c.run_trim.ensures.ran c.args.spent.now.items)

pub returns-in-Demo-clause-ran : goal.returns-in-Demo-clause-ran
returns-in-Demo-clause-ran g c = rw c.in-Demo.is (c.run_demo.ensures.ran _ refl)
