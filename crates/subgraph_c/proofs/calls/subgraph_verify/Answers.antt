-- What the test says is what its status says.

use Rattle.std.specs.Prelude.{ℕ}
use Rattle.std.proofs.Common.{subst, sym}
use Rattle.subgraph_c.specs.Asking.{call}
use Rattle.subgraph_c.specs.Verifying.{VerifyStatus}
use Rattle.subgraph_c.proofs.VerifyStatuses.{verify_status_says}
use Rattle.subgraph_c.proofs.calls.subgraph_verify.Goals as goal

pub returns : goal.returns
returns c =
    let asked = call c.args.pattern.now c.args.target.now c.args.options.now c.args.less.now in
    subst (λ (s : ℕ). VerifyStatus s asked c.args.map.now c.tell_test.new.report) (sym c.tell_test.ensures.status)
    (verify_status_says c.text_laws.ensures c.test.result asked c.args.map.now _ c.test.ensures c.tell_test.ensures.report)
