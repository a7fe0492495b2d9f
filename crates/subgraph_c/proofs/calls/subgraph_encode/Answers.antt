-- What was made is what the status says.

use Rattle.std.specs.Prelude.{ℕ}
use Rattle.std.proofs.Common.{subst, sym}
use Rattle.subgraph_c.specs.Asking.{call}
use Rattle.subgraph_c.specs.Encoding.{EncodeStatus}
use Rattle.subgraph_c.proofs.EncodeStatuses.{encode_status_says}
use Rattle.subgraph_c.proofs.calls.subgraph_encode.Goals as goal

pub returns : goal.returns
returns c =
    let asked = call c.args.pattern.now c.args.target.now c.args.options.now c.args.less.now in
    subst (λ (s : ℕ). EncodeStatus s asked c.args.bytes.now c.tell_encoded.new.bytes c.tell_encoded.new.report) (sym c.tell_encoded.ensures.status)
    (encode_status_says c.text_laws.ensures c.encode-encoded.result asked c.args.bytes.now _ _ c.encode-encoded.ensures.says c.tell_encoded.ensures.bytes
    c.tell_encoded.ensures.report)
