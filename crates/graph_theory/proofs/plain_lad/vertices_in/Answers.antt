use Rattle.std.proofs.Common.{◌∙◌}
use Rattle.graph_theory.specs.Text.{words}
use Rattle.graph_theory.proofs.OneAnswer.{only_reading, only_fault}
use Rattle.graph_theory.proofs.plain_lad.vertices_in.Goals as goal

pub returns-clause-only : goal.returns-clause-only
returns-clause-only c =
    let e = c.read_text.ensures in
    let numbers = c.deref.ensures.value ∙ c.in_ok-numbers.ensures in
    only_reading c.text_laws.ensures (words c.args.bytes.now) c.args.kind c.args.limit (λ x. x.items) c.read_text.result
    (e.found (words c.args.bytes.now) numbers) (e.fault (words c.args.bytes.now) numbers)

pub returns-clause-fault_only : goal.returns-clause-fault_only
returns-clause-fault_only c =
    let e = c.read_text.ensures in
    let numbers = c.deref.ensures.value ∙ c.in_ok-numbers.ensures in
    only_fault c.text_laws.ensures (words c.args.bytes.now) c.args.kind c.args.limit (λ x. x.items) c.read_text.result
    (e.found (words c.args.bytes.now) numbers) (e.fault (words c.args.bytes.now) numbers)
