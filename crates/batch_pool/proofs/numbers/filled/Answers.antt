use Rattle.std.proofs.Common.{◌≡◌, ap, sym, arith}
use Rattle.crossbeam_queue.specs.Passes.{view, ruled_capacity}
use Rattle.batch_pool.specs.declared.numbers.Hand.{Hand}
use Rattle.batch_pool.proofs.Keeps.{begins, pushes, learns, not_full}
use Rattle.batch_pool.proofs.numbers.filled.Goals as goal

pub ruled-requires-clause-rule : goal.ruled-requires-clause-rule
ruled-requires-clause-rule g c = begins

pub push_as-requires-clause-rule : goal.push_as-requires-clause-rule
push_as-requires-clause-rule g c =
    let v = c.loop-number.invariant.view in
    (pushes _ _ _ _ (ap (λ (h : Hand). h.parts) v) (sym (ap (λ (h : Hand). h.pushed) v)), learns _ _)

pub unreachable-requires : goal.unreachable-requires
unreachable-requires g c =
    let v = c.loop-number.invariant.view in
    let next : (view c.loop-number.pass).pushed ≡ c.loop-number.number = ap (λ (h : Hand). h.pushed) v in
    let room : ruled_capacity c.in_ok-queue.queue ≡ c.args.count = c.in_ok-queue.ensures.0 in
    not_full _ _ (ap (λ (h : Hand). h.parts) v) (ap (λ (h : Hand). h.taken) v) (omega arith) c.in-Err.ensures.rule.2
