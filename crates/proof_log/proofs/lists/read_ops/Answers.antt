use Rattle.proof_log.proofs.FromLeft.{ops_more}
use Rattle.proof_log.proofs.lists.read_ops.Goals as goal

pub loop-word-preserved : goal.loop-word-preserved
loop-word-preserved c =
    rw c.in_ok-push.ensures.items
    (ops_more c.loop-word.items.items c.loop-word.words c.next.new.self c.operation.new.words c.in-Some.word.now c.in-Some-operation.op _ c.loop-word.invariant c.in-Some.ensures c.in-Some-operation.ensures.told)
