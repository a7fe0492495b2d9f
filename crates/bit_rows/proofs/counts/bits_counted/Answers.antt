use Rattle.std.proofs.Common.{leb, get_or, arith}
use Rattle.bit_rows.proofs.Counting.{enough, enough_where, bit_more}
use Rattle.bit_rows.proofs.counts.bits_counted.Goals as goal

pub loop-b-preserved : goal.loop-b-preserved
loop-b-preserved c =
    let more = bit_more (enough c.args.counts.now c.args.least) c.loop-b.word c.loop-b.b c.from.result (leb c.args.least (get_or c.args.counts.now c.loop-b.b 0)) (omega arith)
    c.from.ensures (enough_where c.args.counts.now c.args.least c.loop-b.b) c.loop-b.invariant.done c.loop-b.invariant.todo in
    record { done = more.0; todo = more.1 }
