use Rattle.std.proofs.Common.{ℕ, get_or, ◌==◌, arith, refl}
use Rattle.bit_rows.proofs.Counting.{bit_more}
use Rattle.bit_rows.proofs.numbers.bits_equal.Goals as goal

pub loop-b-preserved : goal.loop-b-preserved
loop-b-preserved c =
    let more = bit_more (λ (v : ℕ). get_or c.args.numbers.now v 0 == c.args.number) c.loop-b.word c.loop-b.b c.from.result
    (get_or c.args.numbers.now c.loop-b.b 0 == c.args.number) (omega arith) c.from.ensures refl c.loop-b.invariant.done c.loop-b.invariant.todo in
    record { done = more.0; todo = more.1 }
