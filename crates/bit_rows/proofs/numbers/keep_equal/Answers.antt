use Rattle.std.proofs.Common.{ℕ, arith, length, get_or, ◌==◌}
use Rattle.bit_rows.proofs.Counting.{here_within, kept_next, kept_whole}
use Rattle.bit_rows.proofs.numbers.keep_equal.Goals as goal

pub loop-place-preserved : goal.loop-place-preserved
loop-place-preserved c =
    let next = kept_next (λ (v : ℕ). get_or c.args.numbers.now v 0 == c.args.number) c.args.row.now c.loop-place.row c.loop-place.place c.word_equal.result (omega arith)
    (λ v here h. c.word_equal.ensures v here
    (here_within c.args.row.now c.loop-place.row c.loop-place.place (length c.args.numbers.now) c.requires.within c.loop-place.invariant.todo v here h))
    c.loop-place.invariant.done c.loop-place.invariant.todo in
    record { done = next.0; todo = next.1 }

pub returns : goal.returns
returns c =
    kept_whole (λ (v : ℕ). get_or c.args.numbers.now v 0 == c.args.number) c.args.row.now c.loop-place.row c.loop-place.place (omega arith) (omega arith)
    c.loop-place.invariant.done
