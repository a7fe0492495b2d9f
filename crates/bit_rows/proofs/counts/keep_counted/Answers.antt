use Rattle.std.proofs.Common.{length, arith}
use Rattle.bit_rows.proofs.Counting.{enough, here_within, kept_next, kept_whole, kept_all}
use Rattle.bit_rows.proofs.counts.keep_counted.Goals as goal

pub returns-then-least-eq0 : goal.returns-then-least-eq0
returns-then-least-eq0 c = λ v. kept_all c.args.row.now c.args.counts.now c.args.least v c.if-least-eq0.true

pub word_counted-requires-clause-within : goal.word_counted-requires-clause-within
word_counted-requires-clause-within c =
    here_within c.args.row.now c.loop-place.row c.loop-place.place (length c.args.counts.now) c.requires.within c.loop-place.invariant.todo

pub loop-place-preserved : goal.loop-place-preserved
loop-place-preserved c =
    let next = kept_next (enough c.args.counts.now c.args.least) c.args.row.now c.loop-place.row c.loop-place.place c.word_counted.result (omega arith)
    c.word_counted.ensures c.loop-place.invariant.done c.loop-place.invariant.todo in
    record { done = next.0; todo = next.1 }

pub returns : goal.returns
returns c = kept_whole (enough c.args.counts.now c.args.least) c.args.row.now c.loop-place.row c.loop-place.place (omega arith) (omega arith) c.loop-place.invariant.done
