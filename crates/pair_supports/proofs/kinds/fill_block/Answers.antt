use Rattle.std.proofs.Common.{◌≡◌, ◌+◌, ◌-◌, ◌*◌, ◌≤◌, ◌∙◌, length, refl, arith}
use Rattle.std.proofs.lemmas.Option.{slice_get-get_or, slice_get_within}
use Rattle.pair_supports.proofs.Rowing.{made_more, next_row, part_long}
use Rattle.pair_supports.proofs.kinds.fill_block.Goals as goal

pub fill_row-requires-clause-counted : goal.fill_row-requires-clause-counted
fill_row-requires-clause-counted c = c.requires.counted.each c.loop-i.i _ (slice_get-get_or c.args.kinds.now c.loop-i.i _ (omega arith))

pub loop-i-preserved : goal.loop-i-preserved
loop-i-preserved c =
    let e : (c.args.first + c.loop-i.i) * c.args.width + c.args.width - (c.args.first + c.loop-i.i) * c.args.width ≡ c.args.width = omega arith in
    let ends = next_row (c.args.first + c.loop-i.i) (c.args.first + length c.args.kinds.now) c.args.width (omega arith) in
    let inside : (c.args.first + c.loop-i.i) * c.args.width + c.args.width ≤ length c.loop-i.pool = omega (arith, ends, c.requires.room, c.loop-i.invariant.long) in
    rw e (made_more c.args.q.now c.args.kinds.now c.args.width c.args.t c.args.first c.loop-i.i ((c.args.first + c.loop-i.i) * c.args.width) c.args.pool.now c.loop-i.pool
    c.fill_row.new.row _ c.loop-i.invariant refl inside (c.fill_row.auto.row ∙ part_long _ c.args.width ((c.args.first + c.loop-i.i) * c.args.width) c.loop-i.pool e inside)
    (slice_get-get_or c.args.kinds.now c.loop-i.i _ (omega arith)) c.fill_row.ensures)

pub returns-clause-rows : goal.returns-clause-rows
returns-clause-rows c = λ i. record {
  each = λ k k_is. let i_in = slice_get_within c.args.kinds.now i k k_is in (c.loop-i.invariant.made i (omega (arith, i_in))).each k k_is;
}
