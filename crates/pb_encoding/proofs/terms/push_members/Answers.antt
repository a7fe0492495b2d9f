use Rattle.std.proofs.Common.{◌*◌, arith}
use Rattle.pb_encoding.proofs.RowTerms.{row_none, row_next, row_all}
use Rattle.pb_encoding.proofs.terms.push_members.Goals as goal

pub loop-place-init : goal.loop-place-init
loop-place-init c = row_none c.args.row.now c.variable-first.result c.args.out.now.items

pub loop-place-preserved : goal.loop-place-preserved
loop-place-preserved c =
    row_next c.args.row.now c.variable-first.result c.loop-place.place c.args.out.now.items c.loop-place.out.items c.push_word.new.out.items c.loop-place.invariant c.in_ok-push_word.ensures

pub returns : goal.returns
returns c =
    row_all c.args.q.now c.args.row.now c.args.r c.variable-first.result (64 * c.loop-place.place) c.args.out.now.items c.loop-place.out.items c.requires.within (omega arith) c.variable-first.ensures.variable c.loop-place.invariant
