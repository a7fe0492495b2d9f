use Rattle.std.proofs.Common.{arith}
use Rattle.std.proofs.lemmas.Bool.{ne_eqb}
use Rattle.proof_log.proofs.Cutting.{uncut_first, uncut_more, cut_at, whole}
use Rattle.proof_log.proofs.pieces.first_piece.Goals as goal

pub loop-i-init : goal.loop-i-init
loop-i-init c = uncut_first c.args.separator c.args.text.now

pub loop-i-preserved : goal.loop-i-preserved
loop-i-preserved c = uncut_more c.args.separator c.args.text.now c.loop-i.i c.loop-i-test.true (ne_eqb _ _ c.if-b-separator.false) c.loop-i.invariant

pub returns-then-b-separator : goal.returns-then-b-separator
returns-then-b-separator c = cut_at c.args.separator c.args.text.now c.loop-i.i c.loop-i-test.true c.if-b-separator.true c.loop-i.invariant

pub returns : goal.returns
returns c = whole c.args.separator c.args.text.now c.loop-i.i (omega arith) c.loop-i.invariant
