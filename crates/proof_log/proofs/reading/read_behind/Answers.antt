use Rattle.std.proofs.Common.{sym, ◌∙◌, codes}
use Rattle.proof_log.proofs.LineKinds.{of_kind}
use Rattle.proof_log.proofs.reading.read_behind.Goals as goal

pub returns-then-is_byte : goal.returns-then-is_byte
returns-then-is_byte c = of_kind c.args.kind.now (codes "u") c.args.words.now c.read_u.result (sym c.is_byte.ensures ∙ c.if-is_byte.true) c.read_u.ensures

pub returns-then-is_byte-2 : goal.returns-then-is_byte-2
returns-then-is_byte-2 c = of_kind c.args.kind.now (codes "p") c.args.words.now c.read_p.result (sym c.is_byte-else-is_byte.ensures ∙ c.if-is_byte-2.true) c.read_p.ensures

pub returns-then-is_byte-3 : goal.returns-then-is_byte-3
returns-then-is_byte-3 c = of_kind c.args.kind.now (codes "n") c.args.words.now c.read_n.result (sym c.is_byte-else-is_byte-2.ensures ∙ c.if-is_byte-3.true) c.read_n.ensures

pub returns-then-is_byte-4 : goal.returns-then-is_byte-4
returns-then-is_byte-4 c = of_kind c.args.kind.now (codes "d") c.args.words.now c.read_d.result (sym c.is_byte-else-is_byte-3.ensures ∙ c.if-is_byte-4.true) c.read_d.ensures

pub returns-then-is_byte-5 : goal.returns-then-is_byte-5
returns-then-is_byte-5 c = of_kind c.args.kind.now (codes "m") c.args.words.now c.read_model.result (sym c.is_byte-else-is_byte-4.ensures ∙ c.if-is_byte-5.true) c.read_model.ensures

pub returns-then-is_byte-6 : goal.returns-then-is_byte-6
returns-then-is_byte-6 c = of_kind c.args.kind.now (codes "e") c.args.words.now c.read_e.result (sym c.is_byte-else-is_byte-5.ensures ∙ c.if-is_byte-6.true) c.read_e.ensures

pub returns-then-is_byte-7 : goal.returns-then-is_byte-7
returns-then-is_byte-7 c = of_kind c.args.kind.now (codes "y") c.args.words.now c.read_y.result (sym c.is_byte-else-is_byte-6.ensures ∙ c.if-is_byte-7.true) c.read_y.ensures

pub returns-then-is_byte-8 : goal.returns-then-is_byte-8
returns-then-is_byte-8 c = of_kind c.args.kind.now (codes "q") c.args.words.now c.read_q.result (sym c.is_byte-else-is_byte-7.ensures ∙ c.if-is_byte-8.true) c.read_q.ensures
