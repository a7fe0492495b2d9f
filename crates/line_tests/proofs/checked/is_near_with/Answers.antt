use Rattle.std.proofs.Common.{sym, ◌∙◌, arith}
use Rattle.line_tests.proofs.Ranges.{two_near}
use Rattle.line_tests.proofs.checked.is_near_with.Goals as goal

pub returns-then-is_near-2 : goal.returns-then-is_near-2
returns-then-is_near-2 c = λ e.
    two_near c.args.g.now c.args.c c.loop-a.a c.args.b c.requires.c_in (omega (arith, c.loop-a-test.true, c.size-a-end.ensures.size)) c.requires.b_in c.if-a-b.true
    (sym c.is_near.ensures ∙ c.if-is_near.true) (sym c.is_near-then-is_near.ensures ∙ c.if-is_near-2.true)
