use Rattle.std.proofs.Common.{◌≡◌, ◌<◌, ◌-◌, length, arith, rules}
use Rattle.opb_text.proofs.LineEnds.{opb_lines-first, opb_lines-last}
use Rattle.opb_text.proofs.line_words.first_line.Goals as goal

pub returns-in-Some-clause-lines : goal.returns-in-Some-clause-lines
returns-in-Some-clause-lines c =
    opb_lines-first c.args.text.now c.in-Some.line.now c.without_return.result.now c.in-Some.rest.now
    c.without_return.ensures.none c.in-Some.ensures.parts (c.without_return.ensures.same c.in-Some.rest.now)

pub returns-in-None-clause-lines : goal.returns-in-None-clause-lines
returns-in-None-clause-lines c =
    let e : length c.args.text.now - length c.args.text.now ≡ 0 = omega arith in
    let some : 0 < length c.args.text.now = search rules in
    rw e (opb_lines-last c.args.text.now c.in-None.ensures.first some)
