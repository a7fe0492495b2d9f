use Rattle.std.proofs.Common.{ℕ, List, length, ap, arith}
use Rattle.opb_text.proofs.LaterLines.{lines-more, AreConstraints-more}
use Rattle.opb_text.proofs.reader.read_lines.Goals as goal

pub loop-line-preserved : goal.loop-line-preserved
loop-line-preserved c =
    let l = c.loop-line in
    let found = c.in-Ok.found in
    let e = ap (λ (ls : List (List ℕ)). length ls) c.in-Some.ensures.lines in
    rw c.in_ok-push_found-in-Ok.ensures record {
      lines = lines-more c.args.variables l.number _ l.constraints.items found l.rest.now c.in-Some.more.now c.in-Some.line.now l.invariant.lines c.in-Some.ensures.lines c.in-Ok.ensures.says;
      within = AreConstraints-more c.args.variables l.constraints.items found l.invariant.within c.in-Ok.ensures.within;
      counted = omega (arith, e, l.invariant.counted);
      small = omega (arith, c.in-Some.ensures.shorter, l.invariant.small);
    }
