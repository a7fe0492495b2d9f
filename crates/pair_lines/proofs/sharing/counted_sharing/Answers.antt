use Rattle.std.proofs.Common.{arith, sym}
use Rattle.graph_theory.specs.Graph.{size}
use Rattle.pair_line_theory.specs.Rows.{is_shared}
use Rattle.encoding_theory.proofs.Counting.{count_some}
use Rattle.pair_lines.proofs.Pairs.{count_none}
use Rattle.pair_lines.proofs.Meetings.{sharing_count}
use Rattle.pair_lines.proofs.sharing.counted_sharing.Goals as goal

pub returns-in-Some : goal.returns-in-Some
returns-in-Some c =
    let found = c.in-Some.ensures in
    let some = count_some (is_shared c.args.known.now.pattern c.args.p c.args.r) (size c.args.known.now.pattern) c.in-Some.m found.0 found.1 in
    let few = c.if-count-gt1.false in
    let counted = c.in_ok-count.ensures in
    (omega (arith, some, few, counted), found.0, found.1, c.requires.injective)

pub returns-in-None : goal.returns-in-None
returns-in-None c =
    sharing_count c.args.known.now c.args.p c.args.r 0 c.requires.injective (count_none (is_shared c.args.known.now.pattern c.args.p c.args.r) (size c.args.known.now.pattern) c.in-None.ensures)

pub returns-then-count-gt1 : goal.returns-then-count-gt1
returns-then-count-gt1 c = (sym c.in_ok-count.ensures, let t = c.if-count-gt1.true in omega (arith, t), c.requires.injective)

pub returns-then-count-eq0 : goal.returns-then-count-eq0
returns-then-count-eq0 c = sharing_count c.args.known.now c.args.p c.args.r 0 c.requires.injective (let counted = c.in_ok-count.ensures in let none = c.if-count-eq0.true in omega (arith, counted, none))
