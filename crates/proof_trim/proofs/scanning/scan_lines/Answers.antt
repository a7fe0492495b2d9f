use Rattle.std.proofs.Common.{ℕ, List, length, length-append, ap, arith}
use Rattle.proof_trim.proofs.LinesRead.{scan_start, scan_more, scan_all, nothing_left}
use Rattle.proof_trim.proofs.scanning.scan_lines.Goals as goal

pub loop-left-init : goal.loop-left-init
loop-left-init c = scan_start c.args.text.now c.args.index.now c.args.places.now.items c.requires.none c.requires.known

pub loop-left-preserved : goal.loop-left-preserved
loop-left-preserved c =
    let to = c.loop-left.invariant in
    let t = ap (λ (xs : List ℕ). length xs) to.to.text_is in
    let a = length-append to.to.front c.loop-left.left.now in
    scan_more c.args.text.now c.loop-left.left.now c.in-Some.line.now c.in-Some.behind.now c.loop-left.index c.take_line.new.index c.loop-left.places.items c.take_line.new.places.items c.in_ok-step.step _
    to c.in-Some.ensures.0 c.in-Some.ensures.1 c.in_ok-step.ensures.0 c.in_ok-step.ensures.1 (omega (arith, t, a)) c.in_ok-take_line.ensures

pub returns-then-is_empty : goal.returns-then-is_empty
returns-then-is_empty c =
    let none = nothing_left c.in-Some.behind.now c.is_empty-in-loop-left.result c.is_empty-in-loop-left.ensures c.if-is_empty.true in
    scan_all c.args.text.now c.loop-left.left.now c.in-Some.line.now c.in-Some.behind.now c.loop-left.index c.loop-left.places.items c.in_ok-step.step c.in-Some.ensures.0 c.in-Some.ensures.1 c.in_ok-step.ensures.0 c.in_ok-step.ensures.1 none
    c.loop-left.invariant
