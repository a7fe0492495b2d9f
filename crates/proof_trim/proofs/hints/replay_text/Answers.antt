use Rattle.proof_trim.proofs.LinesRead.{nothing_left}
use Rattle.proof_trim.proofs.Hinting.{text_start, text_replayed, text_ended}
use Rattle.proof_trim.proofs.hints.replay_text.Goals as goal

pub loop-left-init : goal.loop-left-init
loop-left-init c = record { from = text_start c.args.model.now c.args.text.now c.args.out.now.bytes c.args.replay.now.table c.requires.start.1 c.requires.start.0; known = c.requires.known }

pub loop-left-preserved : goal.loop-left-preserved
loop-left-preserved c = record {
  from = text_replayed c.args.model.now c.args.text.now c.loop-left.left.now c.in-Some.line.now c.in-Some.behind.now c.loop-left.out.bytes c.put_step-in-loop-left.new.text.bytes c.loop-left.replay.table c.take.new.self.table
      c.in_ok-told.told c.in_ok-step.step c.in-Some.ensures.0 c.in-Some.ensures.1 c.in_ok-told.ensures.0 c.in_ok-told.ensures.1 c.in_ok-step.ensures.step c.in_ok-put_step-2.ensures c.loop-left.invariant.from;
  known = c.in_ok-step.ensures.known;
}

pub returns-then-is_empty : goal.returns-then-is_empty
returns-then-is_empty c =
    let none = nothing_left c.in-Some.behind.now c.is_empty-in-loop-left.result c.is_empty-in-loop-left.ensures c.if-is_empty.true in
    text_ended c.args.model.now c.args.text.now c.loop-left.left.now c.in-Some.line.now c.in-Some.behind.now c.loop-left.out.bytes c.put_step.new.text.bytes c.loop-left.replay.table c.in_ok-told.told c.in-Some.ensures.0 c.in-Some.ensures.1
    c.in_ok-told.ensures.0 c.in_ok-told.ensures.1 none c.in_ok-put_step.ensures c.loop-left.invariant.from
