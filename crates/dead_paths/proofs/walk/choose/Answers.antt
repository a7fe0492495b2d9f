use Rattle.std.proofs.Common.{◌≡◌, ◌<◌, ◌-◌, suc, length, refl, arith}
use Rattle.graph_theory.specs.Graph.{size}
use Rattle.recorder.specs.Recording.{changes_of}
use Rattle.dead_paths.specs.Choosing.{values_of, chosen_in}
use Rattle.dead_paths.proofs.Walking.{gone_none, in_problem_here, stepped, walked_all, nameable_all}
use Rattle.dead_paths.proofs.Resting.{rows_again}
use Rattle.dead_paths.proofs.walk.choose.Goals as goal

pub loop-left-init : goal.loop-left-init
loop-left-init c = record {
  gone = gone_none c.args.walk.now.q.now c.args.walk.now.rows.now c.args.walk.now.numbers.now c.args.walk.now.at.now c.args.entries.now (length c.args.entries.now) c.clear.new.self.items (values_of (size c.args.walk.now.q.now.target) c.args.marked.now c.args.needed.now) refl c.clear.ensures.items c.requires.in_problem;
  fit = c.requires.fit;
}

pub step_back-requires-clause-in_problem : goal.step_back-requires-clause-in_problem
step_back-requires-clause-in_problem c =
    let some = c.loop-left-test.true in
    let within = c.loop-left.invariant.gone.within in
    let below : c.loop-left.left - 1 < length c.args.entries.now = omega (arith, within, some) in
    let is : c.loop-left.left ≡ suc (c.loop-left.left - 1) = omega (arith, some) in
    in_problem_here c.args.walk.now.q.now c.args.walk.now.rows.now c.args.walk.now.numbers.now c.args.walk.now.at.now (changes_of c.args.walk.now.numbers.now c.args.entries.now) c.args.entries.now (c.loop-left.left - 1) c.loop-left.left c.index-entries-left.result
    (chosen_in c.args.walk.now.numbers.now c.loop-left.chosen.items) (values_of (size c.args.walk.now.q.now.target) c.args.marked.now c.args.needed.now) (values_of (size c.args.walk.now.q.now.target) c.loop-left.marked c.loop-left.needed) below is c.index-entries-left.is c.loop-left.invariant.gone

pub loop-left-preserved : goal.loop-left-preserved
loop-left-preserved c =
    let i = c.loop-left.invariant.gone in
    let within = i.within in
    let some = c.loop-left-test.true in
    let below : c.loop-left.left - 1 < length c.args.entries.now = omega (arith, within, some) in
    let is : c.loop-left.left ≡ suc (c.loop-left.left - 1) = omega (arith, some) in
    record {
      gone = stepped c.args.walk.now.q.now c.args.walk.now.rows.now c.args.walk.now.numbers.now c.args.walk.now.at.now (changes_of c.args.walk.now.numbers.now c.args.entries.now) c.args.entries.now (c.loop-left.left - 1) c.loop-left.left c.index-entries-left.result
          (chosen_in c.args.walk.now.numbers.now c.loop-left.chosen.items) (chosen_in c.args.walk.now.numbers.now c.step_back.new.chosen.items) (values_of (size c.args.walk.now.q.now.target) c.args.marked.now c.args.needed.now) (values_of (size c.args.walk.now.q.now.target) c.loop-left.marked c.loop-left.needed) (values_of (size c.args.walk.now.q.now.target) c.step_back.new.marked c.step_back.new.needed) below is
          c.index-entries-left.is i (λ path here. c.in_ok-step_back.ensures.come path i.seen (values_of (size c.args.walk.now.q.now.target) c.args.marked.now c.args.needed.now) here (i.come path here));
      fit = c.in_ok-step_back.ensures.fit;
    }

pub returns-clause-choice : goal.returns-clause-choice
returns-clause-choice c = λ path here.
    let none : c.loop-left.left ≡ 0 = omega (arith, c.loop-left-test.false) in
    walked_all c.args.walk.now.q.now c.args.walk.now.rows.now c.args.walk.now.numbers.now c.args.walk.now.at.now (changes_of c.args.walk.now.numbers.now c.args.entries.now) c.args.entries.now c.loop-left.left (chosen_in c.args.walk.now.numbers.now c.loop-left.chosen.items)
    (values_of (size c.args.walk.now.q.now.target) c.args.marked.now c.args.needed.now) (values_of (size c.args.walk.now.q.now.target) c.loop-left.marked c.loop-left.needed) none c.loop-left.invariant.gone path here

pub returns-clause-nameable : goal.returns-clause-nameable
returns-clause-nameable c = λ path here.
    nameable_all c.args.walk.now.q.now c.args.walk.now.rows.now c.args.walk.now.numbers.now c.args.walk.now.at.now (changes_of c.args.walk.now.numbers.now c.args.entries.now) c.args.entries.now c.loop-left.left (chosen_in c.args.walk.now.numbers.now c.loop-left.chosen.items)
    (values_of (size c.args.walk.now.q.now.target) c.args.marked.now c.args.needed.now) (values_of (size c.args.walk.now.q.now.target) c.loop-left.marked c.loop-left.needed) c.loop-left.invariant.gone path here

pub step_back-requires-clause-held : goal.step_back-requires-clause-held
step_back-requires-clause-held c =
    rows_again (size c.args.walk.now.q.now.target) c.args.marked.now c.loop-left.marked c.args.needed.now c.loop-left.needed (omega (arith, c.loop-left.auto.marked)) (omega (arith, c.loop-left.auto.needed)) c.requires.held
