use Rattle.std.proofs.Common.{List, sym, subst}
use Rattle.log_theory.specs.declared.step.Ref.{Ref}
use Rattle.log_theory.specs.LogText.{AreRefs}
use Rattle.log_theory.specs.Tables.{find}
use Rattle.proof_theory.specs.Slack.{setting}
use Rattle.proof_trim.specs.Hints.{LeadsTo, IsRefuted}
use Rattle.proof_trim.proofs.Hinting.{refs_more, leads_moved, leads_end}
use Rattle.proof_trim.proofs.hints.try_ref.Goals as goal

pub returns-in_ok-push-in-Moved-clause-leads : goal.returns-in_ok-push-in-Moved-clause-leads
returns-in_ok-push-in-Moved-clause-leads c = λ s h.
    let look = find c.args.model.now c.args.table.now in
    subst (λ (rs : List Ref). LeadsTo look s rs (setting c.follow_once.new.set)) (sym c.in_ok-push-in-Moved.ensures.items)
    (leads_moved look s (setting c.args.set.now) (setting c.follow_once.new.set) c.args.refs.now.items c.args.at c.in-Some.next.now h (sym c.in-Some.ensures) c.in-Moved.ensures.0 c.in-Moved.ensures.1)

pub returns-in_ok-push-in-Moved-clause-refs : goal.returns-in_ok-push-in-Moved-clause-refs
returns-in_ok-push-in-Moved-clause-refs c = subst AreRefs (sym c.in_ok-push-in-Moved.ensures.items) (refs_more c.args.refs.now.items c.args.at c.requires.refs c.requires.at)

pub returns-in_ok-push-in-Conflict-clause-leads : goal.returns-in_ok-push-in-Conflict-clause-leads
returns-in_ok-push-in-Conflict-clause-leads c = λ s h.
    let look = find c.args.model.now c.args.table.now in
    subst (λ (rs : List Ref). IsRefuted look s rs) (sym c.in_ok-push-in-Conflict.ensures.items)
    (leads_end look s (setting c.args.set.now) c.args.refs.now.items c.args.at c.in-Some.next.now h (sym c.in-Some.ensures) c.in-Conflict.ensures)

pub returns-in_ok-push-in-Conflict-clause-refs : goal.returns-in_ok-push-in-Conflict-clause-refs
returns-in_ok-push-in-Conflict-clause-refs c = subst AreRefs (sym c.in_ok-push-in-Conflict.ensures.items) (refs_more c.args.refs.now.items c.args.at c.requires.refs c.requires.at)
