use Rattle.std.proofs.Common.{Bool, subst}
use Rattle.std.proofs.lemmas.List.{drop_more}
use Rattle.log_theory.specs.declared.step.Ref.TheVariants.{Line}
use Rattle.log_theory.specs.LogText.{AreRefs}
use Rattle.log_theory.specs.Tables.{find}
use Rattle.proof_theory.specs.Slack.{setting}
use Rattle.proof_trim.specs.Hints.{LeadsOn}
use Rattle.proof_trim.proofs.hints.try_all.Goals as goal

pub returns-then-branch-clause-leads : goal.returns-then-branch-clause-leads
returns-then-branch-clause-leads c = λ s h.
    subst (λ (b : Bool). LeadsOn b (find c.args.model.now c.args.table.now) s c.try_ref.new.refs.items (setting c.try_ref.new.set)) c.if-branch.true (c.in_ok-try_ref.ensures.leads s (c.loop-at.invariant.leads s h))

pub loop-at-preserved : goal.loop-at-preserved
loop-at-preserved c = record {
  leads = λ s h. subst (λ (b : Bool). LeadsOn b (find c.args.model.now c.args.table.now) s c.try_ref.new.refs.items (setting c.try_ref.new.set)) c.if-branch.false (c.in_ok-try_ref.ensures.leads s (c.loop-at.invariant.leads s h));
  refs = c.in_ok-try_ref.ensures.refs;
  known = (subst AreRefs (drop_more c.args.known.now c.loop-at.at-index (Line 0) c.loop-at-test.true) c.loop-at.invariant.known).1;
}
