use Rattle.std.proofs.Common.{Bool, subst}
use Rattle.log_theory.specs.Tables.{find}
use Rattle.proof_theory.specs.Slack.{setting}
use Rattle.proof_trim.specs.Hints.{LeadsOn}
use Rattle.proof_trim.proofs.hints.refute.Goals as goal

pub returns-then-branch-clause-refuted : goal.returns-then-branch-clause-refuted
returns-then-branch-clause-refuted c =
    subst (λ (b : Bool). LeadsOn b (find c.args.model.now c.args.table.now) (setting c.args.set.now) c.try_all.new.refs.items (setting c.try_all.new.set)) c.if-branch.true
    (c.in_ok-try_all.ensures.leads (setting c.args.set.now) c.loop.invariant.leads)

pub loop-preserved : goal.loop-preserved
loop-preserved c = record {
  leads = subst (λ (b : Bool). LeadsOn b (find c.args.model.now c.args.table.now) (setting c.args.set.now) c.try_all.new.refs.items (setting c.try_all.new.set)) c.if-branch.false
      (c.in_ok-try_all.ensures.leads (setting c.args.set.now) c.loop.invariant.leads);
  refs = c.in_ok-try_all.ensures.refs;
}
