use Rattle.std.proofs.Common.{subst}
use Rattle.std.proofs.lemmas.List.Elements.{All-more}
use Rattle.parallel_solve.specs.Teaming.{StaysBeside, StaysWithoutOwn}
use Rattle.parallel_solve.proofs.Runs.{all_taken}
use Rattle.parallel_solve.proofs.tally.all_stay.Goals as goal

pub loop-log-preserved : goal.loop-log-preserved
loop-log-preserved g c = record {
  steps = All-more (λ (l : g.row.L.Denot). StaysBeside (g.L.ProofLogger.owner l) (g.L.ProofLogger.steps l)) c.args.logs.now c.loop-log.log-index c.log-item.result c.loop-log-test.true c.loop-log.invariant.steps
      (subst (λ (l : g.row.L.Denot). StaysBeside (g.L.ProofLogger.owner l) (g.L.ProofLogger.steps l)) c.log-item.is c.stays.ensures.steps_grown);
  refutes = All-more (λ (l : g.row.L.Denot). StaysBeside (g.L.ProofLogger.owner l) (g.L.ProofLogger.refutes l)) c.args.logs.now c.loop-log.log-index c.log-item.result c.loop-log-test.true c.loop-log.invariant.refutes
      (subst (λ (l : g.row.L.Denot). StaysBeside (g.L.ProofLogger.owner l) (g.L.ProofLogger.refutes l)) c.log-item.is c.stays.ensures.refutes_grown);
  steps_alone = All-more (λ (l : g.row.L.Denot). StaysWithoutOwn (g.L.ProofLogger.owner l) (g.L.ProofLogger.steps l)) c.args.logs.now c.loop-log.log-index c.log-item.result c.loop-log-test.true c.loop-log.invariant.steps_alone
      (subst (λ (l : g.row.L.Denot). StaysWithoutOwn (g.L.ProofLogger.owner l) (g.L.ProofLogger.steps l)) c.log-item.is c.stays.ensures.steps_without_own);
  refutes_alone = All-more (λ (l : g.row.L.Denot). StaysWithoutOwn (g.L.ProofLogger.owner l) (g.L.ProofLogger.refutes l)) c.args.logs.now c.loop-log.log-index c.log-item.result c.loop-log-test.true c.loop-log.invariant.refutes_alone
      (subst (λ (l : g.row.L.Denot). StaysWithoutOwn (g.L.ProofLogger.owner l) (g.L.ProofLogger.refutes l)) c.log-item.is c.stays.ensures.refutes_without_own);
}

pub returns-clause-steps : goal.returns-clause-steps
returns-clause-steps g c = all_taken (λ (l : g.row.L.Denot). StaysBeside (g.L.ProofLogger.owner l) (g.L.ProofLogger.steps l)) c.args.logs.now c.loop-log.log-index c.loop-log-test.false c.loop-log.invariant.steps

pub returns-clause-refutes : goal.returns-clause-refutes
returns-clause-refutes g c = all_taken (λ (l : g.row.L.Denot). StaysBeside (g.L.ProofLogger.owner l) (g.L.ProofLogger.refutes l)) c.args.logs.now c.loop-log.log-index c.loop-log-test.false c.loop-log.invariant.refutes

pub returns-clause-steps_alone : goal.returns-clause-steps_alone
returns-clause-steps_alone g c = all_taken (λ (l : g.row.L.Denot). StaysWithoutOwn (g.L.ProofLogger.owner l) (g.L.ProofLogger.steps l)) c.args.logs.now c.loop-log.log-index c.loop-log-test.false c.loop-log.invariant.steps_alone

pub returns-clause-refutes_alone : goal.returns-clause-refutes_alone
returns-clause-refutes_alone g c = all_taken (λ (l : g.row.L.Denot). StaysWithoutOwn (g.L.ProofLogger.owner l) (g.L.ProofLogger.refutes l)) c.args.logs.now c.loop-log.log-index c.loop-log-test.false c.loop-log.invariant.refutes_alone
