use Rattle.std.specs.Prelude.{◌≡◌, length, take, All}
use Rattle.restart_search.specs.Searching.{IsNotStopped}
use Rattle.proof_collection.specs.Making.{AreOfOwners}
use Rattle.parallel_solve.specs.Teaming.{HasRunAt}
use Rattle.parallel_solve.proofs.running.finish.Given as goal

abbrev pub invariant-loop-place : goal.invariant-loop-place
invariant-loop-place g l = record {
  ran : All (λ d. HasRunAt g.L.ProofLogger.owner g.L.ProofLogger.steps g.L.ProofLogger.refutes (g.G.Gate.may_close l.gate) l.book l.q l.budget d.worker d.outcome) l.done.items;
  numbers : AreOfOwners (λ d. d.worker.number) l.done.items;
  count : length l.done.items ≡ length l.fn.done.items;
  alone : All (λ d. IsNotStopped d.outcome) (take l.place l.done.items);
}
