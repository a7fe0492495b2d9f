use Rattle.std.specs.Prelude.{◌≡◌, ◌++◌, ◌≤◌, length, All, vec_capacity}
use Rattle.std.specs.Vec.Iter.{into_iter_items, into_iter_len}
use Rattle.restart_search.specs.Searching.{IsNotStopped}
use Rattle.proof_collection.specs.Making.{AreOfOwners}
use Rattle.parallel_solve.specs.Teaming.{HasRunAt}
use Rattle.parallel_solve.proofs.running.run_in_turn.Given as goal

-- the workers gone over have run
abbrev pub invariant-loop-job : goal.invariant-loop-job
invariant-loop-job g l = record {
  whole : l.yielded ++ into_iter_items l.job-iterator ≡ l.fn.jobs.items;
  left : into_iter_len l.job-iterator ≡ length (into_iter_items l.job-iterator);
  ran : All (λ d. HasRunAt g.L.ProofLogger.owner g.L.ProofLogger.steps g.L.ProofLogger.refutes (g.G.Gate.may_close l.gate) l.book l.q l.budget d.worker d.outcome) l.done.items;
  numbers : AreOfOwners (λ d. d.worker.number) l.done.items;
  alone : All (λ d. IsNotStopped d.outcome) l.done.items;
  count : length l.done.items ≡ length l.yielded;
  room : length l.fn.jobs.items ≤ vec_capacity l.done;
}
