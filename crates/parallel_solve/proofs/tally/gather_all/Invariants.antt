use Rattle.std.specs.Prelude.{◌≡◌, ◌+◌, ◌++◌, ◌≤◌, length, map, All, IfSome, vec_capacity}
use Rattle.std.specs.Vec.Iter.{into_iter_items, into_iter_len}
use Rattle.nogood_book.specs.Seats.{IsHonest, IsSeatOf}
use Rattle.parallel_solve.specs.Concluding.{HasHeard}
use Rattle.parallel_solve.specs.Gathering.{HasMade, TookIn}
use Rattle.parallel_solve.specs.Teaming.{IsRefuter, IsTally}
use Rattle.parallel_solve.proofs.tally.gather_all.Given as goal

-- what the workers gone over left was taken
abbrev pub invariant-loop-one : goal.invariant-loop-one
invariant-loop-one g l = record {
  whole : l.yielded ++ into_iter_items l.one-iterator ≡ l.fn.done.items;
  left : into_iter_len l.one-iterator ≡ length (into_iter_items l.one-iterator);
  tally : IsTally l.q l.budget l.tally;
  count : length l.tally.accounts.items ≡ length l.yielded;
  room : length l.fn.done.items ≤ vec_capacity l.tally.accounts;
  logs : l.logs.items ≡ map (λ d. d.worker.log) l.yielded;
  log_room : length l.fn.done.items ≤ vec_capacity l.logs;
  refuter : IfSome l.tally.refuted (IsRefuter (λ d. g.L.ProofLogger.refutes d.worker.log l.q d.worker.facts.seen) l.yielded);
  heard : HasHeard (λ d. d.outcome) l.yielded l.tally;
  of : IsSeatOf l.book l.first;
  honest : IsHonest l.first;
  made : HasMade (length l.fn.done.items + 1) l.first;
  taken : All (λ d. TookIn d.worker.seat l.first) l.yielded;
}
