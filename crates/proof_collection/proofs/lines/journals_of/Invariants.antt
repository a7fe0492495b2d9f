use Rattle.std.proofs.Common.{◌≡◌, ◌≤◌, ◌+◌, ◌++◌, length, map}
use Rattle.std.specs.Prelude.{vec_capacity}
use Rattle.std.specs.Vec.Iter.{into_iter_items, into_iter_len}
use Rattle.proof_collection.proofs.lines.journals_of.Given as goal

-- The journals so far, with those of the logs that are left.
abbrev pub invariant-loop-log : goal.invariant-loop-log
invariant-loop-log l = record {
  whole : l.journals.items ++ map (λ x. x.kept.journal) (into_iter_items l.log-iterator) ≡ l.initial.journals.items ++ map (λ x. x.kept.journal) (into_iter_items l.initial.log-iterator);
  len : into_iter_len l.log-iterator ≡ length (into_iter_items l.log-iterator);
  room : length l.journals.items + length (into_iter_items l.log-iterator) ≤ vec_capacity l.journals;
}
