use Rattle.std.proofs.Common.{◌≡◌, ℕ, ◌<◌, ◌≤◌, true}
use Rattle.graph_theory.specs.Asked.{asked_degree, room}
use Rattle.graph_theory.specs.Reversed.{turned_problem}
use Rattle.bit_rows.specs.BitRows.{has}
use Rattle.degree_filter.proofs.keep_roomy.Given as goal

abbrev pub invariant-loop-t : goal.invariant-loop-t
invariant-loop-t l = record {
  right : (v : ℕ) → has l.row v ≡ true → has l.fn.row v ≡ true;
  kept : (v : ℕ) → v < l.t → has l.row v ≡ true → asked_degree (turned_problem l.direction l.q) l.p ≤ room (turned_problem l.direction l.q) v;
  complete : (v : ℕ) → has l.fn.row v ≡ true → asked_degree (turned_problem l.direction l.q) l.p ≤ room (turned_problem l.direction l.q) v → has l.row v ≡ true;
}
