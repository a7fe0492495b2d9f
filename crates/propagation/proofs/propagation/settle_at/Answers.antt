use Rattle.std.proofs.Common.{◌≡◌, ℕ, inl, inr, sym, ◌∙◌, ap}
use Rattle.propagation.specs.Propagation.{waits_at}
use Rattle.propagation.proofs.Visits.{sweeps_decided, sweeps_own}
use Rattle.propagation.proofs.Pruning.{one_by_size, not_one_by_size}
use Rattle.propagation.proofs.propagation.settle_at.Goals as goal
use Rattle.propagation.proofs.propagation.settle_at.Goals.{else-not-waiting-from-via-then-not-waiting-from+else-size-eq1, else-not-waiting-from-via-else-not-waiting-from}

-- another vertex than the one at hand
other : (p r own : ℕ) → own ≡ p → (r ≡ own → ⊥) → p ≡ r → ⊥
other p r own is apart same = apart (sym same ∙ sym is)

pub returns-then-r-p-clause-sweeps : goal.returns-then-r-p-clause-sweeps
returns-then-r-p-clause-sweeps g c = sweeps_own _ c.args.d.now c.args.waiting.now c.args.at.now.vertex c.args.at.now.value c.args.r (c.if-r-p.true ∙ c.vertex-p.ensures) c.requires.bounded

pub returns-then-size-eq1-clause-sweeps : goal.returns-then-size-eq1-clause-sweeps
returns-then-size-eq1-clause-sweeps g c =
    let one = one_by_size c.args.d.now c.args.r (sym c.size.ensures.size ∙ c.if-size-eq1.true) in
    sweeps_decided _ _ _ _ _ _ _ c.requires.vertex_in c.requires.r_in (other _ _ _ c.vertex-p.ensures c.if-r-p.false) c.requires.ready
    (sym (ap (waits_at c.args.waiting.now) c.from.ensures) ∙ c.if-not-waiting-from.true) c.requires.single one.1 c.requires.bounded

pub keep_consistent-requires-clause-meets : goal.keep_consistent-requires-clause-meets
keep_consistent-requires-clause-meets g c = record {
  p_in = c.requires.vertex_in;
  t_in = c.requires.value_in;
  r_in = c.requires.r_in;
  apart = other _ _ _ c.vertex-p.ensures c.if-r-p.false;
  single = c.requires.single;
  undecided = elim c.else-not-waiting-from.branch [ else-not-waiting-from-via-then-not-waiting-from+else-size-eq1 w ↦ inr (not_one_by_size c.args.d.now c.args.r (λ one. w.if-size-eq1.false (w.size.ensures.size ∙ one))) | else-not-waiting-from-via-else-not-waiting-from w ↦ inl (sym (ap (waits_at c.args.waiting.now) c.from.ensures) ∙ w.if-not-waiting-from.false) ];
}
