use Rattle.std.proofs.Common.{◌≡◌, ◌+◌, false, cond, length}
use Rattle.proof_theory.specs.Slack.{setting}
use Rattle.proof_theory.specs.Propagation.{closes}
use Rattle.log_theory.specs.Tables.{all_forms}
use Rattle.pb_terms.specs.Trail.{unset_count}
use Rattle.proof_checker.proofs.closing.close.Given as goal

abbrev pub invariant-loop-moved : goal.invariant-loop-moved
invariant-loop-moved l = record {
  same : closes (setting l.set) (all_forms l.model l.table) ≡ closes (setting l.initial.set) (all_forms l.model l.table);
  long : length l.set ≡ length l.initial.set;
  rest : l.moved ≡ false → closes (setting l.set) (all_forms l.model l.table) ≡ false;
}

abbrev pub decreases-loop-moved : goal.decreases-loop-moved
decreases-loop-moved l = cond l.moved 1 0 + unset_count l.set
