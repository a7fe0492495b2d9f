use Rattle.proof_theory.proofs.Propagation.{closes_found, closes_there, forces_wider, closes_wider, closes_more, closes_after, closes_step, closes_not}
use Rattle.proof_theory.proofs.propagation_laws.Goals as goal

pub returns : goal.returns
returns c = record {
  found = closes_found;
  complete = closes_there;
  stays = forces_wider;
  wider = closes_wider;
  more = closes_more;
  after = closes_after;
  step = closes_step;
  rest = closes_not;
}
