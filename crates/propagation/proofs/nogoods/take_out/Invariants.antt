use Rattle.std.proofs.Common.{◌≡◌, ℕ, ◌<◌, false, Option}
use Rattle.domain_bits.specs.Removals.{in_domain}
use Rattle.nogood_watch.specs.Nogoods as watched
use Rattle.nogood_watch.specs.Watching.{forced_at}
use Rattle.recorder.specs.Recording.{NoNewGuess}
use Rattle.recorder.specs.Telling.{AreForbidden, Tells}
use Rattle.propagation.specs.Propagation.{Shrinks}
use Rattle.propagation.proofs.nogoods.take_out.Given as goal

abbrev pub invariant-loop-k : goal.invariant-loop-k
invariant-loop-k g l = record {
  shrinks : Shrinks l.rows.problem l.fn.d l.fn.waiting l.d l.waiting;
  out : (j : ℕ) → j < l.k → in_domain l.d (forced_at l.pairs j).0 (forced_at l.pairs j).1 ≡ false;
  told : (s : Option watched.State) → AreForbidden s l.fn.d l.pairs → Tells l.rows.problem s l.fn.d (g.R.Recorder.changes l.fn.told) → Tells l.rows.problem s l.d (g.R.Recorder.changes l.told);
  guesses : NoNewGuess (g.R.Recorder.changes l.fn.told) (g.R.Recorder.changes l.told);
}
