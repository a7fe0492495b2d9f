use Rattle.std.proofs.Common.{◌≡◌, ◌<◌, ℕ, false}
use Rattle.graph_theory.specs.Embedding.{near_both}
use Rattle.pair_lines.proofs.meeting.first_near_both.Given as goal

abbrev pub invariant-loop-c : goal.invariant-loop-c
invariant-loop-c l = (v : ℕ) → v < l.c → near_both l.known.pattern l.p l.r v ≡ false
