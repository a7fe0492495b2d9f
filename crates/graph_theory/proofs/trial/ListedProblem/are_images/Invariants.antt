use Rattle.std.proofs.Common.{ℕ, ◌<◌, slice_index}
use Rattle.graph_theory.specs.PlainSteps.{IsImage}
use Rattle.graph_theory.proofs.trial.ListedProblem.are_images.Given as goal

abbrev pub invariant-loop-p : goal.invariant-loop-p
invariant-loop-p l = (k : ℕ) → k < l.p → IsImage l.self k (slice_index l.map k)
