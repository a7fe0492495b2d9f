use Rattle.std.proofs.Common.{◌≡◌, ◌<◌, ◌≤◌, ◌-◌, ℕ, true}
use Rattle.std.specs.Prelude.{IsSome}
use Rattle.graph_theory.specs.Graph.{size}
use Rattle.graph_theory.specs.Neighbours.{is_neighbour}
use Rattle.log_growth.specs.Frames.{Frame, Goes}
use Rattle.pair_lines.specs.Choices.{pair_name}
use Rattle.pair_lines.specs.Claims.{HasEncoding, AreSpreads}
use Rattle.journals.specs.Keeping.{KeepsRest}
use Rattle.pair_lines.proofs.spreads.keep_around.Given as goal

abbrev pub invariant-loop-w : goal.invariant-loop-w
invariant-loop-w g l = record {
  rest : KeepsRest g.K.Keeper.owner g.K.Keeper.notes g.K.Keeper.spare l.fn.keeper l.keeper;
  goes : (f : Frame) → HasEncoding l.known (g.K.Keeper.owner l.fn.keeper) f → Goes f (g.K.Keeper.kept l.fn.keeper) (g.K.Keeper.kept l.keeper) (AreSpreads f l.known l.fn.spreads) (AreSpreads f l.known l.spreads);
  there : (v : ℕ) → v < l.w → is_neighbour l.known.target l.t v ≡ true → IsSome (pair_name l.spreads l.pair.p l.pair.r v);
  within : l.w ≤ size l.known.target;
}

abbrev pub decreases-loop-w : goal.decreases-loop-w
decreases-loop-w g l = size l.known.target - l.w
