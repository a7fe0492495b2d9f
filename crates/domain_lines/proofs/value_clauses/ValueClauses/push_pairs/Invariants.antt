use Rattle.std.proofs.Common.{◌++◌, ℕ, List, take}
use Rattle.log_theory.specs.LogText.{AreRefs}
use Rattle.log_growth.specs.Frames.{Frame, Goes}
use Rattle.domain_lines.specs.Given.{IsFrameFor, HasPairs, all_pairs}
use Rattle.journals.specs.Keeping.{KeepsRest}
use Rattle.domain_lines.proofs.value_clauses.ValueClauses.push_pairs.Given as goal

abbrev pub invariant-loop-r : goal.invariant-loop-r
invariant-loop-r g l = record {
  goes : (v : Frame) (pairs : List (ℕ × ℕ)) → IsFrameFor l.self (g.K.Keeper.owner l.fn.keeper) v → Goes v (g.K.Keeper.kept l.fn.keeper) (g.K.Keeper.kept l.keeper) (HasPairs v l.self l.fn.refs.items pairs l.fn.units)
      (HasPairs v l.self l.refs.items (pairs ++ all_pairs (take l.r-index l.vertices) l.lower) l.units);
  fits : AreRefs l.refs.items;
  rest : KeepsRest g.K.Keeper.owner g.K.Keeper.notes g.K.Keeper.spare l.fn.keeper l.keeper;
}
