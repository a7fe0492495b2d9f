use Rattle.std.proofs.Common.{◌≤◌, length}
use Rattle.log_theory.specs.LogText.{AreRefs}
use Rattle.log_growth.specs.Frames.{Frame, IsFrameOf, Goes}
use Rattle.domain_lines.specs.Named.{AreUnits}
use Rattle.domain_lines.specs.Given.{HasValues}
use Rattle.journals.specs.Keeping.{KeepsRest}
use Rattle.domain_lines.proofs.domain_lines.DomainLines.first_line.Given as goal

abbrev pub invariant-loop-u : goal.invariant-loop-u
invariant-loop-u g l = record {
  goes : (w : Frame) → IsFrameOf l.self (g.K.Keeper.owner l.fn.keeper) w → Goes w (g.K.Keeper.kept l.fn.keeper) (g.K.Keeper.kept l.keeper) (AreUnits w l.fn.units) (HasValues w l.self l.p l.refs.items l.u l.units);
  fits : AreRefs l.refs.items;
  few : length l.refs.items ≤ l.u;
  rest : KeepsRest g.K.Keeper.owner g.K.Keeper.notes g.K.Keeper.spare l.fn.keeper l.keeper;
}
