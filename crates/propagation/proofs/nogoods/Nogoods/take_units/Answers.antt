use Rattle.std.proofs.Common.{sym, ap, ◌∙◌}
use Rattle.nogood_watch.specs.Nogoods.{State}
use Rattle.propagation.proofs.Forcing.{held_unit}
use Rattle.propagation.proofs.Reasons.{forbidden_units}
use Rattle.propagation.proofs.nogoods.Nogoods.take_units.Goals as goal

pub take_out-requires-clause-unused : goal.take_out-requires-clause-unused
take_out-requires-clause-unused g c = held_unit _ _ c.args.self.now _ _ (sym c.self.view_is) c.requires.nogoods c.units.ensures

pub returns-clause-told : goal.returns-clause-told
returns-clause-told g c t = c.take_out.ensures.told _ (forbidden_units c.args.d.now c.args.self.now _ (c.units.ensures ∙ ap (λ (s : State). s.units) c.self.view_is)) t
