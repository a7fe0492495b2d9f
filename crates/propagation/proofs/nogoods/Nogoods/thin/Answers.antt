use Rattle.std.proofs.Common.{sym, ap, ◌∙◌}
use Rattle.nogood_watch.specs.Nogoods.{State}
use Rattle.propagation.proofs.Forcing.{held_looked}
use Rattle.propagation.proofs.nogoods.Nogoods.thin.Goals as goal

pub returns-clause-nogoods : goal.returns-clause-nogoods
returns-clause-nogoods c q are =
    held_looked q c.args.self.now c.self.inside.watched c.thin.new.self (sym c.self.view_is) are c.thin.ensures.new_vertices c.thin.ensures.new_values c.thin.ensures.nogoods c.thin.ensures.units c.thin.ensures.watches

pub returns-clause-same : goal.returns-clause-same
returns-clause-same c = record {
  lists = c.thin.ensures.nogoods ∙ ap (λ (s : State). s.nogoods) c.self.view_is;
  singles = c.thin.ensures.units ∙ ap (λ (s : State). s.units) c.self.view_is;
}
