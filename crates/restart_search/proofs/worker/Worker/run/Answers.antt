use Rattle.restart_search.proofs.BetweenRuns.{paused_of, leaves_map, logged_open, open_of}
use Rattle.restart_search.proofs.worker.Worker.run.Goals as goal

pub returns-clause-paused : goal.returns-clause-paused
returns-clause-paused g c =
    paused_of _ c.run-outcome.result c.run-outcome.new.walk.propagator.filters.nogoods c.run-outcome.new.walk.position.undecided c.run-outcome.new.walk.position.marks.items c.run-outcome.new.walk.position.root c.run-outcome.ensures.begun

pub returns-clause-writes : goal.returns-clause-writes
returns-clause-writes g c = leaves_map c.run-outcome.result _ _ (λ logged. logged.writes) c.run-outcome.ensures.logged

pub run-outcome-requires-clause-logged : goal.run-outcome-requires-clause-logged
run-outcome-requires-clause-logged g c =
    logged_open c.self.inside.stage _ _ (open_of _ _ c.self.view_is c.requires.open) c.self.invariant.4
