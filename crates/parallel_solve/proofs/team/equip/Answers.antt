use Rattle.std.proofs.Common.{None, [], sym, subst}
use Rattle.domain_bits.specs.Removals.{State}
use Rattle.restart_search.specs.Logging.{IsTold}
use Rattle.parallel_solve.proofs.Told.{told_copied}
use Rattle.parallel_solve.proofs.team.equip.Goals as goal

pub new-requires-2-clause-told : goal.new-requires-2-clause-told
new-requires-2-clause-told g c =
    subst (λ (d : State). IsTold c.args.root.now.q.now None d [] [] (g.R.Recorder.changes c.copy-2.result)) (sym c.in_ok-copy.ensures.same)
    (told_copied c.args.root.now.q.now c.args.domains.now (g.R.Recorder.changes c.args.told.now) (g.R.Recorder.changes c.copy-2.result) c.copy-2.ensures c.requires.told)
