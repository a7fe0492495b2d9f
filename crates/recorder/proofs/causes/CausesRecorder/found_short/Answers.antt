use Rattle.std.proofs.Common.{ap}
use Rattle.recorder.specs.Recording.{Recorded}
use Rattle.recorder.proofs.Entries.{laid_added, kept_added}
use Rattle.recorder.proofs.causes.CausesRecorder.found_short.Goals as goal

pub invariant_of-self-in-Ok : goal.invariant_of-self-in-Ok
invariant_of-self-in-Ok c = laid_added c.self.inside.entries.items c.self.inside.numbers.items c.put_set.new.numbers.items c.self.invariant c.in-Ok.ensures.adds

pub invariant_of-self-in-Err : goal.invariant_of-self-in-Err
invariant_of-self-in-Err c = laid_added c.self.inside.entries.items c.self.inside.numbers.items c.put_set.new.numbers.items c.self.invariant c.in-Err.ensures.adds

pub returns-in-Ok-clause-same : goal.returns-in-Ok-clause-same
returns-in-Ok-clause-same c =
    kept_added c.args.self.now.changes c.self.inside.whole c.self.inside.entries.items c.self.inside.numbers.items c.put_set.new.numbers.items (ap (λ (r : Recorded). r.changes) c.self.view_is)
    c.self.invariant c.in-Ok.ensures.adds
