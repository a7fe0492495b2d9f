use Rattle.recorder.specs.Recording.{members_of}
use Rattle.recorder.proofs.Guesses.{guesses_may}
use Rattle.propagation.proofs.Reasons.{leaves_crowded}
use Rattle.propagation.proofs.removal.take_crowded.Goals as goal

pub returns-clause-told : goal.returns-clause-told
returns-clause-told g c q s crowded t =
    c.tell_crowd.ensures.told q s c.args.d.now
    (leaves_crowded q s c.args.d.now _ c.args.crowd.now.direction c.args.crowd.now.p c.args.crowd.now.t (members_of c.args.crowd.now.vertices.now)
    (members_of c.args.crowd.now.values.now) _ c.take_value-some.ensures.keeps crowded c.mark-from.ensures.length) t

pub returns-clause-guesses : goal.returns-clause-guesses
returns-clause-guesses g c = guesses_may _ _ _ (λ is. is) c.tell_crowd.ensures.took
