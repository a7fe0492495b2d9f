use Rattle.recorder.proofs.Guesses.{guesses_may}
use Rattle.propagation.proofs.Reasons.{leaves_first}
use Rattle.propagation.proofs.removal.narrow_first.Goals as goal

pub returns-clause-told : goal.returns-clause-told
returns-clause-told g c q s of complete t =
    c.tell.ensures.told q s c.args.d.now
    (leaves_first q s c.args.d.now _ c.args.p _ c.args.row.now of c.requires.p_in c.narrow-some.ensures.keeps complete c.mark-from.ensures.length) t

pub returns-clause-guesses : goal.returns-clause-guesses
returns-clause-guesses g c = guesses_may _ _ _ (λ is. is) c.tell.ensures.took
