use Rattle.propagation.proofs.Reasons.{leaves_given}
use Rattle.propagation.proofs.removal.give.Goals as goal

pub returns-clause-told : goal.returns-clause-told
returns-clause-told g c q s of t =
    c.tell.ensures.told q s c.args.d.now
    (leaves_given q s c.args.d.now _ c.args.p c.args.t _ of c.requires.p_in c.requires.t_in c.assign.ensures.keeps c.mark-from.ensures.length) t
