use Rattle.propagation.proofs.Reasons.{leaves_by}
use Rattle.propagation.proofs.removal.take_by.Goals as goal

pub returns-clause-told : goal.returns-clause-told
returns-clause-told g c q s stands refuses t =
    c.tell.ensures.told q s c.args.d.now (leaves_by q s c.args.d.now _ c.args.r c.args.u _ c.args.cause c.take_value-some.ensures.keeps stands refuses c.mark-from.ensures.length) t
