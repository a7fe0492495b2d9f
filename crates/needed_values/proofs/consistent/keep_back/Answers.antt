use Rattle.needed_values.proofs.Agreeing.{stays_back}
use Rattle.needed_values.proofs.consistent.keep_back.Goals as goal

pub returns-then-is_mutual : goal.returns-then-is_mutual
returns-then-is_mutual c = λ u.
    stays_back c.args.q.now c.args.p c.args.t c.args.r u c.requires.p_in c.requires.r_in c.requires.t_in c.args.row.now c.requires.within c.requires.along (c.is_mutual.ensures c.if-is_mutual.true)
