use Rattle.pb_encoding.proofs.Agreements.{told_free, told_zeros}
use Rattle.pb_encoding.proofs.right_row.asks_labels.Goals as goal

pub returns-then-keeps_labels : goal.returns-then-keeps_labels
returns-then-keeps_labels c = λ none t u t_in u_in. told_free c.args.q.now c.args.p t c.args.r u (rw (← c.are_linked.ensures) none)

pub returns-else-keeps_labels : goal.returns-else-keeps_labels
returns-else-keeps_labels c = λ none t u t_in u_in.
    told_zeros c.args.q.now c.args.p t c.args.r u c.requires.p_in c.requires.r_in t_in u_in (c.keeps_labels.ensures.pattern c.if-keeps_labels.false) (c.keeps_labels.ensures.target c.if-keeps_labels.false)
