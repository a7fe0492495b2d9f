use Rattle.std.proofs.Common.{◌∙◌, ◌&&◌, ◌==◌, not, ap, ℕ}
use Rattle.bit_rows.specs.BitRows.{has}
use Rattle.needed_values.specs.Consistent.{edges_agree}
use Rattle.needed_values.proofs.Agreeing.{words_go, words_all, goes_on, kept_both}
use Rattle.needed_values.proofs.consistent.keep_compatible.Goals as goal

pub keep_back-requires-clause-within : goal.keep_back-requires-clause-within
keep_back-requires-clause-within c = λ u h. c.requires.within u (kept_both (has c.args.row.now u) (edges_agree c.args.q.now c.args.p c.args.t c.args.r u) (has c.keep_near.new.row u) (c.keep_near.ensures u) h).0

pub keep_back-requires-clause-along : goal.keep_back-requires-clause-along
keep_back-requires-clause-along c = λ u h. (kept_both (has c.args.row.now u) (edges_agree c.args.q.now c.args.p c.args.t c.args.r u) (has c.keep_near.new.row u) (c.keep_near.ensures u) h).1

pub returns-then-asks_labels-clause-goes : goal.returns-then-asks_labels-clause-goes
returns-then-asks_labels-clause-goes c =
    goes_on c.args.q.now c.args.p c.args.t c.args.r c.args.row.now c.keep_apart.new.row c.keep_tested.new.row
    (words_go c.args.q.now c.args.p c.args.t c.args.r c.args.row.now c.keep_near.new.row c.keep_back.new.row c.keep_apart.new.row c.requires.p_in c.requires.r_in c.requires.t_in c.requires.within c.keep_near.ensures c.keep_back.ensures
    c.keep_apart.ensures) c.keep_tested.ensures.goes

pub returns-else-asks_labels-clause-goes : goal.returns-else-asks_labels-clause-goes
returns-else-asks_labels-clause-goes c =
    words_go c.args.q.now c.args.p c.args.t c.args.r c.args.row.now c.keep_near.new.row c.keep_back.new.row c.keep_apart.new.row c.requires.p_in c.requires.r_in c.requires.t_in c.requires.within c.keep_near.ensures c.keep_back.ensures
    c.keep_apart.ensures

pub returns-else-asks_labels-clause-all : goal.returns-else-asks_labels-clause-all
returns-else-asks_labels-clause-all c =
    words_all c.args.q.now c.args.p c.args.t c.args.r c.args.row.now c.keep_near.new.row c.keep_back.new.row c.keep_apart.new.row c.requires.p_in c.requires.r_in c.requires.t_in c.requires.within c.keep_near.ensures c.keep_back.ensures
    c.keep_apart.ensures
    (c.asks_labels.ensures c.if-asks_labels.false)
