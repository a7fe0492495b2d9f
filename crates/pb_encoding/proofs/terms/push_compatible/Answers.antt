use Rattle.bit_rows.specs.BitRows.{has}
use Rattle.pb_encoding.proofs.Agreements.{left_out, left_in}
use Rattle.pb_encoding.proofs.RowTerms.{row_right}
use Rattle.pb_encoding.proofs.terms.push_compatible.Goals as goal

pub push_tested-requires-clause-all : goal.push_tested-requires-clause-all
push_tested-requires-clause-all c = λ u u_in out.
    left_out c.args.q.now c.args.p c.args.t c.args.r u (has c.fill_right.new.row u) (c.fill_right.ensures u) u_in out

pub returns-in_ok-push_members : goal.returns-in_ok-push_members
returns-in_ok-push_members c =
    row_right c.args.q.now c.fill_right.new.row c.args.p c.args.t c.args.r c.args.out.now.items c.push_members.new.out.items
    (λ u u_in. left_in c.args.q.now c.args.p c.args.t c.args.r u (has c.fill_right.new.row u) (c.fill_right.ensures u) u_in (c.asks_labels.ensures c.if-asks_labels.false c.args.t u c.requires.t_in u_in))
    c.in_ok-push_members.ensures
