use Rattle.std.proofs.Common.{sym, ◌∙◌}
use Rattle.graph_rows.proofs.NearBoth.{found_out, found_back, none_found, same_test}
use Rattle.graph_rows.proofs.near.is_one_near_both.Goals as goal

pub returns-then-is_one_in_row : goal.returns-then-is_one_in_row
returns-then-is_one_in_row c =
    c.if-is_one_in_row.true ∙ sym (found_out c.args.g.now c.row.result.now c.args.p c.args.r c.row.ensures.neighbours c.row.ensures.within (c.is_one_in_row.ensures.found c.if-is_one_in_row.true))

pub returns-else-is_one_in_row : goal.returns-else-is_one_in_row
returns-else-is_one_in_row c =
    same_test _ _
    (λ yes. found_back c.args.g.now c.in_row.result.now c.args.p c.args.r c.in_row.ensures.neighbours c.in_row.ensures.within (c.is_one_in_row-else-is_one_in_row.ensures.found yes))
    (λ no. none_found c.args.g.now c.row.result.now c.in_row.result.now c.args.p c.args.r c.row.ensures.neighbours c.in_row.ensures.neighbours
    (c.is_one_in_row.ensures.none c.if-is_one_in_row.false) (c.is_one_in_row-else-is_one_in_row.ensures.none no))
