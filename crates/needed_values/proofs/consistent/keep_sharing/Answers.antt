use Rattle.std.proofs.Common.{◌∙◌, ap, arith}
use Rattle.graph_theory.specs.Graph.{Graph, size}
use Rattle.graph_theory.specs.Neighbours.{common}
use Rattle.graph_theory.specs.Reversed.{turned}
use Rattle.needed_values.proofs.Agreeing.{counted, all_counted}
use Rattle.needed_values.proofs.consistent.keep_sharing.Goals as goal

pub returns-clause-shares : goal.returns-clause-shares
returns-clause-shares c =
    let g = turned c.args.direction c.args.target.now in
    counted g c.args.t c.args.shared (size c.args.target.now) c.fill_counts.new.counts c.args.row.now c.keep_counted.new.row
    (λ u u_in apart. c.fill_counts.ensures.exact u (rw c.in_ok-new.ensures u_in) apart ∙ ap (λ (h : Graph). common h c.args.t u) c.in_ok-new.ensures)
    c.requires.within (c.requires.other (let some = c.if-shared-eq0.false in omega (arith, some))) c.keep_counted.ensures

pub returns-clause-all : goal.returns-clause-all
returns-clause-all c =
    let g = turned c.args.direction c.args.target.now in
    all_counted g c.args.t c.args.shared (size c.args.target.now) c.fill_counts.new.counts c.args.row.now c.keep_counted.new.row
    (λ u u_in apart. c.fill_counts.ensures.exact u (rw c.in_ok-new.ensures u_in) apart ∙ ap (λ (h : Graph). common h c.args.t u) c.in_ok-new.ensures)
    c.requires.within (c.requires.other (let some = c.if-shared-eq0.false in omega (arith, some))) c.keep_counted.ensures
