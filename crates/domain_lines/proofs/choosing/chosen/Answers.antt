use Rattle.std.proofs.Common.{◌∙◌, sym, arith}
use Rattle.graph_theory.specs.Reversed.{turned}
use Rattle.domain_lines.proofs.Members.{listed_none, listed_next, listed_all}
use Rattle.domain_lines.proofs.choosing.chosen.Goals as goal

pub loop-b-init : goal.loop-b-init
loop-b-init c = record {
  listed = c.new-out.ensures.items ∙ listed_none c.args.apart (turned c.args.direction c.args.graph.now) c.row_by-near.result.now c.args.a c.args.d c.args.low c.next_member-b.result c.row_by-near.ensures.neighbours
      (λ v v_in. c.next_member-b.ensures.none v (omega arith) v_in);
  within = c.next_member-b.ensures.high;
  member = c.next_member-b.ensures.member;
}

pub is_chosen-passes-requires-clause-leads : goal.is_chosen-passes-requires-clause-leads
is_chosen-passes-requires-clause-leads c = sym (c.row_by-near.ensures.neighbours c.loop-b.b) ∙ c.loop-b.invariant.member c.loop-b-test.true

pub loop-b-preserved : goal.loop-b-preserved
loop-b-preserved c = record {
  listed = listed_next c.args.apart (turned c.args.direction c.args.graph.now) c.row_by-near.result.now c.args.a c.args.d c.args.low c.loop-b.b c.next_member-b-in-loop-b.result c.is_chosen-passes.result c.loop-b.out.items c.push_where.new.out.items
      c.row_by-near.ensures.neighbours c.next_member-b-in-loop-b.ensures.low c.next_member-b-in-loop-b.ensures.none c.loop-b.invariant.listed c.is_chosen-passes.ensures c.in_ok-push_where.ensures;
  within = c.next_member-b-in-loop-b.ensures.high;
  member = c.next_member-b-in-loop-b.ensures.member;
}

pub returns : goal.returns
returns c =
    c.loop-b.invariant.listed
    ∙ listed_all c.args.apart (turned c.args.direction c.args.graph.now) c.row_by-near.result.now c.args.a c.args.d c.args.low c.loop-b.b c.row_by-near.ensures.neighbours c.row_by-near.ensures.within (omega (arith, c.row_by-near.ensures.long, c.loop-b-test.false))
