use Rattle.std.proofs.Common.{◌∙◌}
use Rattle.propagation.proofs.Supporting.{unites_more}
use Rattle.propagation.proofs.edges.unite.Goals as goal

pub loop-w-preserved : goal.loop-w-preserved
loop-w-preserved g c = record {
  unites = unites_more c.args.target.now c.args.d.now c.args.direction c.args.p c.loop-w.w _ c.row-domain.result.now c.loop-w.union c.row_by.result.now c.or_into.new.into
      c.row-domain.ensures.bits c.row_by.ensures.neighbours c.or_into.ensures.members c.next_member-w-in-loop-w.ensures.none c.loop-w.invariant.unites;
  long = c.or_into.auto.into ∙ c.loop-w.invariant.long;
  within = c.next_member-w-in-loop-w.ensures.high;
  member = c.next_member-w-in-loop-w.ensures.member;
}
