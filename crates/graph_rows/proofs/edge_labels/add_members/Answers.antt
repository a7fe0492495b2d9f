use Rattle.std.proofs.Common.{ℕ, get_or, arith}
use Rattle.bit_rows.specs.BitRows.{has}
use Rattle.graph_rows.proofs.LabelsBeside.{added_none, added_next}
use Rattle.graph_rows.proofs.edge_labels.add_members.Goals as goal

pub loop-v-init : goal.loop-v-init
loop-v-init c = record {
  added = added_none (has c.args.row.now) (λ (v : ℕ). get_or c.args.found.now v 0) c.args.labels.now.items c.next_member-v.result (λ v v_in. c.next_member-v.ensures.none v (omega arith) v_in);
  within = c.next_member-v.ensures.high;
  member = c.next_member-v.ensures.member;
}

pub loop-v-preserved : goal.loop-v-preserved
loop-v-preserved c = record {
  added = added_next (has c.args.row.now) (λ (v : ℕ). get_or c.args.found.now v 0) c.args.labels.now.items c.loop-v.labels.items c.push.new.self.items c.loop-v.v c.next_member-v-in-loop-v.result
      (c.loop-v.invariant.member c.loop-v-test.true) c.next_member-v-in-loop-v.ensures.low c.next_member-v-in-loop-v.ensures.none c.loop-v.invariant.added c.in_ok-push.ensures.items;
  within = c.next_member-v-in-loop-v.ensures.high;
  member = c.next_member-v-in-loop-v.ensures.member;
}
