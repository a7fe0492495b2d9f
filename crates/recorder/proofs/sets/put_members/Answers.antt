use Rattle.std.proofs.Common.{ℕ, ◌++◌, [], ◌∷◌, List, sym, ap, ◌∙◌, append_assoc}
use Rattle.std.proofs.lemmas.List.{append-nil}
use Rattle.bit_rows.specs.BitRows.{has}
use Rattle.graph_theory.specs.Neighbours.{members}
use Rattle.recorder.proofs.Entries.{members_first, members_next}
use Rattle.recorder.proofs.sets.put_members.Goals as goal

pub loop-t-init : goal.loop-t-init
loop-t-init c = record {
  are = sym (ap (λ (us : List ℕ). c.args.numbers.now.items ++ us) (members_first (has c.args.row.now) c.next_member-t.result c.next_member-t.ensures.none) ∙ append-nil c.args.numbers.now.items);
  within = c.next_member-t.ensures.high;
  member = c.next_member-t.ensures.member;
}

pub loop-t-preserved : goal.loop-t-preserved
loop-t-preserved c = record {
  are =
      c.in_ok-push.ensures.items
      ∙ (ap (λ (us : List ℕ). us ++ c.loop-t.t ∷ []) c.loop-t.invariant.are
      ∙ (append_assoc c.args.numbers.now.items (members (has c.args.row.now) c.loop-t.t) (c.loop-t.t ∷ [])
      ∙ ap (λ (us : List ℕ). c.args.numbers.now.items ++ us) (sym (members_next (has c.args.row.now) c.loop-t.t c.next_member-t-in-loop-t.result (c.loop-t.invariant.member c.loop-t-test.true)
      c.next_member-t-in-loop-t.ensures.low c.next_member-t-in-loop-t.ensures.none))));
  within = c.next_member-t-in-loop-t.ensures.high;
  member = c.next_member-t-in-loop-t.ensures.member;
}
