use Rattle.graph_theory.specs.Embedding.{Allowed}
use Rattle.bit_rows.proofs.Sifted.{sifted_kept, sifted_out}
use Rattle.initial_domains.proofs.keep_allowed.Goals as goal
use Rattle.initial_domains.proofs.keep_allowed.Goals.{then-not-allowed, else-not-allowed}

pub loop-t-preserved : goal.loop-t-preserved
loop-t-preserved c =
    elim c.if-not-allowed.branch [
      | then-not-allowed w ↦ record {
        sifted = sifted_out (Allowed c.args.q.now c.args.p) c.args.row.now c.loop-t.row _ c.if-not-allowed.row c.loop-t.t c.next_member-t-in-loop-t.result
            c.loop-t.invariant.sifted w.row-is (λ kept. let off = w.if-not-allowed.true in let on = c.allowed.ensures.1 kept in absurd (cc))
            w.unset_bit.ensures c.next_member-t-in-loop-t.ensures.none;
        within = c.next_member-t-in-loop-t.ensures.high;
        member = c.next_member-t-in-loop-t.ensures.member;
      }
      | else-not-allowed w ↦ record {
        sifted = sifted_kept (Allowed c.args.q.now c.args.p) c.args.row.now c.loop-t.row c.if-not-allowed.row c.loop-t.t c.next_member-t-in-loop-t.result
            c.loop-t.invariant.sifted w.row-is (c.allowed.ensures.0 (let off = w.if-not-allowed.false in cc)) c.next_member-t-in-loop-t.ensures.none;
        within = c.next_member-t-in-loop-t.ensures.high;
        member = c.next_member-t-in-loop-t.ensures.member;
      }
    ]
