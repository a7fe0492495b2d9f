use Rattle.std.proofs.Common.{ℕ, List, subst, sym}
use Rattle.graph_theory.specs.Neighbours.{IsKeptBy}
use Rattle.bit_rows.proofs.Sifted.{sifted_kept, sifted_out}
use Rattle.nds_filter.specs.Sequences.{sequence_at}
use Rattle.nds_filter.proofs.kept.keep_sequences.Goals as goal
use Rattle.nds_filter.proofs.kept.keep_sequences.Goals.{then-not-is_kept, else-not-is_kept}

pub loop-t-preserved : goal.loop-t-preserved
loop-t-preserved c =
    elim c.if-not-is_kept.branch [
      | then-not-is_kept w ↦ record {
        sifted = sifted_out (λ (v : ℕ). IsKeptBy c.args.sequence.now (sequence_at c.args.ts.now v)) c.args.row.now c.loop-t.row _ c.if-not-is_kept.row c.loop-t.t c.next_member-t-in-loop-t.result
            c.loop-t.invariant.sifted w.row-is
            (λ kept.
            let off = w.if-not-is_kept.true in
            let on = c.is_kept.ensures.1 (subst (λ (ys : List ℕ). IsKeptBy c.args.sequence.now ys) (sym c.of.ensures.list) kept) in absurd (cc))
            w.unset_bit.ensures c.next_member-t-in-loop-t.ensures.none;
        within = c.next_member-t-in-loop-t.ensures.high;
        member = c.next_member-t-in-loop-t.ensures.member;
      }
      | else-not-is_kept w ↦ record {
        sifted = sifted_kept (λ (v : ℕ). IsKeptBy c.args.sequence.now (sequence_at c.args.ts.now v)) c.args.row.now c.loop-t.row c.if-not-is_kept.row c.loop-t.t c.next_member-t-in-loop-t.result
            c.loop-t.invariant.sifted w.row-is
            (subst (λ (ys : List ℕ). IsKeptBy c.args.sequence.now ys) c.of.ensures.list (c.is_kept.ensures.0 (let off = w.if-not-is_kept.false in cc)))
            c.next_member-t-in-loop-t.ensures.none;
        within = c.next_member-t-in-loop-t.ensures.high;
        member = c.next_member-t-in-loop-t.ensures.member;
      }
    ]
