use Rattle.std.proofs.Common.{◌≡◌, ◌++◌, length, ap, ◌∙◌, length-append, arith}
use native.Mathlib.Nat.{suc-mul}
use Rattle.domain_bits.proofs.Fresh.{rows_more}
use Rattle.domain_bits.proofs.domains.full_rows.Goals as goal

pub loop-p-preserved : goal.loop-p-preserved
loop-p-preserved c =
    let later : c.extend_from_slice.new.self.items ≡ c.loop-p.rows.items ++ c.in_ok-row.row.items = c.in_ok-extend_from_slice.ensures.items ∙ ap (λ xs. c.loop-p.rows.items ++ xs) c.deref.ensures.value in
    record {
      long = omega (arith, ap length later, length-append c.loop-p.rows.items c.in_ok-row.row.items, c.in_ok-row.ensures.long, c.loop-p.invariant.long, suc-mul c.loop-p._p c.args.words);
      bits = rows_more c.loop-p.rows.items c.in_ok-row.row.items c.extend_from_slice.new.self.items c.loop-p._p c.args.values c.args.words c.loop-p.invariant.long c.in_ok-row.ensures.long later
          c.loop-p.invariant.bits c.in_ok-row.ensures.bits;
    }
