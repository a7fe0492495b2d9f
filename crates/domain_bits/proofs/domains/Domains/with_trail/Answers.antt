use Rattle.std.proofs.Common.{◌∙◌, ap, refl, arith}
use Rattle.bit_rows.specs.BitRows.{words_for}
use Rattle.domain_bits.proofs.Fresh.{fresh_kept}
use Rattle.domain_bits.proofs.Noting.{noted_fresh}
use Rattle.domain_bits.proofs.domains.Domains.with_trail.Goals as goal

pub invariant_of-result : goal.invariant_of-result
invariant_of-result g c =
    record {
      kept = fresh_kept c.args.vertices c.args.values _ _ c.in_ok-rows.rows.items c.in_ok-sizes.sizes.items _ c.in_ok-trail.ensures.empty
          (c.words_for-words.ensures ∙ ap words_for c.from.ensures) (omega (arith, c.words_for-words.ensures, c.from.ensures))
          (c.in_ok-rows.ensures.long ∙ rw c.from-2.ensures refl)
          (λ p t hp ht. c.in_ok-rows.ensures.bits p t (rw c.from-2.ensures hp) ht ∙ rw c.from-3.ensures refl)
          (c.in_ok-sizes.ensures.items_if_clones_equal (λ y e. e) ∙ rw c.from-4.ensures refl)
          (rw (← c.from-6.ensures, ← c.from-7.ensures) c.in_ok-trail.ensures.room);
      noted = noted_fresh c.args.vertices c.args.values _ c.in_ok-singles.singles.items c.in_ok-trail.ensures.empty
          (c.in_ok-singles.ensures.items_if_clones_equal (λ y e. e) ∙ rw c.from-5.ensures refl);
    }
