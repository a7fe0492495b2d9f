use Rattle.std.proofs.Common.{◌≡◌, ℕ, ◌&&◌, ◌||◌, not, eqb, List, ap, ◌∙◌, subst}
use Rattle.bit_rows.specs.BitRows.{has}
use Rattle.propagation.proofs.Gathering.{gathers_more}
use Rattle.propagation.proofs.crowding.add_one.Goals as goal

pub returns : goal.returns
returns g c =
    gathers_more c.args.d.now c.args.look.now.p c.args.look.now.t c.args.r c.args.look.now.near.now c.args.look.now.images.now c.args.chosen.now c.args.union.now c.row.result.now
    c.and_into.new.into c.unset_bit.new.row c.set_bit.new.row c.or_into.new.into c.requires.near c.requires.apart c.row.ensures.bits
    (λ v. c.and_into.ensures.members v ∙ ap (λ (row : List ℕ). has row v && has c.args.look.now.images.now v) c.copy_from_slice.ensures.after)
    (λ v. subst (λ (n : ℕ). has c.unset_bit.new.row v ≡ (has c.and_into.new.into v && not (eqb n v))) c.from.ensures (c.unset_bit.ensures v)) c.or_into.ensures.members
    (λ v. subst (λ (n : ℕ). has c.set_bit.new.row v ≡ (has c.args.chosen.now v || eqb n v)) c.from-2.ensures (c.set_bit.ensures v))
