use Rattle.std.proofs.Common.{◌≡◌, ℕ, false, arith, sym, ◌∙◌}
use Rattle.domain_bits.specs.Removals.{size_of}
use Rattle.propagation.specs.Propagation.{waits_at}
use Rattle.propagation.proofs.Past.{member_below}
use Rattle.propagation.proofs.Walking.{each_number, raised_more, unless_one}
use Rattle.propagation.proofs.counting.raise_undecided.Goals as goal

pub returns : goal.returns
returns g c =
    each_number c.args.d.now.vertices (λ (p : ℕ). waits_at c.loop-k.waiting p ≡ false → size_of c.args.d.now p ≡ 1) c.members-members.result.now c.args.undecided.now c.members-members.ensures.all
    (λ j j_in. c.loop-k.invariant.each j (omega (arith, j_in, c.loop-k-test.false))) (λ p p_in out down. c.requires.decided p p_in out)

pub loop-k-preserved : goal.loop-k-preserved
loop-k-preserved g c =
    let member = member_below c.args.undecided.now _ (c.members-members.ensures.member c.loop-k.k c.loop-k-test.true) in
    raised_more c.args.d.now c.loop-k.waiting c.members-members.result.now c.loop-k.k c.from.result _ c.from.ensures (omega (arith, c.from.ensures, member, c.requires.count, c.loop-k.invariant.long))
    (λ one. sym c.size.ensures.size ∙ unless_one c.size.result one) c.loop-k.invariant
