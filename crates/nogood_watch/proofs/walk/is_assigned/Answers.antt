use Rattle.std.proofs.Common.{sym, ◌∙◌}
use Rattle.std.proofs.lemmas.Bool.{ne_eqb}
use Rattle.domain_bits.proofs.Sizes.{size_single, single_size}
use Rattle.nogood_watch.proofs.walk.is_assigned.Goals as goal

pub returns-then-size-eq1 : goal.returns-then-size-eq1
returns-then-size-eq1 g c = (
  λ h. size_single c.args.d.now c.args.literal.0 c.args.literal.1 (sym c.size.ensures.size ∙ c.if-size-eq1.true) (sym c.has.ensures ∙ h),
  λ s. c.has.ensures ∙ s.here,
)

pub returns-else-size-eq1 : goal.returns-else-size-eq1
returns-else-size-eq1 g c = (
  λ h. absurd (cc (ne_eqb c.size.result 1 c.if-size-eq1.false, h)),
  λ s. absurd (c.if-size-eq1.false (c.size.ensures.size ∙ single_size c.args.d.now c.args.literal.0 c.args.literal.1 s)),
)
