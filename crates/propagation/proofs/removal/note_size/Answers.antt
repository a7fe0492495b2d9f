use Rattle.std.proofs.Common.{inl, inr, refl, sym, ◌∙◌}
use Rattle.propagation.proofs.Pruning.{one_by_size, two_by_size}
use Rattle.propagation.proofs.removal.note_size.Goals as goal

pub returns-then-size-eq1 : goal.returns-then-size-eq1
returns-then-size-eq1 g c =
    let one = one_by_size c.args.d.now c.args.r (sym c.size-size.ensures.size ∙ c.if-size-eq1.true) in
    rw c.from.ensures (inl (one.0, one.1, refl))

pub returns-else-size-eq1 : goal.returns-else-size-eq1
returns-else-size-eq1 g c =
    inr (two_by_size c.args.d.now c.args.r (λ none. c.if-size-eq0.false (c.size-size.ensures.size ∙ none)) (λ one. c.if-size-eq1.false (c.size-size.ensures.size ∙ one)), refl)
