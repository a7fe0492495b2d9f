use Rattle.std.proofs.Common.{inr, refl, ◌∙◌}
use Rattle.propagation.proofs.Pruning.{two_by_size}
use Rattle.propagation.proofs.counting.note_decided.Goals as goal

pub returns-then-size-ne1 : goal.returns-then-size-ne1
returns-then-size-ne1 g c =
    rw c.from.ensures (inr (two_by_size c.args.d.now c.args.p (λ none. c.if-size-eq0.false (c.size-size.ensures.size ∙ none)) (λ one. c.if-size-ne1.true (c.size-size.ensures.size ∙ one)), refl))
