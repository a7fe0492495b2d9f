use Rattle.std.proofs.Common.{refl, subst}
use Rattle.all_different.specs.Steps.{Finds}
use Rattle.all_different.proofs.Showing.{lists_prefix, shows_prefix, tight_some}
use Rattle.all_different.proofs.clearing.take_found.Goals as goal

pub returns-in-Short-clause-prunes : goal.returns-in-Short-clause-prunes
returns-in-Short-clause-prunes g c =
    let h = subst (λ f. Finds f c.args.d.now c.args.order.now c.args.union.now) c.in-Short.is c.requires.finds in
    (c.in-Short.n, h.0, lists_prefix c.args.d.now c.args.order.now c.in-Short.n h.1, refl)

pub take_values-requires-clause-some : goal.take_values-requires-clause-some
take_values-requires-clause-some g c =
    let h = subst (λ f. Finds f c.args.d.now c.args.order.now c.args.union.now) c.in-Tight.is c.requires.finds in
    tight_some c.args.d.now c.in-Tight.n h.1.here

pub returns-in-Tight-clause-prunes : goal.returns-in-Tight-clause-prunes
returns-in-Tight-clause-prunes g c =
    let h = subst (λ f. Finds f c.args.d.now c.args.order.now c.args.union.now) c.in-Tight.is c.requires.finds in (
      c.in-Tight.n,
      h.0,
      h.1,
      shows_prefix c.args.d.now c.args.order.now c.in-Tight.n c.args.union.now h.2 h.3,
      c.take_values.ensures,
    )
