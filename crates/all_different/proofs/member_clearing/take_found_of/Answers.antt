use Rattle.std.proofs.Common.{drop, refl, subst}
use Rattle.all_different.specs.Members.{part}
use Rattle.all_different.specs.Steps.{Finds}
use Rattle.all_different.proofs.Showing.{tight_some}
use Rattle.all_different.proofs.Parts.{lists_named, shows_named}
use Rattle.all_different.proofs.member_clearing.take_found_of.Goals as goal

pub take_members_values-requires-clause-some : goal.take_members_values-requires-clause-some
take_members_values-requires-clause-some g c =
    let h = subst (λ f. Finds f (part c.args.d.now c.args.members.now) c.args.order.now c.args.union.now) c.in-Tight.is c.requires.finds in
    tight_some (part c.args.d.now c.args.members.now) c.in-Tight.n h.1.here

pub returns-in-Short-clause-prunes : goal.returns-in-Short-clause-prunes
returns-in-Short-clause-prunes g c =
    let h = subst (λ f. Finds f (part c.args.d.now c.args.members.now) c.args.order.now c.args.union.now) c.in-Short.is c.requires.finds in
    let ms = c.args.members.now in
    let order = c.args.order.now in (
      c.in-Short.n,
      h.0,
      lists_named c.args.d.now ms c.requires.are_members.rising c.in-Short.n order c.name_members.new.places (drop c.in-Short.n order) h.1 c.name_members.auto.places c.name_members.ensures,
      refl,
    )

pub returns-in-Tight-clause-prunes : goal.returns-in-Tight-clause-prunes
returns-in-Tight-clause-prunes g c =
    let h = subst (λ f. Finds f (part c.args.d.now c.args.members.now) c.args.order.now c.args.union.now) c.in-Tight.is c.requires.finds in
    let ms = c.args.members.now in
    let order = c.args.order.now in (
      c.in-Tight.n,
      h.0,
      h.1,
      shows_named c.args.d.now ms c.requires.are_members.rising c.in-Tight.n order c.name_members-in-Tight.new.places (drop c.in-Tight.n order) c.args.union.now h.2 c.name_members-in-Tight.auto.places
          c.name_members-in-Tight.ensures h.3,
      c.take_members_values.ensures,
    )
