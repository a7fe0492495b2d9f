use Rattle.std.proofs.Common.{not, ap, ◌-◌, ◌∙◌, arith}
use Rattle.all_different.specs.Members.{part, without_union_of}
use Rattle.all_different.proofs.Showing.{begins_last}
use Rattle.all_different.proofs.member_clearing.take_members_values.Goals as goal

pub bounds-order-n : goal.bounds-order-n
bounds-order-n g c = omega (arith, c.requires.some, c.requires.begins.within)

pub clear_later_members-requires-clause-last_in : goal.clear_later_members-requires-clause-last_in
clear_later_members-requires-clause-last_in g c = c.requires.begins.vertex (c.args.n - 1) (omega (arith, c.requires.some))

pub clear_later_members-requires-clause-keep : goal.clear_later_members-requires-clause-keep
clear_later_members-requires-clause-keep g c t l =
    rw (begins_last (part c.args.d.now c.args.members.now) c.args.n c.args.order.now c.requires.begins c.requires.some)
    (c.complement.ensures t (omega (arith, c.requires.long, l)) ∙ ap not (c.requires.union t))

pub returns : goal.returns
returns g c = c.clear_later_members.ensures
    ∙ ap (without_union_of c.args.d.now c.args.members.now) (begins_last (part c.args.d.now c.args.members.now) c.args.n c.args.order.now c.requires.begins c.requires.some)
