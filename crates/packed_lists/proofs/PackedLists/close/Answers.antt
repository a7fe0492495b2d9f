use Rattle.std.proofs.Common.{arith, ap}
use Rattle.packed_lists.specs.Packed.{Written}
use Rattle.packed_lists.proofs.Packing.{within_closed, written_closed}
use Rattle.packed_lists.proofs.PackedLists.close.Goals as goal

pub invariant_of-self-2 : goal.invariant_of-self-2
invariant_of-self-2 g c =
    within_closed c.self.inside.items.items c.self.inside.ends.items c.push.new.self.items c.len.result c.self.invariant (omega (arith, c.len.ensures)) c.in_ok-push.ensures.items

pub returns-clause-lists : goal.returns-clause-lists
returns-clause-lists g c =
    ap (λ (w : Written g.row.T.Denot). w.lists) (written_closed c.self.inside.items.items c.self.inside.ends.items c.push.new.self.items c.len.result _ c.self.view_is (omega (arith, c.len.ensures)) c.in_ok-push.ensures.items)

pub returns-clause-rest : goal.returns-clause-rest
returns-clause-rest g c =
    ap (λ (w : Written g.row.T.Denot). w.rest) (written_closed c.self.inside.items.items c.self.inside.ends.items c.push.new.self.items c.len.result _ c.self.view_is (omega (arith, c.len.ensures)) c.in_ok-push.ensures.items)
