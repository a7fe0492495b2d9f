use Rattle.std.proofs.Common.{[], ◌∷◌, ap}
use Rattle.packed_lists.specs.Packed.{Written}
use Rattle.packed_lists.proofs.Packing.{within_more, written_more}
use Rattle.packed_lists.proofs.PackedLists.push.Goals as goal

pub invariant_of-self-2 : goal.invariant_of-self-2
invariant_of-self-2 g c = within_more c.self.inside.items.items c.push.new.self.items (c.args.x ∷ []) c.self.inside.ends.items c.self.invariant c.in_ok-push.ensures.items

pub returns-clause-lists : goal.returns-clause-lists
returns-clause-lists g c =
    ap (λ (w : Written g.row.T.Denot). w.lists) (written_more c.self.inside.items.items c.push.new.self.items (c.args.x ∷ []) c.self.inside.ends.items _ c.self.view_is c.self.invariant c.in_ok-push.ensures.items)

pub returns-clause-rest : goal.returns-clause-rest
returns-clause-rest g c =
    ap (λ (w : Written g.row.T.Denot). w.rest) (written_more c.self.inside.items.items c.push.new.self.items (c.args.x ∷ []) c.self.inside.ends.items _ c.self.view_is c.self.invariant c.in_ok-push.ensures.items)
