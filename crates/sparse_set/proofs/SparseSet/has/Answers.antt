use Rattle.std.proofs.Common.{◌<◌, length}
use Rattle.sparse_set.proofs.Places.{member_read}
use Rattle.sparse_set.proofs.SparseSet.has.Goals as goal

pub returns : goal.returns
returns c =
    let f = c.self.inside in
    let p_in : c.args.p < length f.items.items = rw (← c.self.view_is) at c.requires in
    rw (← c.self.view_is)
    (member_read f.items.items f.places.items f.gone c.args.p c.from.result c.index.result.now c.from-2.result c.self.invariant p_in c.from.ensures c.index.ensures c.from-2.ensures)
