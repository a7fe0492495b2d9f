use Rattle.std.proofs.Common.{ap, length, sym, ◌∙◌, arith}
use Rattle.packed_lists.proofs.Packing.{written_long}
use Rattle.packed_lists.proofs.PackedLists.len.Goals as goal

pub returns : goal.returns
returns g c = omega (arith, written_long c.self.inside.items.items c.self.inside.ends.items _ c.self.view_is, c.len.ensures)
