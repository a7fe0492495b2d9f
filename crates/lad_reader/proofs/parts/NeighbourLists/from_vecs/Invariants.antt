use Rattle.std.proofs.Common.{◌≡◌, ◌≤◌, [], length, map, take}
use Rattle.lad_reader.proofs.parts.NeighbourLists.from_vecs.Given as goal

abbrev pub invariant-loop-i : goal.invariant-loop-i
invariant-loop-i l = record {
  within : l.i ≤ length l.vecs;
  lists : l.lists.lists ≡ map (λ bs. bs.items) (take l.i l.vecs);
  begun : l.lists.rest ≡ [];
}
