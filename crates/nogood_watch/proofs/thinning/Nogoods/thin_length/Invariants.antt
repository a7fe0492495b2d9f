use Rattle.std.proofs.Common.{◌≡◌, length}
use Rattle.nogood_watch.specs.Covering.{AreCovered}
use Rattle.nogood_watch.specs.Inside.{nogoods_of}
use Rattle.nogood_watch.proofs.thinning.Nogoods.thin_length.Given as goal

abbrev pub invariant-loop-i : goal.invariant-loop-i
invariant-loop-i l = record {
  covered : AreCovered (nogoods_of l.self.literals.now l.self.entries.now) l.live;
  live_long : length l.live ≡ length l.fn.live;
  heads_long : length l.heads ≡ length l.fn.heads;
  next_long : length l.next ≡ length l.fn.next;
}
