use Rattle.std.proofs.Common.{◌≡◌, length}
use Rattle.nogood_watch.specs.Lists.{Chained}
use Rattle.nogood_watch.specs.Inside.{home_of}
use Rattle.nogood_watch.proofs.Linking.{home_below}
use Rattle.nogood_watch.proofs.thinning.link_live.Given as goal

abbrev pub invariant-loop-x : goal.invariant-loop-x
invariant-loop-x l = record {
  chained : Chained (home_below l.x (home_of (length l.fn.heads) l.values l.live l.watches) (length l.fn.heads)) l.heads l.next;
  heads_long : length l.heads ≡ length l.fn.heads;
  next_long : length l.next ≡ length l.fn.next;
}
