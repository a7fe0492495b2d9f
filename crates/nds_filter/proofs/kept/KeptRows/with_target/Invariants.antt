use Rattle.std.proofs.Common.{◌≡◌, [], length}
use Rattle.nds_filter.specs.Kept.{AreFirsts, AreKept}
use Rattle.nds_filter.proofs.kept.KeptRows.with_target.Given as goal

abbrev pub invariant-loop-p : goal.invariant-loop-p
invariant-loop-p l = record {
  firsts : AreFirsts l.turned l.firsts.items l.rows.lists;
  kept : AreKept l.turned l.classes.items l.rows.lists l.p;
  begun : l.rows.rest ≡ [];
  long : length l.row.items ≡ length l.initial.row.items;
}
