use Rattle.std.proofs.Common.{◌≡◌, ℕ, ◌*◌, ◌<◌, take, length}
use Rattle.graph_rows.specs.Held.{AreMarks, marked, said}
use Rattle.graph_rows.proofs.marks.mark_all_in.Given as goal

abbrev pub invariant-loop-a : goal.invariant-loop-a
invariant-loop-a l = record {
  marks : AreMarks (length l.degrees) l.width l.words l.degrees;
  said : (x y : ℕ) → x < 64 * l.width → y < 64 * l.width → marked l.words l.width x y ≡ said (take l.a l.neighbours) y x;
}
