-- A parent of row k is a step below it; the path of row k is its parent's and its own pair.
use Rattle.std.proofs.Common.{arith}
use Rattle.nogood_book.proofs.Walking.{no_row, parent_in, path_with, path_without}
use Rattle.nogood_book.proofs.path.+push_path.Goals as goal
use Rattle.nogood_book.proofs.path.+push_path.Goals.{in-Some+in_ok-push_path, in_default}

pub push_path-requires : goal.push_path-requires
push_path-requires t c =
    let p = parent_in c.args.q.now c.args.rows.now c.args.k c.in-Some.parent no_row c.requires.sound c.requires.inside c.in-Some.is in
    (omega (arith, p.0, c.decreases), (c.requires.sound, p.1))

pub returns : goal.returns
returns t c = elim c.match-row.branch [
  | in-Some+in_ok-push_path w ↦ path_with c.args.q.now c.args.rows.now c.args.k w.in-Some.parent no_row c.args.into.now.items w.push_path.new.into.items c.push.new.self.items c.requires.sound c.requires.inside w.in-Some.is w.in_ok-push_path.ensures (cc c.in_ok-push.ensures.ok)
  | in_default w ↦ path_without c.args.q.now c.args.rows.now c.args.k no_row c.args.into.now.items c.push.new.self.items c.requires.sound c.requires.inside w.in_default.not-Some (cc c.in_ok-push.ensures.ok)
]
