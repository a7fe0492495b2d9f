use Rattle.std.proofs.Common.{◌≤◌, length, get_or, set, arith}
use Rattle.std.proofs.lemmas.List.{length-set}
use Rattle.nogood_watch.specs.Lists.{moved}
use Rattle.nogood_watch.proofs.Chains.{chained_same, moved_at, moved_twice}
use Rattle.nogood_watch.proofs.Unlinking.{unlinked}
use Rattle.nogood_watch.proofs.lists.relink.Goals as goal

pub returns-clause-chained : goal.returns-clause-chained
returns-clause-chained c = λ home h there.
    let n = length c.args.heads.now in
    let x = c.args.x in
    let away = unlinked home c.args.heads.now c.args.next.now c.args.from x h c.requires.from_in c.requires.x_in there c.requires.first in
    let out : length (set c.args.heads.now c.args.from (get_or c.args.next.now x 0)) ≤ moved home x n x = omega (arith, moved_at home x n, length-set c.args.heads.now c.args.from (get_or c.args.next.now x 0)) in
    chained_same (moved (moved home x n) x c.args.to) (moved home x c.args.to) c.link.new.heads c.link.new.next
    (c.link.ensures.chained (moved home x n) away out) (λ y l. moved_twice home x n c.args.to y)
