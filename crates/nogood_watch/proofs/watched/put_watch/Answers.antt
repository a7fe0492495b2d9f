use Rattle.std.proofs.Common.{◌≡◌, ◌≤◌, length, sym, ap, ◌∙◌, subst, arith}
use Rattle.nogood_watch.specs.Lists.{Chained, moved}
use Rattle.nogood_watch.specs.Inside.{cell}
use Rattle.nogood_watch.proofs.Chains.{put}
use Rattle.nogood_watch.proofs.Adding.{written_back}
use Rattle.nogood_watch.proofs.watched.put_watch.Goals as goal

pub returns-clause-chained : goal.returns-clause-chained
returns-clause-chained c = λ home h.
    let v = c.push_reserved-2.new.self in
    let heads = c.args.heads.now in
    let next = c.args.next.now.items in
    let to = c.cell_of.result in
    let back = written_back v.len v.items c.link.new.next (omega (arith, v.ok)) (c.link.ensures.next_long ∙ ap length c.deref_mut.ensures.value) in
    let x : c.len-x.result ≡ length next = omega (arith, c.len-x.ensures, c.args.next.now.ok) in
    rw back (put home heads c.link.new.heads next c.deref_mut.result.now c.link.new.next 4294967295 (cell c.args.values c.args.literal) h c.requires.few (c.deref_mut.ensures.value ∙ c.push_reserved-2.ensures.items)
    (λ home' h' out. subst (λ k. Chained (moved home' (length next) k) c.link.new.heads c.link.new.next) c.cell_of.ensures
    (subst (λ k. Chained (moved home' k to) c.link.new.heads c.link.new.next) x
    (c.link.ensures.chained home' h' (subst (λ k. length heads ≤ home' k) (sym x) out)))))
