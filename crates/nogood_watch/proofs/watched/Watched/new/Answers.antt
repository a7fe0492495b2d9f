use Rattle.std.proofs.Common.{◌+◌, ◌*◌, length, get_or, ap, ◌∙◌, arith, refl}
use Rattle.std.proofs.lemmas.List.{length-replicate, get_or-replicate}
use Rattle.nogood_watch.proofs.Adding.{kept_empty}
use Rattle.nogood_watch.proofs.watched.Watched.new.Goals as goal

pub invariant_of-result : goal.invariant_of-result
invariant_of-result c =
    let items = c.in_ok-heads.ensures.items_if_clones_equal (λ y e. e) in
    let long = ap length items ∙ length-replicate (c.from.result * c.from-2.result + 1) 4294967295 in
    rw (c.new.ensures.items, c.new-2.ensures.items, c.new-3.ensures.items, c.new-4.ensures.items, c.new-5.ensures.items)
    (kept_empty c.args.vertices c.args.values c.in_ok-heads.heads.items _ (long ∙ rw (c.from.ensures, c.from-2.ensures) refl)
    (λ k h. ap (λ xs. get_or xs k 0) items ∙ get_or-replicate (c.from.result * c.from-2.result + 1) k 4294967295 0 (omega (arith, h, long))))
