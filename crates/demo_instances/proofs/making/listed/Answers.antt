use Rattle.std.proofs.Common.{◌∙◌, sym, ap, Vec, ℕ, Global}
use Rattle.demo_instances.proofs.Lists.{those-more, those-same}
use Rattle.demo_instances.specs.Listing.{ListsThose}
use Rattle.std.proofs.Common.{subst, ◌+◌}
use Rattle.demo_instances.proofs.making.listed.Goals as goal
use Rattle.demo_instances.proofs.making.listed.Goals.{then-has+in_ok-push, else-has}

pub loop-b-preserved : goal.loop-b-preserved
loop-b-preserved g c =
    let n = c.args.size in
    let b = c.loop-b.b in
    let test = g.P.Pairs.pair c.args.pairs.now c.args.a in
    elim c.if-has.branch [
      | then-has+in_ok-push w ↦ those-more n b test c.loop-b.list.items c.if-has.list.items c.loop-b-test.true (sym c.has.ensures ∙ w.if-has.true)
          (ap (λ (v : Vec ℕ Global). v.items) w.list-is ∙ w.in_ok-push.ensures.items) c.loop-b.invariant
      | else-has w ↦ subst (λ (v : Vec ℕ Global). ListsThose n (b + 1) test v.items) (sym w.list-is) (those-same n b test c.loop-b.list.items (sym c.has.ensures ∙ w.if-has.false) c.loop-b.invariant)
    ]
