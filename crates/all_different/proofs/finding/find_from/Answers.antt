use Rattle.std.proofs.Common.{ℕ, ◌+◌, sym, subst, arith}
use Rattle.all_different.specs.Steps.{Covers}
use Rattle.all_different.proofs.Placing.{past_few}
use Rattle.all_different.proofs.Scanning.{none_short, none_tight}
use Rattle.all_different.proofs.Showing.{finds_taken}
use Rattle.all_different.proofs.finding.find_from.Goals as goal

pub returns-then-few-from : goal.returns-then-few-from
returns-then-few-from g c =
    let d = g.F.Family.state c.args.d.now in
    let few = c.from-few.result in
    let ample = past_few d few (subst (λ (n : ℕ). Covers d (d.vertices + 1) n) (sym c.from-few.ensures) c.begin_sizes.ensures.few) in
    record {
      not_short = none_short d few ample (λ m l. c.requires.begun.not_short m (omega (arith, l, c.if-few-from.true)));
      not_tight = none_tight d few ample (λ m l. c.requires.begun.not_tight m (omega (arith, l, c.if-few-from.true)));
    }

pub returns : goal.returns
returns g c = finds_taken c.find_ordered.result (g.F.Family.state c.args.d.now) c.from-few.result c.place_vertices.new.order c.find_ordered.new.union c.place_vertices.ensures.within c.find_ordered.ensures
