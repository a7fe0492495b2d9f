use Rattle.std.proofs.Common.{ℕ, length, refl, sym, ap, ◌∙◌, subst, arith}
use Rattle.all_different.specs.Prefixes.{in_union}
use Rattle.all_different.specs.Steps.{Meets}
use Rattle.all_different.proofs.Scanning.{meets_tight, none_short}
use Rattle.all_different.proofs.Showing.{begins_ordered, last_place}
use Rattle.all_different.proofs.OneLook.{none_tight_looked, none_meets}
use Rattle.all_different.proofs.finding.find_ordered.Goals as goal

pub later_meets-requires-clause-union : goal.later_meets-requires-clause-union
later_meets-requires-clause-union g c t =
    let d = g.F.Family.state c.args.d.now in
    let place = last_place d c.args.order.now c.in-Clear.last c.requires.ordered c.in-Clear.ensures.0.last_in c.if-last-eq0.false in
    c.in-Clear.ensures.1 (omega (arith, c.if-last-eq0.false)) t ∙ ap (λ (n : ℕ). in_union d n t) (sym place)

pub returns-then-last-eq0 : goal.returns-then-last-eq0
returns-then-last-eq0 g c =
    let d = g.F.Family.state c.args.d.now in
    let order = c.args.order.now in
    record {
      not_short = none_short d (length order) c.requires.ordered.rest c.in-Clear.ensures.0.not_short;
      not_tight = none_tight_looked d order c.in-Clear.last c.in-Clear.ensures.0 c.requires.ordered (none_meets d c.in-Clear.last c.if-last-eq0.true);
    }

pub returns-then-not-later_meets : goal.returns-then-not-later_meets
returns-then-not-later_meets g c =
    let d = g.F.Family.state c.args.d.now in
    let order = c.args.order.now in
    let place = last_place d order c.in-Clear.last c.requires.ordered c.in-Clear.ensures.0.last_in c.if-last-eq0.false in
    record {
      not_short = none_short d (length order) c.requires.ordered.rest c.in-Clear.ensures.0.not_short;
      not_tight = none_tight_looked d order c.in-Clear.last c.in-Clear.ensures.0 c.requires.ordered
          (λ m. c.if-not-later_meets.ensures.none refl (subst (λ (n : ℕ). Meets d n) (sym place) m));
    }

pub find_tight-requires-clause-some : goal.find_tight-requires-clause-some
find_tight-requires-clause-some g c =
    let d = g.F.Family.state c.args.d.now in
    let s = c.in-Clear.ensures.0 in
    let place = last_place d c.args.order.now c.in-Clear.last c.requires.ordered s.last_in c.if-last-eq0.false in
    record {
      set = c.in-Clear.last;
      within = s.last_in;
      tight = meets_tight d c.in-Clear.last (omega (arith, s.last_in, c.requires.ordered.few)) s.last_full
          (subst (λ (n : ℕ). Meets d n) place (c.if-not-later_meets.ensures.found refl));
    }

pub returns-in-Some : goal.returns-in-Some
returns-in-Some g c =
    let h = c.in-Some.ensures in
    (h.some, begins_ordered (g.F.Family.state c.args.d.now) c.args.order.now c.in-Some.n c.requires.ordered h.within)

pub returns-in-Short : goal.returns-in-Short
returns-in-Short g c =
    let h = c.in-Short.ensures in
    (h.0, begins_ordered (g.F.Family.state c.args.d.now) c.args.order.now c.in-Short.n c.requires.ordered h.1)

pub returns-else-not-later_meets : goal.returns-else-not-later_meets
returns-else-not-later_meets g c =
    let d = g.F.Family.state c.args.d.now in
    let found = c.find_tight.ensures in (
      none_short d (length c.args.order.now) c.requires.ordered.rest c.in-Clear.ensures.0.not_short,
      found.first,
      begins_ordered d c.args.order.now c.find_tight.result c.requires.ordered found.within,
      found.union,
    )

pub returns-in_default : goal.returns-in_default
returns-in_default g c =
    let d = g.F.Family.state c.args.d.now in
    let found = c.find_tight-in-Met.ensures in (
      c.in_default.ensures.none,
      found.first,
      begins_ordered d c.args.order.now c.find_tight-in-Met.result c.requires.ordered found.within,
      found.union,
    )
