use Rattle.std.proofs.Common.{◌≡◌, ◌<◌, ◌≤◌, ◌-◌, ◌*◌, ◌/◌, ◌%◌, ℕ, List, get_or, subst, arith}
use Rattle.graph_theory.specs.Graph.{size}
use Rattle.graph_rows.specs.Orders.{IsOrder}
use Rattle.pb_encoding.proofs.LineForms.{LessAt, less_at_place, from_form, to_form}
use Rattle.pb_encoding.proofs.line.less_line.Goals as goal

pub returns-then-rest-targets-clause-form : goal.returns-then-rest-targets-clause-form
returns-then-rest-targets-clause-form c =
    let q = c.args.q.now in
    let u : c.from-targets.result ≡ size q.target = cc in
    let order : IsOrder (size q.pattern) q.less = subst (λ (xs : List (ℕ × ℕ)). IsOrder (size q.pattern) xs) c.less-less.ensures.pairs c.less-less.ensures.order in
    let at : LessAt q c.less-less.result.now c.args.place (size q.target) = less_at_place q c.less-less.result.now c.args.place (size q.target) c.less-less.ensures.pairs c.requires.inside in
    let low : c.args.place % (2 * size q.target) < size q.target = subst (λ (w : ℕ). c.args.place % (2 * w) < w) u c.if-rest-targets.true in
    rw u (from_form q (c.args.place / (2 * size q.target)) (c.args.place % (2 * size q.target)) c.args.place (get_or c.less-less.result.now (c.args.place / (2 * size q.target)) (0, 0)) order at.below at.pair low at.whole)

pub returns-else-rest-targets-clause-form : goal.returns-else-rest-targets-clause-form
returns-else-rest-targets-clause-form c =
    let q = c.args.q.now in
    let u : c.from-targets.result ≡ size q.target = cc in
    let order : IsOrder (size q.pattern) q.less = subst (λ (xs : List (ℕ × ℕ)). IsOrder (size q.pattern) xs) c.less-less.ensures.pairs c.less-less.ensures.order in
    let at : LessAt q c.less-less.result.now c.args.place (size q.target) = less_at_place q c.less-less.result.now c.args.place (size q.target) c.less-less.ensures.pairs c.requires.inside in
    let high : size q.target ≤ c.args.place % (2 * size q.target) = subst (λ (w : ℕ). w ≤ c.args.place % (2 * w)) u c.if-rest-targets.false in
    rw u (to_form q (c.args.place / (2 * size q.target)) (c.args.place % (2 * size q.target) - size q.target) c.args.place (get_or c.less-less.result.now (c.args.place / (2 * size q.target)) (0, 0)) order at.below at.pair
    (omega (arith, at.rest, high)) (omega (arith, at.whole, high)))
