use Rattle.std.proofs.Common.{◌≡◌, ℕ, [], refl, ◌∙◌, sym, ap, arith}
use Rattle.nogood_watch.specs.Nogoods.{literal}
use Rattle.dead_paths.proofs.HeldPairs.{literal_at, at_known, at_again}
use Rattle.dead_paths.proofs.known.put_all.Goals as goal

pub loop-x-init : goal.loop-x-init
loop-x-init c = at_known c.args.at.now [] c.args.path.now (λ x none. absurd none) c.requires.none

pub bounds-at-from : goal.bounds-at-from
bounds-at-from c =
    let h = c.requires.vertices c.loop-x.x-index c.loop-x-test.true in
    let e : (literal c.args.path.now c.loop-x.x-index).0 ≡ c.from.result = ap (λ (x : ℕ × ℕ). x.0) (literal_at c.args.path.now c.loop-x.x-index _ c.loop-x-test.true) ∙ sym c.from.ensures in
    omega (arith, h, e, c.loop-x.auto.at)

pub loop-x-preserved : goal.loop-x-preserved
loop-x-preserved c =
    let h = c.requires.vertices c.loop-x.x-index c.loop-x-test.true in
    let e : (literal c.args.path.now c.loop-x.x-index).0 ≡ c.from.result = ap (λ (x : ℕ × ℕ). x.0) (literal_at c.args.path.now c.loop-x.x-index _ c.loop-x-test.true) ∙ sym c.from.ensures in
    at_again c.loop-x.at c.args.path.now c.loop-x.x-index _ c.from.result _ c.loop-x-test.true (literal_at c.args.path.now c.loop-x.x-index _ c.loop-x-test.true) c.from.ensures refl (omega (arith, h, e, c.loop-x.auto.at)) c.loop-x.invariant
