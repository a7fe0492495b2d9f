use Rattle.std.proofs.Common.{rules, ◌≡◌, ℤ, pos, int_lt, to_z, of_z, FitsSigned, ap, sym, ◌∙◌}
use Rattle.std.specs.Int.{w64}
use Rattle.std.proofs.lemmas.Int.{to_z-of_z}
use Rattle.proof_theory.specs.Slack.{slack}
use Rattle.pb_propagation.specs.Levels.{now}
use Rattle.pb_propagation.proofs.Led.{led_conflict}
use Rattle.pb_propagation.proofs.short_following.follow_short.Goals as goal

pub returns-then-excess-lt0-clause-comes : goal.returns-then-excess-lt0-clause-comes
returns-then-excess-lt0-clause-comes c s fs i d =
    let f : FitsSigned w64 c.excess_of-excess.result = search rules in
    let e : to_z w64 (of_z w64 c.excess_of-excess.result) ≡ slack (now c.args.set.now) c.args.next.now = to_z-of_z w64 c.excess_of-excess.result f ∙ c.excess_of-excess.ensures in
    led_conflict s fs (now c.args.set.now) c.args.next.now i (ap (λ (z : ℤ). int_lt z (pos 0)) (sym e) ∙ c.if-excess-lt0.true) d
