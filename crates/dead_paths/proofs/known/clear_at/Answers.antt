use Rattle.std.proofs.Common.{◌≡◌, ◌∷◌, [], ℕ, List, length, length-append, ap, arith}
use Rattle.dead_paths.specs.Choosing.{no_value}
use Rattle.dead_paths.proofs.HeldPairs.{none_at, none_more}
use Rattle.dead_paths.proofs.known.clear_at.Goals as goal

pub loop-init : goal.loop-init
loop-init c =
    let none : length c.clear.new.self.items ≡ 0 = ap (λ (xs : List ℕ). length xs) c.clear.ensures.items in
    record { long = none; none = λ p below. absurd (omega (arith, below, none)) }

pub loop-preserved : goal.loop-preserved
loop-preserved c = record {
  long = (
      let e = ap (λ (xs : List ℕ). length xs) c.in_ok-push.ensures.items in
      let f = length-append c.loop.at.items (no_value ∷ []) in
      let g = c.loop.invariant.long in
      omega (arith, e, f, g));
  none = none_more c.loop.at.items c.push.new.self.items c.in_ok-push.ensures.items c.loop.invariant.none;
}

pub returns-clause-none : goal.returns-clause-none
returns-clause-none c = none_at c.loop.at.items c.loop.invariant.none
