use Rattle.std.proofs.Common.{◌≡◌, ◌+◌, ◌*◌, ◌<◌, ℕ, ◌∙◌, ap, refl, subst, arith, ◌++◌, ◌∷◌, []}
use Rattle.graph_theory.specs.Graph.{size}
use Rattle.pair_supports.specs.Kinds.{AreKinds}
use Rattle.pair_supports.proofs.Classes.{kinds_more}
use Rattle.pair_supports.proofs.kinds.classify_from.Goals as goal

pub loop-r-preserved : goal.loop-r-preserved
loop-r-preserved c =
    let n_is : c.size-r-end.result ≡ size c.args.q.now.pattern = c.size-r-end.ensures.size ∙ ap size c.pattern.ensures.pattern in
    let r_in : c.loop-r.r < size c.args.q.now.pattern = omega arith in
    let next : c.args.p * size c.args.q.now.pattern + c.loop-r.r + 1 ≡ c.args.p * size c.args.q.now.pattern + (c.loop-r.r + 1) = omega arith in
    record {
      kinds = rw c.in_ok-push.ensures.items (subst (λ (n : ℕ). AreKinds c.args.q.now c.place_for.new.kinds.items (c.loop-r.places.items ++ c.in_ok-place.place ∷ []) n) next
          (kinds_more c.args.q.now c.loop-r.kinds.items c.place_for.new.kinds.items c.loop-r.places.items c.args.p c.loop-r.r c.in_ok-place.place
          (c.args.p * size c.args.q.now.pattern + c.loop-r.r) c.loop-r.invariant.kinds refl r_in c.in_ok-place.ensures.stay c.in_ok-place.ensures.more c.in_ok-place.ensures.found));
      guesses = c.place_for.auto.guesses ∙ c.loop-r.invariant.guesses;
    }
