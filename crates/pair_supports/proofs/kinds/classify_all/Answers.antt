use Rattle.std.proofs.Common.{◌≡◌, ℕ, ◌*◌, ◌<◌, ap, subst, ◌∙◌, arith}
use Rattle.graph_theory.specs.Graph.{size}
use Rattle.pair_supports.specs.Kinds.{AreKinds}
use Rattle.pair_supports.proofs.kinds.classify_all.Goals as goal

pub classify_from-requires-clause-p_in : goal.classify_from-requires-clause-p_in
classify_from-requires-clause-p_in c =
    let n_is : c.size-p-end.result ≡ size c.args.q.now.pattern = c.size-p-end.ensures.size ∙ ap size c.pattern.ensures.pattern in
    subst (λ (n : ℕ). c.loop-p.p < n) n_is c.loop-p-test.true

pub loop-p-preserved : goal.loop-p-preserved
loop-p-preserved c = record { kinds = c.in_ok-classify_from.ensures; guesses = c.classify_from.auto.guesses ∙ c.loop-p.invariant.guesses }

pub returns : goal.returns
returns c =
    let n_is : c.size-p-end.result ≡ size c.args.q.now.pattern = c.size-p-end.ensures.size ∙ ap size c.pattern.ensures.pattern in
    let all : c.loop-p.p ≡ c.size-p-end.result = omega (arith, c.loop-p.auto.p-end, c.loop-p-test.false) in
    subst (λ (n : ℕ). AreKinds c.args.q.now c.loop-p.kinds.items c.loop-p.places.items (n * size c.args.q.now.pattern)) (all ∙ n_is) c.loop-p.invariant.kinds
