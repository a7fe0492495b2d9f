use borrow.Author.Count.{below_more}
use Rattle.std.proofs.Common.{◌≡◌, ℕ, ◌<◌, refl, ap, subst, ◌∙◌, arith}
use Rattle.std.proofs.lemmas.Bool.{false≢true}
use Rattle.graph_theory.specs.Graph.{size}
use Rattle.graph_theory.specs.Embedding.{Problem}
use Rattle.graph_rows.specs.Fitting.{Fits}
use Rattle.graph_rows.proofs.Pairing.{fits_pairwise, pairwise_fits}
use Rattle.graph_rows.proofs.problem.Problem.is_embedding.Goals as goal

pub loop-p-preserved : goal.loop-p-preserved
loop-p-preserved c = below_more (λ (k : ℕ). Fits c.args.self.now c.args.map.now k) c.loop-p.p c.loop-p.invariant (c.if-not-fits.ensures.0 refl)

pub returns-then-not-fits : goal.returns-then-not-fits
returns-then-not-fits c =
    let n_is : c.size-p-end.result ≡ size c.args.self.now.pattern = c.size-p-end.ensures.size ∙ ap (λ (q : Problem). size q.pattern) c.self.view_is in (
      λ yes. absurd (false≢true yes),
      λ embeds. c.if-not-fits.ensures.1 (pairwise_fits c.args.self.now c.args.map.now c.loop-p.p ((c.embeds_by_pairs.ensures c.args.self.now c.args.map.now).0 embeds) (subst (λ (n : ℕ). c.loop-p.p < n) n_is c.loop-p-test.true)),
    )

pub returns : goal.returns
returns c =
    let n_is : c.size-p-end.result ≡ size c.args.self.now.pattern = c.size-p-end.ensures.size ∙ ap (λ (q : Problem). size q.pattern) c.self.view_is in
    let all : c.loop-p.p ≡ c.size-p-end.result = omega (arith, c.loop-p.auto.p-end, c.loop-p-test.false) in
    let long = c.if-map-from.false ∙ c.from.ensures ∙ c.size.ensures.size ∙ ap (λ (q : Problem). size q.pattern) c.self.view_is in (
      λ _. (c.embeds_by_pairs.ensures c.args.self.now c.args.map.now).1 (fits_pairwise c.args.self.now c.args.map.now long (c.if-not-is_in_order.ensures.0 refl) (subst (λ (n : ℕ). (k : ℕ) → k < n → Fits c.args.self.now c.args.map.now k) (all ∙ n_is) c.loop-p.invariant)),
      λ _. refl,
    )
