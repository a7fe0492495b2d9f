use Rattle.std.proofs.Common.{◌≡◌, ◌<◌, ◌+◌, ℕ, true, sym, subst, ◌∙◌, arith, inl, inr, ◌⊎◌}
use Rattle.graph_theory.specs.Graph.{size}
use Rattle.graph_theory.specs.Neighbours.{is_neighbour}
use Rattle.log_growth.proofs.Going.{goes_same, goes_then}
use Rattle.pair_lines.specs.Claims.{AreSpreads, HasEncoding}
use Rattle.pair_lines.proofs.Walking.{none_before}
use Rattle.pair_lines.proofs.Failing.{on_ok_failed}
use Rattle.std.specs.Prelude.{IsSome}
use Rattle.std.proofs.lemmas.Bool.{cases_order, true≢false}
use Rattle.graph_theory.specs.Embedding.{Problem}
use Rattle.pair_lines.specs.Choices.{Names, IsNext, entry_at, pair_key, pair_name}
use Rattle.journals.proofs.Rests.{rest_same, rest_then}
use Rattle.pair_lines.proofs.spreads.keep_around.Goals as goal

-- The names that stand before w, that of w, and none from there to the next.
there_more : (q : Problem) (old new : Names) (p r t w next : ℕ) → ((k : ℕ) → IsSome (entry_at old k) → IsSome (entry_at new k)) → IsSome (pair_name new p r w) → IsNext (is_neighbour q.target t) (w + 1) (size q.target) next
    → ((v : ℕ) → v < w → is_neighbour q.target t v ≡ true → IsSome (pair_name old p r v)) → (v : ℕ) → v < next → is_neighbour q.target t v ≡ true → IsSome (pair_name new p r v)
there_more q old new p r t w next stay here is before v low near = by (cases_order v w)
  where
    by : (v ≡ w) ⊎ ((v < w) ⊎ (w < v)) → IsSome (pair_name new p r v)
    by (inl same) = subst (λ (x : ℕ). IsSome (pair_name new p r x)) (sym same) here
    by (inr (inl less)) = stay (pair_key p r v) (before v less near)
    by (inr (inr more)) = absurd (true≢false (sym near ∙ is.none v (omega (arith, more)) low))

pub loop-w-init : goal.loop-w-init
loop-w-init g c = record {
  rest = rest_same;
  goes = λ f frame. goes_same f (g.K.Keeper.kept c.args.keeper.now) (AreSpreads f c.args.known.now c.args.spreads.now);
  there = λ v low near. absurd (none_before (is_neighbour c.args.known.now.target c.args.t) (size c.args.known.now.target) c.next_near-w.result v c.next_near-w.ensures low near);
  within = c.next_near-w.ensures.high;
}

pub loop-w-preserved : goal.loop-w-preserved
loop-w-preserved g c = record {
  rest = rest_then c.loop-w.invariant.rest c.keep_spread.ensures.rest;
  goes = λ f frame. goes_then f (g.K.Keeper.kept c.args.keeper.now) (g.K.Keeper.kept c.loop-w.keeper) (g.K.Keeper.kept c.keep_spread.new.keeper) (AreSpreads f c.args.known.now c.args.spreads.now) (AreSpreads f c.args.known.now c.loop-w.spreads) (AreSpreads f c.args.known.now c.keep_spread.new.spreads) (c.loop-w.invariant.goes f frame) (c.keep_spread.ensures.goes f (subst (λ (o : ℕ). HasEncoding c.args.known.now o f) (sym c.loop-w.invariant.rest.owner) frame));
  there = there_more c.args.known.now c.loop-w.spreads c.keep_spread.new.spreads c.args.pair.p c.args.pair.r c.args.t c.loop-w.w c.next_near-w-in-loop-w.result c.keep_spread.ensures.stay c.in_ok-keep_spread.ensures.there c.next_near-w-in-loop-w.ensures c.loop-w.invariant.there;
  within = c.next_near-w-in-loop-w.ensures.high;
}

pub returns-in_err-keep_spread-clause-rest : goal.returns-in_err-keep_spread-clause-rest
returns-in_err-keep_spread-clause-rest g c = rest_then c.loop-w.invariant.rest c.keep_spread.ensures.rest

pub returns-in_err-keep_spread-clause-goes : goal.returns-in_err-keep_spread-clause-goes
returns-in_err-keep_spread-clause-goes g c = λ f frame. goes_then f (g.K.Keeper.kept c.args.keeper.now) (g.K.Keeper.kept c.loop-w.keeper) (g.K.Keeper.kept c.keep_spread.new.keeper) (AreSpreads f c.args.known.now c.args.spreads.now) (AreSpreads f c.args.known.now c.loop-w.spreads) (AreSpreads f c.args.known.now c.keep_spread.new.spreads) (c.loop-w.invariant.goes f frame) (c.keep_spread.ensures.goes f (subst (λ (o : ℕ). HasEncoding c.args.known.now o f) (sym c.loop-w.invariant.rest.owner) frame))

pub returns-in_err-keep_spread-clause-there : goal.returns-in_err-keep_spread-clause-there
returns-in_err-keep_spread-clause-there g c = on_ok_failed c.from_residual.result _ _ c.from_residual.ensures.1

pub returns-clause-rest : goal.returns-clause-rest
returns-clause-rest g c = c.loop-w.invariant.rest

pub returns-clause-goes : goal.returns-clause-goes
returns-clause-goes g c = c.loop-w.invariant.goes

pub returns-clause-there : goal.returns-clause-there
returns-clause-there g c = λ v inside near. c.loop-w.invariant.there v (omega (arith, inside)) near

pub keep_spread-requires-clause-pair : goal.keep_spread-requires-clause-pair
keep_spread-requires-clause-pair g c = c.requires.pair

pub next_near-w-requires-in-loop-w-clause-t_in : goal.next_near-w-requires-in-loop-w-clause-t_in
next_near-w-requires-in-loop-w-clause-t_in g c = c.requires.t_in

pub next_near-w-requires-clause-t_in : goal.next_near-w-requires-clause-t_in
next_near-w-requires-clause-t_in g c = c.requires.t_in
