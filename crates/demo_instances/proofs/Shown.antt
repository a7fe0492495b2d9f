-- A planted pattern embeds, and a cycle of five has no image in a graph with two sides.

use Rattle.std.proofs.Common.{◌≡◌, ℕ, ◌+◌, ◌%◌, ◌<◌, Bool, true, false, not, ◌||◌, ◌&&◌, nat_lt, List, get_or, Option, Some, None, is_some, refl, sym, ap, subst, ◌∙◌, arith}
use Rattle.std.proofs.lemmas.Grind.{common_steps}
use Rattle.graph_theory.specs.Graph.{size, edge}
use Rattle.graph_theory.specs.Embedding.{InOrder, KeepsEdge, Matches}
use Rattle.graph_rows.specs.Held.{edge_of_mark}
use Rattle.demo_instances.specs.SeedProblems.{chosen, next_pair, planted_pair}
use Rattle.demo_instances.specs.Shapes.{NoFiveCycle, PartEmbeds}
use Rattle.demo_instances.specs.Claims.{PlantedEmbeds, CycleHasNone}
use Rattle.demo_instances.proofs.Exchanges.{chosen-many, chosen-values, chosen-distinct}

keeps_self : (e : Option ℕ) → KeepsEdge e e
keeps_self None = tt
keeps_self (Some l) = refl

matches_self : (induced : Bool) (e : Option ℕ) → Matches induced e e
matches_self true e = (keeps_self e, keeps_self e)
matches_self false e = keeps_self e

pub part_embeds : PartEmbeds
part_embeds m q h = record {
  size_is = h.size_is;
  values = h.values;
  distinct = λ p r p_in r_in _. h.distinct p r p_in r_in;
  labels = h.labels;
  edges = λ p r p_in r_in. subst (λ (e : Option ℕ). Matches q.induced (edge q.pattern p r) e) (h.edges p r p_in r_in) (matches_self q.induced (edge q.pattern p r));
  order = h.order;
}

-- a kept edge of label 0 is there
kept : (induced : Bool) (e f : Option ℕ) → e ≡ edge_of_mark true → Matches induced e f → is_some f ≡ true
kept true None f h m = cc
kept true (Some l) f h m = ap is_some m.0
kept false None f h m = cc
kept false (Some l) f h m = ap is_some m

five : (s t u v w : Bool) → t ≡ not s → u ≡ not t → v ≡ not u → w ≡ not v → s ≡ not w → ⊥
five true t u v w a b c d e = grind (arith, common_steps, a, b, c, d, e)
five false t u v w a b c d e = grind (arith, common_steps, a, b, c, d, e)

pub no_five_cycle : NoFiveCycle
no_five_cycle side q cycle sides m embeds =
    five (at 0) (at 1) (at 2) (at 3) (at 4) (step 0 (omega arith)) (step 1 (omega arith)) (step 2 (omega arith)) (step 3 (omega arith)) (step 4 (omega arith))
  where
    at : ℕ → Bool
    at p = side (get_or m p 0)

    inside : (p : ℕ) → p < 5 → p < size q.pattern
    inside p p_in = subst (λ (n : ℕ). p < n) (sym cycle.size_is) p_in

    step : (p : ℕ) → p < 5 → at ((p + 1) % 5) ≡ not (at p)
    step p p_in =
        let r : (p + 1) % 5 < 5 = omega arith in
        sides.each (get_or m p 0) (get_or m ((p + 1) % 5) 0) (embeds.values p (inside p p_in)) (embeds.values ((p + 1) % 5) (inside ((p + 1) % 5) r))
        (kept q.induced (edge q.pattern p ((p + 1) % 5)) (edge q.target (get_or m p 0) (get_or m ((p + 1) % 5) 0)) (cycle.around p p_in)
        (embeds.edges p ((p + 1) % 5) (inside p p_in) (inside ((p + 1) % 5) r)))

-- an edge of the pattern is that of the target
marked : (e : Option ℕ) (s t : Bool) → e ≡ edge_of_mark (s || t) → edge_of_mark (is_some e) ≡ e
marked e true t h = ap (λ (x : Option ℕ). edge_of_mark (is_some x)) h ∙ sym h
marked e false true h = ap (λ (x : Option ℕ). edge_of_mark (is_some x)) h ∙ sym h
marked e false false h = ap (λ (x : Option ℕ). edge_of_mark (is_some x)) h ∙ sym h

either : (x y : Option ℕ) → x ≡ y → edge_of_mark (is_some x || is_some y) ≡ edge_of_mark (is_some x)
either None y h = ap (λ (z : Option ℕ). edge_of_mark (is_some z)) (sym h)
either (Some l) y h = refl

or_swap : (s t : Bool) → (s || t) ≡ (t || s)
or_swap true true = refl
or_swap true false = refl
or_swap false true = refl
or_swap false false = refl

pub planted_embeds : PlantedEmbeds
planted_embeds seed q h = part_embeds (chosen seed) q record {
  size_is = chosen-many seed ∙ sym h.pattern.size_is;
  values = λ p p_in. subst (λ (n : ℕ). get_or (chosen seed) p 0 < n) (sym h.target.size_is) (chosen-values seed p (small p p_in));
  distinct = λ p r p_in r_in e. chosen-distinct seed p r (small p p_in) (small r r_in) e;
  labels = λ p p_in. h.target.labels _ (chosen-values seed p (small p p_in)) ∙ sym (h.pattern.labels p (small p p_in));
  edges = λ p r p_in r_in. same p r (small p p_in) (small r r_in);
  order = subst (λ (xs : List (ℕ × ℕ)). InOrder xs (chosen seed)) (sym h.free) tt;
}
  where
    small : (p : ℕ) → p < size q.pattern → p < 10
    small p p_in = subst (λ (n : ℕ). p < n) h.pattern.size_is p_in

    here : (p r : ℕ) → p < 10 → r < 10 → edge q.target (get_or (chosen seed) p 0) (get_or (chosen seed) r 0)
        ≡ edge_of_mark (planted_pair seed (get_or (chosen seed) p 0) (get_or (chosen seed) r 0) || planted_pair seed (get_or (chosen seed) r 0) (get_or (chosen seed) p 0))
    here p r p_in r_in = h.target.edges _ _ (chosen-values seed p p_in) (chosen-values seed r r_in)

    back : (p r : ℕ) → p < 10 → r < 10 → edge q.target (get_or (chosen seed) p 0) (get_or (chosen seed) r 0) ≡ edge q.target (get_or (chosen seed) r 0) (get_or (chosen seed) p 0)
    back p r p_in r_in = here p r p_in r_in ∙ ap edge_of_mark (or_swap (planted_pair seed (get_or (chosen seed) p 0) (get_or (chosen seed) r 0)) (planted_pair seed (get_or (chosen seed) r 0) (get_or (chosen seed) p 0))) ∙ sym (here r p r_in p_in)

    same : (p r : ℕ) → p < 10 → r < 10 → edge q.pattern p r ≡ edge q.target (get_or (chosen seed) p 0) (get_or (chosen seed) r 0)
    same p r p_in r_in =
        let t = get_or (chosen seed) p 0 in
        let u = get_or (chosen seed) r 0 in
        h.pattern.edges p r p_in r_in
        ∙ either (edge q.target t u) (edge q.target u t) (back p r p_in r_in)
        ∙ marked (edge q.target t u) (planted_pair seed t u) (planted_pair seed u t) (here p r p_in r_in)

-- an edge of the target goes from one side to the other
crosses : (s t : Bool) (x y : Bool) → is_some (edge_of_mark ((s && (not t && x)) || (t && (not s && y)))) ≡ true → t ≡ not s
crosses true true x y h = cc
crosses true false x y h = refl
crosses false true x y h = refl
crosses false false x y h = cc

pub cycle_has_none : CycleHasNone
cycle_has_none seed q h = no_five_cycle (λ a. nat_lt a 30) q
    record { size_is = h.pattern.size_is; around = λ a a_in. h.pattern.edges a ((a + 1) % 5) a_in (omega arith) ∙ ap (λ (t : Bool). edge_of_mark (t || next_pair ((a + 1) % 5) a)) (next a) }
    record { each = λ a b a_in b_in is. crosses (nat_lt a 30) (nat_lt b 30) _ _ (sym (ap is_some (h.target.edges a b (subst (λ (n : ℕ). a < n) h.target.size_is a_in) (subst (λ (n : ℕ). b < n) h.target.size_is b_in))) ∙ is) }
  where
    next : (a : ℕ) → next_pair a ((a + 1) % 5) ≡ true
    next a = grind (arith, common_steps)
