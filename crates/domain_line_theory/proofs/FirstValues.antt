-- The line of a first domain: the sum of the clauses against the values that are not in it.
use Rattle.std.proofs.Common.{◌≡◌, ℕ, ◌<◌, ◌==◌, ◌^◌, Bool, true, false, cond, List, [], ◌∷◌, length, pos, negsuc, ◌≤ℤ◌, refl, sym, ap, ◌∙◌, arith, inl, inr, ◌⊎◌}
use Rattle.std.proofs.lemmas.Int.{ints}
use Rattle.std.proofs.lemmas.Bool.{eqb-true, or_cases}
use Rattle.graph_theory.specs.Graph.{size}
use Rattle.graph_theory.specs.Embedding.{Problem}
use Rattle.search_theory.specs.Consistency.{IsFirstValue}
use Rattle.proof_theory.specs.Forms.{Satisfies}
use Rattle.proof_theory.specs.Slack.{Setting}
use Rattle.proof_theory.proofs.Sorting.{value-sorted, Rises-sorted}
use Rattle.pb_terms.proofs.Ruled.{size-sorted}
use Rattle.log_theory.specs.Lookups.{is_among}
use Rattle.encoding_theory.specs.Variables.{variable}
use Rattle.encoding_theory.specs.Encoding.{refusal}
use Rattle.encoding_theory.proofs.FormMeanings.{refused_false}
use Rattle.forcing_theory.specs.Sums.{IsSmall, AreSmall, IsTight, AreTight}
use Rattle.forcing_theory.proofs.Summing.{sums}
use Rattle.explanation_theory.specs.Reasons.{ForcesFirst}
use Rattle.domain_line_theory.specs.Sums.{summed}
use Rattle.domain_line_theory.specs.Crowds.{refused_values}
use Rattle.domain_line_theory.specs.Laws.{FirstLaws}
use Rattle.domain_line_theory.proofs.Crowding.{sum_made}

refusal_small : (q : Problem) (p u : ℕ) → IsSmall (2 ^ 14) (refusal q p u)
refusal_small q p u = record {
  bound_fits = omega arith;
  sum_fits = let l = size-sorted ((variable q p u, negsuc 0) ∷ []) in omega (arith, l);
}

pub refusals_small : (q : Problem) (p : ℕ) (values : List ℕ) → AreSmall (2 ^ 14) (refused_values q p values)
refusals_small q p [] = tt
refusals_small q p (u ∷ us) = (refusal_small q p u, refusals_small q p us)

-- A clause of one negated variable never exceeds its bound.
refusal_tight : (q : Problem) (s : Setting) (p u : ℕ) → IsTight s (refusal q p u)
refusal_tight q s p u = record {
  rises = Rises-sorted ((variable q p u, negsuc 0) ∷ []);
  below = λ a follows. let e = value-sorted a ((variable q p u, negsuc 0) ∷ []) in let l = low (a (variable q p u)) in omega (arith, ints);
}
  where
    low : (b : Bool) → cond b (negsuc 0) (pos 0) ≤ℤ pos 0
    low true = omega (arith, ints)
    low false = omega (arith, ints)

refusals_tight : (q : Problem) (s : Setting) (p : ℕ) (values : List ℕ) → AreTight s (refused_values q p values)
refusals_tight q s p [] = tt
refusals_tight q s p (u ∷ us) = (refusal_tight q s p u, refusals_tight q s p us)

-- Where the clauses hold, each of the values is false.
value_false : (q : Problem) (a : ℕ → Bool) (p u : ℕ) (values : List ℕ) → Satisfies (refused_values q p values) a → is_among u values ≡ true → a (variable q p u) ≡ false
value_false q a p u [] all among = absurd cc
value_false q a p u (w ∷ ws) all among = by (value_false q a p u ws all.1) (or_cases (w == u) (is_among u ws) among)
  where
    off : (b : Bool) → a (variable q p w) ≡ b → a (variable q p w) ≡ false
    off true is = absurd (refused_false a (variable q p w) all.0 is)
    off false is = is

    by : (is_among u ws ≡ true → a (variable q p u) ≡ false) → ((w == u) ≡ true) ⊎ (is_among u ws ≡ true) → a (variable q p u) ≡ false
    by later (inl here) = ap (λ (v : ℕ). a (variable q p v)) (sym (eqb-true w u here)) ∙ off (a (variable q p w)) refl
    by later (inr there) = later there

pub forces_first : (q : Problem) (p : ℕ) (values : List ℕ) → ((u : ℕ) → u < size q.target → (IsFirstValue q p u → ⊥) → is_among u values ≡ true) → ForcesFirst q (summed (refused_values q p values)) p
forces_first q p [] all s u u_in other = let none : false ≡ true = all u u_in other in absurd cc
forces_first q p (w ∷ ws) all s u u_in other =
    sums.forces s (refusal q p w) (refused_values q p ws) (variable q p u) false (refusal_tight q s p w) (refusals_tight q s p ws)
    (λ a follows here rest. value_false q a p u (w ∷ ws) (here, rest) (all u u_in other))

pub first_laws : (q : Problem) → FirstLaws q
first_laws q = record {
  sum = λ look name refs p values short some found. sum_made look name refs (refused_values q p values) short (nonempty q p values some) (refusals_small q p values) found;
  forces = forces_first q;
}
  where
    nonempty : (q : Problem) (p : ℕ) (values : List ℕ) → 0 < length values → 0 < length (refused_values q p values)
    nonempty q p [] some = absurd (omega (arith, some))
    nonempty q p (u ∷ us) some = omega arith
