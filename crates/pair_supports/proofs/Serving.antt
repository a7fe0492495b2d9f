-- Counts that are right, or that nobody asks for, serve all kinds.

use Rattle.std.proofs.Common.{◌≡◌, ◌↔◌, ℕ, ◌+◌, ◌<◌, ◌≤◌, Bool, true, false, ◌&&◌, ◌||◌, if◌then◌else◌, List, Some, length, get_or, refl, sym, ap, ◌∙◌, subst, arith, inl, inr, ◌⊎◌}
use Rattle.std.specs.Prelude.{slice_get}
use Rattle.std.proofs.lemmas.Bool.{cases_lt, false≢true}
use Rattle.std.proofs.lemmas.Option.{get_or_from_slice_get}
use Rattle.graph_theory.specs.Graph.{size}
use Rattle.graph_theory.specs.Embedding.{Problem}
use Rattle.graph_theory.specs.Neighbours.{common}
use Rattle.graph_theory.specs.Reversed.{reversed, IsMutual, MutualShared}
use Rattle.pair_supports.specs.declared.kinds.PairKind.{PairKind}
use Rattle.pair_supports.specs.Kinds.{ServeAll, AskAs}

-- one kind more asks for nothing
pub none_more : (f : PairKind → ℕ) (kinds : List PairKind) (i : ℕ) (kind : PairKind) → ((j : ℕ) (k : PairKind) → j < i → slice_get kinds j ≡ Some k → f k ≡ 0)
    → kind ≡ get_or kinds i kind → f kind ≡ 0 → (j : ℕ) (k : PairKind) → j < i + 1 → slice_get kinds j ≡ Some k → f k ≡ 0
none_more f kinds i kind before kind_is none j k j_in stands = by (cases_lt j i)
  where
    by : (j < i) ⊎ (i ≤ j) → f k ≡ 0
    by (inl less) = before j k less stands
    by (inr more) =
        let e : j ≡ i = omega arith in
        let there : slice_get kinds i ≡ Some k = subst (λ (n : ℕ). slice_get kinds n ≡ Some k) e stands in
        ap f (sym (kind_is ∙ get_or_from_slice_get kinds i k kind there)) ∙ none

-- a count that is right tells as much, and so does any where nothing is asked
tells : (least count exact : ℕ) → (least ≡ 0) ⊎ (count ≡ exact) → least ≤ count ↔ (least ≤ exact)
tells least count exact (inl none) = (λ _. omega (arith, none), λ _. omega (arith, none))
tells least count exact (inr same) = (λ le. omega (arith, le, same), λ le. omega (arith, le, same))

-- nothing is asked, or the count is right
asked_or : (asks : Bool) (least count exact : ℕ) → (asks ≡ false → least ≡ 0) → (asks ≡ true → count ≡ exact) → (least ≡ 0) ⊎ (count ≡ exact)
asked_or true least count exact none right = inr (right refl)
asked_or false least count exact none right = inl (none refl)

either_of : (a b : Bool) → b ≡ true → (a || b) ≡ true
either_of true b e = refl
either_of false b e = e

one_of : (a b : Bool) → a ≡ true → (a || b) ≡ true
one_of true b e = refl
one_of false b e = absurd (false≢true e)

-- one count serves for both directions where edges stand both ways
pub serve_mutual : (q : Problem) (kinds : List PairKind) (t : ℕ) (counts : List ℕ) (asks in_asks : Bool) → IsMutual q.target → MutualShared → AskAs kinds asks in_asks
    → t < size q.target → length counts ≡ size q.target
    → ((asks || in_asks) ≡ true → (u : ℕ) → u < size q.target → (t ≡ u → ⊥) → get_or counts u 0 ≡ common q.target t u)
    → ServeAll q kinds t counts counts true
serve_mutual q kinds t counts asks in_asks ways law asked t_in long right = record {
  each = λ i k k_is. record {
    long = long;
    back_long = long;
    told = λ u u_in ne. tells k.shared (get_or counts u 0) (common q.target t u)
        (asked_or asks k.shared (get_or counts u 0) (common q.target t u) (λ no. asked.none no i k k_is) (λ yes. right (one_of asks in_asks yes) u u_in ne));
    back_told = λ u u_in ne. tells k.in_shared (get_or counts u 0) (common (reversed q.target) t u)
        (asked_or in_asks k.in_shared (get_or counts u 0) (common (reversed q.target) t u) (λ no. asked.in_none no i k k_is)
        (λ yes. right (either_of asks in_asks yes) u u_in ne ∙ sym (law q.target t u ways t_in u_in)));
    both = λ _. ways;
  };
}

-- else there are two
pub serve_turned : (q : Problem) (kinds : List PairKind) (t : ℕ) (counts in_counts : List ℕ) (asks in_asks : Bool) → AskAs kinds asks in_asks
    → length counts ≡ size q.target → length in_counts ≡ size q.target
    → (asks ≡ true → (u : ℕ) → u < size q.target → (t ≡ u → ⊥) → get_or counts u 0 ≡ common q.target t u)
    → (in_asks ≡ true → (u : ℕ) → u < size q.target → (t ≡ u → ⊥) → get_or in_counts u 0 ≡ common (reversed q.target) t u)
    → ServeAll q kinds t counts in_counts false
serve_turned q kinds t counts in_counts asks in_asks asked long in_long right in_right = record {
  each = λ i k k_is. record {
    long = long;
    back_long = in_long;
    told = λ u u_in ne. tells k.shared (get_or counts u 0) (common q.target t u)
        (asked_or asks k.shared (get_or counts u 0) (common q.target t u) (λ no. asked.none no i k k_is) (λ yes. right yes u u_in ne));
    back_told = λ u u_in ne. tells k.in_shared (get_or in_counts u 0) (common (reversed q.target) t u)
        (asked_or in_asks k.in_shared (get_or in_counts u 0) (common (reversed q.target) t u) (λ no. asked.in_none no i k k_is) (λ yes. in_right yes u u_in ne));
    both = λ told. absurd (false≢true told);
  };
}

-- whichever it is
pub serve_all : (q : Problem) (kinds : List PairKind) (t : ℕ) (counts in_counts : List ℕ) (both_ways asks in_asks : Bool) → (both_ways ≡ true → IsMutual q.target) → MutualShared
    → AskAs kinds asks in_asks → t < size q.target → length counts ≡ size q.target → (both_ways ≡ false → length in_counts ≡ size q.target)
    → ((asks || both_ways && in_asks) ≡ true → (u : ℕ) → u < size q.target → (t ≡ u → ⊥) → get_or counts u 0 ≡ common q.target t u)
    → (both_ways ≡ false → in_asks ≡ true → (u : ℕ) → u < size q.target → (t ≡ u → ⊥) → get_or in_counts u 0 ≡ common (reversed q.target) t u)
    → ServeAll q kinds t counts (if both_ways then counts else in_counts) both_ways
serve_all q kinds t counts in_counts true asks in_asks ways law asked t_in long in_long right in_right =
    serve_mutual q kinds t counts asks in_asks (ways refl) law asked t_in long right
serve_all q kinds t counts in_counts false asks in_asks ways law asked t_in long in_long right in_right =
    serve_turned q kinds t counts in_counts asks in_asks asked long (in_long refl) (λ yes. right (one_of asks false yes)) (in_right refl)
