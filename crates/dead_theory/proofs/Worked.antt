-- A worked example: three vertices, of which 0 and 1 are joined, into the target of the edge 0 to 1 and a vertex 2. With 0 at 2 there is no value
-- for 1. What left the domains of 2 and 0 meanwhile is passed.
use Rattle.std.proofs.Common.{◌≡◌, ◌<◌, ◌==◌, ℕ, Bool, true, false, List, [], ◌∷◌, map, None, refl, sym, ◌∙◌, inl, inr}
use Rattle.std.proofs.lemmas.Bool.{eqb-true}
use Rattle.graph_theory.specs.Lad.{Vertex}
use Rattle.graph_theory.specs.Graph.{graph_of, size}
use Rattle.graph_theory.specs.Embedding.{Problem}
use Rattle.graph_theory.specs.declared.embedding.Maps.TheVariants.{Injective}
use Rattle.proof_theory.specs.Forms.{put, sorted}
use Rattle.proof_theory.specs.Slack.{refutes, negations}
use Rattle.encoding_theory.specs.Encoding.{at_least, pair_form}
use Rattle.explanation_theory.specs.Reasons.{not_there}
use Rattle.recorder.specs.declared.change.Cause.TheVariants as cause
use Rattle.recorder.specs.Recording.{Change, LeftOne}
use Rattle.dead_theory.specs.Changes.{Chosen, MayTake, set_forms}
use Rattle.dead_theory.specs.Walks.{IsChoice, nothing, keeps, passes}

-- A vertex that lists these neighbours.
abbrev to : List (ℕ × ℕ) → Vertex
to neighbours = record { label = 0; listed = neighbours }

abbrev example : Problem
example = record {
  pattern = graph_of (to ((1, 0) ∷ []) ∷ to ((0, 0) ∷ []) ∷ to [] ∷ []);
  target = graph_of (to ((1, 0) ∷ []) ∷ to ((0, 0) ∷ []) ∷ to [] ∷ []);
  induced = false;
  maps = Injective;
  less = [];
}

-- The guess, then what 0 at 2 takes from 2, then what it takes from 1.
abbrev guessed : Change
guessed = LeftOne 0 (cause.Guess 2) 0

abbrev taken_from_two : Change
taken_from_two = LeftOne 2 (cause.Vertex 0 2) 2

abbrev taken_from_one : Change
taken_from_one = LeftOne 1 (cause.Vertex 0 2) 3

-- All values of vertex 1.
abbrev of_one : ℕ → ℕ → Bool
of_one r u = r == 1

one_not_two : ◌≡◌ {A = ℕ} 1 2 → ⊥
one_not_two e = cc

one_not_none : ◌≡◌ {A = ℕ} 1 0 → ⊥
one_not_none e = cc

taken_apart : (r u : ℕ) → u < size example.target → of_one r u ≡ true → MayTake example [] taken_from_two r u → ⊥
taken_apart r u u_in is takes = one_not_two (sym (eqb-true r 1 is) ∙ takes.0)

taken_at_all : (r u : ℕ) → u < size example.target → of_one r u ≡ true → MayTake example [] guessed r u → ⊥
taken_at_all r u u_in is takes = one_not_none (sym (eqb-true r 1 is) ∙ takes.0)

-- What 0 at 2 takes from 1, with all that is asked.
abbrev asked : Chosen
asked = record { change = taken_from_one; by_edges = false }

-- Vertex 1 is needed. Before its change no more is, since the path has 0 at 2; so what left 2 is passed, and the guess too.
chosen : IsChoice example [] ((0, 2) ∷ []) (taken_from_one ∷ taken_from_two ∷ guessed ∷ []) (asked ∷ []) of_one
chosen = keeps asked (taken_from_two ∷ guessed ∷ []) [] of_one of_one (record { suffices = λ r u u_in is same together. together; carried = λ r u is. inl is; needs = inr (inl (inl refl)) })
    (passes taken_from_two (guessed ∷ []) [] of_one taken_apart (passes guessed [] [] of_one taken_at_all (nothing of_one)))

-- The forms of the change that is chosen, and the end's, lead to a conflict with the path's negation,
path_refuted : refutes (negations (map (not_there example) ((0, 2) ∷ []))) (pair_form example 0 1 2 ∷ at_least example 1 ∷ []) ≡ true
unfolding sorted put
path_refuted = refl

-- and without it they do not.
not_without : refutes (negations (map (not_there example) ((0, 2) ∷ []))) (at_least example 1 ∷ []) ≡ false
unfolding sorted put
not_without = refl

-- No edge leads to 2, so it leaves the domain of 1, which has an edge with 0: the encoding's line for the two refutes it by itself.
edge_refuted : refutes (negations (map (not_there example) ((1, 2) ∷ []))) (pair_form example 1 0 2 ∷ []) ≡ true
unfolding sorted put
edge_refuted = refl

-- Three vertices with two values together, under no guess at all: with both values' constraints one line is a conflict by itself.
set_refuted : refutes (negations []) (set_forms (record example { target = graph_of (to [] ∷ to [] ∷ []) }) None (0 ∷ 1 ∷ 2 ∷ []) (0 ∷ 1 ∷ [])) ≡ true
unfolding sorted put
set_refuted = refl
