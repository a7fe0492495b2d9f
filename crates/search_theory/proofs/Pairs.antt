-- An embedding, by its vertices one by one and in pairs.

use Rattle.std.proofs.Common.{◌≡◌, ℕ, ◌<◌, ◌≤◌, List, slice_index, subst, sym, ◌∙◌}
use Rattle.graph_theory.specs.Graph.{Graph, size}
use Rattle.graph_theory.specs.Neighbours.{common, sequence, IsKeptBy}
use Rattle.graph_theory.specs.Asked.{asked_degree, room, asked_sequence, asked_shared}
use Rattle.graph_theory.proofs.NeighbourCounts.{degree_is_kept, sequence_is_kept, shared_are_kept, shared_is_symmetric, asked_is_symmetric}
use Rattle.graph_theory.proofs.BlockProofs.{differ_is_symmetric}
use Rattle.graph_theory.specs.Plain.{ArePlain}
use Rattle.graph_theory.specs.Reversed.{reversed, reversed_problem, AreMutual}
use Rattle.graph_theory.proofs.ReversedGraphs.{embeds_reversed, sequence-mutual, common-mutual, mutual_of_plain}
use Rattle.graph_theory.proofs.AskedMutual.{asked_degree-mutual, room-mutual, asked_sequence-mutual, asked_shared-mutual}
use Rattle.search_theory.specs.Consistency.{IsFirstValue, AreConsistent}
use Rattle.graph_theory.specs.Embedding.{Problem, Embeds, Allowed, Compatible}

-- an embedding sends a vertex only where it is allowed by itself
pub alone_of : (q : Problem) (m : List ℕ) (p t : ℕ) → Embeds q m → p < size q.pattern → slice_index m p ≡ t → Allowed q p t
alone_of q m p t e p_in is = subst (λ (u : ℕ). Allowed q p u) is (record { label_is = e.labels p p_in; loop_is = e.edges p p p_in p_in })

-- and two vertices only where they go together
pub together_of : (q : Problem) (m : List ℕ) (p t r u : ℕ) → Embeds q m → p < size q.pattern → r < size q.pattern → (p ≡ r → ⊥)
    → slice_index m p ≡ t → slice_index m r ≡ u → Compatible q p t r u
together_of q m p t r u e p_in r_in apart p_is r_is =
    subst (λ (v : ℕ). Compatible q p v r u) p_is (subst (λ (v : ℕ). Compatible q p (slice_index m p) r v) r_is (record {
      apart = λ two same. apart (e.distinct p r p_in r_in two same);
      out = e.edges p r p_in r_in;
      back = e.edges r p r_in p_in;
    }))

-- so each image is in its vertex's first domain: an embedding is one of the reversed graphs too
pub first_value_of : (q : Problem) (m : List ℕ) (p t : ℕ) → Embeds q m → p < size q.pattern → slice_index m p ≡ t → IsFirstValue q p t
first_value_of q m p t e p_in is = subst (λ (u : ℕ). IsFirstValue q p u) is (record {
  alone = record { label_is = e.labels p p_in; loop_is = e.edges p p p_in p_in };
  in_degree = degree_is_kept (reversed_problem q) m p (embeds_reversed q m e) p_in;
  degree = degree_is_kept q m p e p_in;
  in_sequence = sequence_is_kept (reversed_problem q) m p (embeds_reversed q m e) p_in;
  sequence = sequence_is_kept q m p e p_in;
})

-- and two images are consistent
pub consistent_of : (q : Problem) (m : List ℕ) (p t r u : ℕ) → Embeds q m → p < size q.pattern → r < size q.pattern → (p ≡ r → ⊥)
    → slice_index m p ≡ t → slice_index m r ≡ u → AreConsistent q p t r u
consistent_of q m p t r u e p_in r_in apart p_is r_is = record {
  pair = together_of q m p t r u e p_in r_in apart p_is r_is;
  shared = shared_of q e p_in r_in;
  in_shared = shared_of (reversed_problem q) (embeds_reversed q m e) p_in r_in;
}
  where
    shared_of : (w : Problem) → Embeds w m → p < size w.pattern → r < size w.pattern → asked_shared w p r ≤ common w.target t u
    shared_of w h w_p w_r =
        subst (λ (v : ℕ). asked_shared w p r ≤ common w.target v u) p_is
        (subst (λ (v : ℕ). asked_shared w p r ≤ common w.target (slice_index m p) v) r_is (shared_are_kept w m p r h w_p w_r))

-- that two pairs are consistent does not depend on their order
pub consistent_other : (q : Problem) (p t r u : ℕ) → AreConsistent q p t r u → AreConsistent q r u p t
consistent_other q p t r u c = record {
  pair = record {
    apart = λ two same. c.pair.apart (differ_is_symmetric q p r ∙ two) (sym same);
    out = c.pair.back;
    back = c.pair.out;
  };
  shared = other q c.shared;
  in_shared = other (reversed_problem q) c.in_shared;
}
  where
    other : (w : Problem) → asked_shared w p r ≤ common w.target t u → asked_shared w r p ≤ common w.target u t
    other w le =
        subst (λ (n : ℕ). n ≤ common w.target u t) (asked_is_symmetric w p r)
        (subst (λ (n : ℕ). asked_shared w p r ≤ n) (shared_is_symmetric w.target t u) le)

-- ---- graphs whose edges stand both ways: what is asked of one direction is enough

pub mutual_first_value : (q : Problem) (p t : ℕ) → AreMutual q → p < size q.pattern → t < size q.target
    → Allowed q p t → asked_degree q p ≤ room q t → IsKeptBy (asked_sequence q p) (sequence q.target t) → IsFirstValue q p t
mutual_first_value q p t ways p_in t_in alone degrees sequences = record {
  alone = alone;
  in_degree =
      subst (λ (n : ℕ). n ≤ room (reversed_problem q) t) (sym (asked_degree-mutual q p ways.pattern_mutual p_in))
      (subst (λ (n : ℕ). asked_degree q p ≤ n) (sym (room-mutual q t ways.target_mutual t_in)) degrees);
  degree = degrees;
  in_sequence =
      subst (λ (xs : List ℕ). IsKeptBy xs (sequence (reversed q.target) t)) (sym (asked_sequence-mutual q p ways.pattern_mutual p_in))
      (subst (λ (ys : List ℕ). IsKeptBy (asked_sequence q p) ys) (sym (sequence-mutual q.target t ways.target_mutual t_in)) sequences);
  sequence = sequences;
}

pub mutual_consistent : (q : Problem) (p t r u : ℕ) → AreMutual q → p < size q.pattern → t < size q.target → r < size q.pattern → u < size q.target
    → Compatible q p t r u → asked_shared q p r ≤ common q.target t u → AreConsistent q p t r u
mutual_consistent q p t r u ways p_in t_in r_in u_in pair shared = record {
  pair = pair;
  shared = shared;
  in_shared =
      subst (λ (n : ℕ). n ≤ common (reversed q.target) t u) (sym (asked_shared-mutual q p r ways.pattern_mutual p_in r_in))
      (subst (λ (n : ℕ). asked_shared q p r ≤ n) (sym (common-mutual q.target t u ways.target_mutual t_in u_in)) shared);
}

-- plain graphs are such
pub are_mutual : (q : Problem) → ArePlain q → AreMutual q
are_mutual q plain = record { pattern_mutual = mutual_of_plain q.pattern plain.pattern_plain; target_mutual = mutual_of_plain q.target plain.target_plain }

pub plain_first_value : (q : Problem) (p t : ℕ) → ArePlain q → p < size q.pattern → t < size q.target
    → Allowed q p t → asked_degree q p ≤ room q t → IsKeptBy (asked_sequence q p) (sequence q.target t) → IsFirstValue q p t
plain_first_value q p t plain p_in t_in alone degrees sequences = mutual_first_value q p t (are_mutual q plain) p_in t_in alone degrees sequences

pub plain_consistent : (q : Problem) (p t r u : ℕ) → ArePlain q → p < size q.pattern → t < size q.target → r < size q.pattern → u < size q.target
    → Compatible q p t r u → asked_shared q p r ≤ common q.target t u → AreConsistent q p t r u
plain_consistent q p t r u plain p_in t_in r_in u_in pair shared = mutual_consistent q p t r u (are_mutual q plain) p_in t_in r_in u_in pair shared
