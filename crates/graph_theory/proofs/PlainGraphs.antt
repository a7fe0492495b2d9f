-- The graph of a text without directions has each edge both ways, with label 0.

use Rattle.std.proofs.Common.{◌≡◌, ℕ, ◌<◌, ◌≤◌, zero, suc, Bool, true, false, if◌then◌else◌, eqb, List, [], ◌∷◌, length, Option, Some, None, refl, sym, subst, ◌∙◌, inl, inr, ◌⊎◌}
use Rattle.std.proofs.lemmas.Bool.{cases_lt}
use Rattle.graph_theory.specs.Lad.{Vertex, HasEdgeLabel, AreEach, AreVertices, listed_label}
use Rattle.graph_theory.specs.Graph.{Graph, edge, lists, or_label, either_lists, graph_of}
use Rattle.graph_theory.specs.Plain.{IsPlain, UndirectedIsPlain}
use Rattle.graph_theory.specs.declared.lad_text.LadKind.{LadKind}
use Rattle.graph_theory.specs.declared.lad_text.LadKind.TheVariants.{Lad, VertexLabelledLad, DirectedLad, LabelledLad}
use Rattle.graph_theory.proofs.Tables.{edge-graph_with, edge-graph_with_from, edge-graph_with_to}

-- A label that is there is 0.
abbrev pub IsZero : Option ℕ → Type 0
IsZero o = (l : ℕ) → o ≡ Some l → l ≡ 0

-- A list whose labels are 0 gives no other.
listed_zero : (kind : LadKind) (n : ℕ) (es : List (ℕ × ℕ)) (b : ℕ) → ((k : ℕ) → HasEdgeLabel kind k → k ≡ 0) → AreEach kind n es → IsZero (listed_label es b)
listed_zero kind n [] b zeros h l is = cc
listed_zero kind n (e ∷ es) b zeros h l is = by (eqb e.0 b) is (listed_zero kind n es b zeros h.2 l)
  where
    by : (t : Bool) → (if t then Some e.1 else listed_label es b) ≡ Some l → (listed_label es b ≡ Some l → l ≡ 0) → l ≡ 0
    by true own rest = let own_is : e.1 ≡ 0 = zeros e.1 h.1 in cc
    by false own rest = rest own

-- Nor does a vertex of such a text.
lists_zero : (kind : LadKind) (n : ℕ) (vs : List Vertex) (a b : ℕ) → ((k : ℕ) → HasEdgeLabel kind k → k ≡ 0) → AreVertices kind n vs → IsZero (lists vs a b)
lists_zero kind n [] a b zeros h l is = cc
lists_zero kind n (v ∷ vs) zero b zeros h l is = listed_zero kind n v.listed b zeros h.0.listed.each l is
lists_zero kind n (v ∷ vs) (suc a) b zeros h l is = lists_zero kind n vs a b zeros h.1 l is

-- Of two labels that are 0 where they are there, either comes first.
pub or_turned : (o p : Option ℕ) → IsZero o → IsZero p → or_label o p ≡ or_label p o
or_turned None None h k = refl
or_turned None (Some m) h k = refl
or_turned (Some l) None h k = refl
or_turned (Some l) (Some m) h k = let l_is : l ≡ 0 = h l refl in let m_is : m ≡ 0 = k m refl in cc

pub or_zero : (o p : Option ℕ) → IsZero o → IsZero p → IsZero (or_label o p)
or_zero None p h k = k
or_zero (Some m) p h k = h

-- A graph of edges that go both ways with label 0 is plain.
pub plain_of : (vs : List Vertex) → ((a b : ℕ) → IsZero (lists vs a b)) → IsPlain (graph_of vs)
plain_of vs zeros = record { both = λ a b. both a b (cases_lt a (length vs)) (cases_lt b (length vs)); zeros = λ a b. zero_at a b (cases_lt a (length vs)) (cases_lt b (length vs)) }
  where
    both : (a b : ℕ) → (a < length vs) ⊎ (length vs ≤ a) → (b < length vs) ⊎ (length vs ≤ b) → edge (graph_of vs) a b ≡ edge (graph_of vs) b a
    both a b (inl a_in) (inl b_in) =
        edge-graph_with (either_lists vs) vs a b a_in b_in ∙ or_turned (lists vs a b) (lists vs b a) (zeros a b) (zeros b a) ∙ sym (edge-graph_with (either_lists vs) vs b a b_in a_in)
    both a b (inr a_out) (inl b_in) = edge-graph_with_from (either_lists vs) vs a b a_out ∙ sym (edge-graph_with_to (either_lists vs) vs b a b_in a_out)
    both a b (inl a_in) (inr b_out) = edge-graph_with_to (either_lists vs) vs a b a_in b_out ∙ sym (edge-graph_with_from (either_lists vs) vs b a b_out)
    both a b (inr a_out) (inr b_out) = edge-graph_with_from (either_lists vs) vs a b a_out ∙ sym (edge-graph_with_from (either_lists vs) vs b a b_out)

    zero_at : (a b : ℕ) → (a < length vs) ⊎ (length vs ≤ a) → (b < length vs) ⊎ (length vs ≤ b) → IsZero (edge (graph_of vs) a b)
    zero_at a b (inl a_in) (inl b_in) l is =
        or_zero (lists vs a b) (lists vs b a) (zeros a b) (zeros b a) l (sym (edge-graph_with (either_lists vs) vs a b a_in b_in) ∙ is)
    zero_at a b (inr a_out) k l is = let none = edge-graph_with_from (either_lists vs) vs a b a_out in absurd (cc)
    zero_at a b (inl a_in) (inr b_out) l is = let none = edge-graph_with_to (either_lists vs) vs a b a_in b_out in absurd (cc)

-- The graph of a text without directions is plain.
pub undirected_is_plain_holds : UndirectedIsPlain
undirected_is_plain_holds ws Lad limit g u r =
    subst (λ (h : Graph). IsPlain h) (sym r.graph_is) (plain_of r.vertices (λ a b. lists_zero Lad (length r.vertices) r.vertices a b (λ k e. e) r.reads.each))
undirected_is_plain_holds ws VertexLabelledLad limit g u r =
    subst (λ (h : Graph). IsPlain h) (sym r.graph_is) (plain_of r.vertices (λ a b. lists_zero VertexLabelledLad (length r.vertices) r.vertices a b (λ k e. e) r.reads.each))
undirected_is_plain_holds ws DirectedLad limit g u r = absurd u
undirected_is_plain_holds ws LabelledLad limit g u r = absurd u
